-- What the old version shows rests on old halves.
use Rattle.std.proofs.Common.{◌≡◌, [], ap, subst, sym}
use Rattle.std.specs.Prelude.{unwrap_or}
use Rattle.row_rules.specs.Site.{Site, shown, shown_by}
use Rattle.row_rules.specs.Words.{Halves, Old}

pub old_shows : (site : Site) (halves others : Halves) → site.side ≡ Old → halves.old ≡ others.old → shown site halves ≡ shown site others
old_shows site halves others side same =
    subst (λ side. shown_by site.there side halves ≡ shown_by site.there side others) (sym side) (ap (λ half. unwrap_or half []) same)

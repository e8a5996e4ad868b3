-- Tables, sites and rows of a state that stands, as the layers above meet them.
use Rattle.machine.specs.Below.{Below}
use Rattle.machine.specs.Laws.{ChangesKeep, FillingStands, FoundStands, RowsOnSites, RowsStandBy, SharedStands, ShowsStand, WritesStand}
use Rattle.machine.specs.State.{site_of}
use Rattle.machine.specs.Statement.{Shows, Writes}
use Rattle.machine.proofs.FoundSites.{row_on_site, site_stands}
use Rattle.machine.proofs.Lines.{begun_stands}
use Rattle.machine.proofs.Pairs.{found_stands, new_stands, pair_stands}
use Rattle.machine.proofs.Replacing.{rows_stand}
use Rattle.machine.proofs.SiteChanges.{changes_stand}

pub found_sites_stand : FoundStands
found_sites_stand s path name found stands is =
    let f = found_stands s path name found stands is in
    (f, site_stands s stands found f)

pub writes_stand : Below → WritesStand
writes_stand below s path stmt site what stands is =
    let b = begun_stands below s path stmt (Writes site what) stands is in
    (b.0.found, b.0.is, b.0.stands, b.1)

pub shows_stand : Below → ShowsStand
shows_stand below s path stmt site items condition stands is =
    let b = begun_stands below s path stmt (Shows site items condition) stands is in
    (b.found, b.is, b.stands)

pub shared_stands : SharedStands
shared_stands s number pair stands is = pair_stands s number pair stands is

pub filling_stands : FillingStands
filling_stands s number pair stands is = new_stands s number pair stands is

pub rows_stand_by : RowsStandBy
rows_stand_by s number stands = rows_stand s number stands

pub rows_on_sites : RowsOnSites
rows_on_sites s found row stands f r = row_on_site s stands (λ lost. Unit {0}) found f row r tt

pub changes_keep : Below → ChangesKeep
changes_keep below s found what older all stands f j r h = changes_stand (λ lost. Unit {0}) below (site_of s found) (site_stands s stands found f) what older all j tt r h

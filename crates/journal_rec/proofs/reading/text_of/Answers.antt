use Rattle.std.proofs.lemmas.Option.{MatchOption-at_some, MatchOption-at_none}
use Rattle.journal_rec.proofs.Texts.{text_read, no_text_read}
use Rattle.journal_rec.proofs.reading.text_of.Goals as goal

pub returns-in-Some : goal.returns-in-Some
returns-in-Some c =
    let found = MatchOption-at_some _ _ c.in-Some.text c.in-Some.is c.in_ok-text-2.ensures in
    rw found.1 (text_read _ _ _ _ _ c.in_ok-len.ensures c.in_ok-text.ensures found.0)

pub returns-in-None : goal.returns-in-None
returns-in-None c =
    no_text_read _ _ _ _ _ c.in_ok-len.ensures c.in_ok-text.ensures (MatchOption-at_none _ _ c.in-None.is c.in_ok-text-2.ensures)

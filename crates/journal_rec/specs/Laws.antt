-- Laws of the format.
use Rattle.std.specs.Prelude.{◌≡◌, ℕ, ◌+◌, ◌*◌, ◌^◌, ◌<◌, ◌≤◌, List, length, slice_index, Some}
use Rattle.std.specs.List.{sum_by}
use Rattle.journal_rec.specs.declared.records.Record.{Record}
use Rattle.journal_rec.specs.declared.records.Record.TheVariants.{Rows}
use Rattle.journal_rec.specs.declared.records.RecordedRow.{RecordedRow}
use Rattle.journal_rec.specs.Body.{IsBody, body_of}
use Rattle.journal_rec.specs.Reading.{record_in}
use Rattle.journal_rec.specs.Size.{body_size, stored_weight}

-- No bytes are the body of two records.
abbrev pub BodyIsOfOneRecord : Type 0
BodyIsOfOneRecord = (bytes : List ℕ) (r other : Record) → IsBody bytes r → IsBody bytes other → r ≡ other

-- A body is read as its record, and what bytes are read as a record are its body.
abbrev pub BodyIsRead : Type 0
BodyIsRead = (bytes : List ℕ) (r : Record) → IsBody bytes r → record_in bytes ≡ Some r

abbrev pub ReadIsOfItsBody : Type 0
ReadIsOfItsBody =
    (bytes : List ℕ) (r : Record) → ((i : ℕ) → slice_index bytes i < 2 ^ 8) → record_in bytes ≡ Some r → IsBody bytes r

abbrev pub BodyHasItsSize : Type 0
BodyHasItsSize = (r : Record) → length (body_of r) ≡ body_size r

-- A record of rows has 9 bytes, per row at most 11, and what the rows weigh.
abbrev pub RowsAreBounded : Type 0
RowsAreBounded =
    (table : ℕ) (rows : List RecordedRow) → body_size (Rows table rows) ≤ 9 + 11 * length rows + sum_by stored_weight rows

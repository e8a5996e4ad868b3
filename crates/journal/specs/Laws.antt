-- Laws of the format.
use Rattle.std.specs.Prelude.{◌≡◌, ◌≢◌, ℕ, List, take, Some, None}
use Rattle.journal.specs.Records.{head, Reads, journal_in}

-- A file that reads as some records has just these.
abbrev pub ReadsAsOneList : Type 0
ReadsAsOneList = (rs : List (List ℕ)) (file : List ℕ) → Reads rs file → journal_in file ≡ Some rs

-- A file with another beginning is no journal.
abbrev pub BeginsOrIsNone : Type 0
BeginsOrIsNone = (file : List ℕ) → take 8 file ≢ head → journal_in file ≡ None

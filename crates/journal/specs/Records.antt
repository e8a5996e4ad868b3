-- The text of a list of records, and what a file stands for.
use Rattle.std.specs.Prelude.{◌≡◌, ◌≢◌, ◌⊎◌, ℕ, ◌+◌, ◌<◌, ◌≤◌, zero, suc, List, [], ◌∷◌, ◌++◌, length, take, drop, if◌then◌else◌, ◌==◌, ◌&&◌, nat_le, Bool, Option, Some, None}
use Rattle.std.specs.Option.{option_map}
use Rattle.std.specs.Str.{bytes_eq}
use Rattle.std.specs.Int.{w32, to_be_bytes, from_be_bytes}

-- the most bytes that a record may have, and a journal
abbrev pub record_limit : ℕ
record_limit = 134217728

abbrev pub journal_limit : ℕ
journal_limit = 1073741824

-- a journal begins with ROLLJNL1
abbrev pub head : List ℕ
head = 82 ∷ 79 ∷ 76 ∷ 76 ∷ 74 ∷ 78 ∷ 76 ∷ 49 ∷ []

-- Any bytes may be a record, if there are some and not too many.
abbrev pub IsRecord : List ℕ → Type 0
IsRecord r = (1 ≤ length r) × (length r ≤ 134217728)

abbrev pub AreRecords : List (List ℕ) → Type 0
AreRecords [] = Unit {0}
AreRecords (r ∷ rs) = IsRecord r × AreRecords rs

-- a record's length, in four bytes, the highest first
abbrev pub lead : List ℕ → List ℕ
lead r = to_be_bytes w32 (length r)

-- the records, each behind its open gate, which is the byte 1, and its length
abbrev pub pieces : List (List ℕ) → List ℕ
pieces [] = []
pieces (r ∷ rs) = 1 ∷ (lead r ++ (r ++ pieces rs))

-- what stands before the gate that follows these records
abbrev pub front : List (List ℕ) → List ℕ
front rs = head ++ pieces rs

-- the file reads, up to its first closed gate, as these records; what follows that gate isn't looked at
pub record Reads (rs : List (List ℕ)) (file : List ℕ) : Type 0 where
  pub records : AreRecords rs
  pub gate : ℕ
  pub behind : List ℕ
  pub closed : gate ≢ 1
  pub text : file ≡ front rs ++ gate ∷ behind

-- the number that the first four bytes are
abbrev pub lead_of : List ℕ → ℕ
lead_of bytes = from_be_bytes w32 (take 4 bytes)

-- the records behind open gates, at most so many
abbrev pub records_in : ℕ → List ℕ → List (List ℕ)
records_in zero bytes = []
records_in (suc n) [] = []
records_in (suc n) (gate ∷ rest) = if gate == 1 then take (lead_of rest) (drop 4 rest) ∷ records_in n (drop (lead_of rest) (drop 4 rest)) else []

-- what stands behind open gates, whether or not the file is a journal
abbrev pub records_of : List ℕ → List (List ℕ)
records_of file = records_in (length file) (drop 8 file)

-- behind an open gate stand a length and as many bytes
abbrev pub has_record : List ℕ → Bool
has_record behind =
    nat_le 4 (length behind) && (nat_le 1 (lead_of behind)
    && (nat_le (lead_of behind) record_limit && nat_le (4 + lead_of behind) (length behind)))

-- the records from this gate on, where there are fewer than so many, up to the first closed gate; none where a gate
-- is missing or has no record behind it
abbrev pub listed : ℕ → List ℕ → Option (List (List ℕ))
listed zero bytes = None
listed (suc n) [] = None
listed (suc n) (gate ∷ rest) =
    if gate == 1 then
    (if has_record rest then
    option_map (λ rs. take (lead_of rest) (drop 4 rest) ∷ rs) (listed n (drop (lead_of rest) (drop 4 rest)))
    else None)
    else Some []

-- The records of a file, up to its first closed gate; none for bytes that are no journal, or have a bad record.
abbrev pub journal_in : List ℕ → Option (List (List ℕ))
journal_in file = if bytes_eq (take 8 file) head then listed (length file) (drop 8 file) else None

-- the text of a journal of these records; what stands behind it isn't looked at
abbrev pub BeginsAsJournal : List (List ℕ) → List ℕ → Type 0
BeginsAsJournal rs file = (behind : List ℕ) × (file ≡ front rs ++ 0 ∷ behind)

-- what is written behind a gate: the record, and the closed gate that follows it
abbrev pub behind_text : List ℕ → List ℕ
behind_text r = lead r ++ (r ++ 0 ∷ [])

-- ---- what stands at an offset

-- a record behind an open gate
abbrev pub IsPieceAt : List ℕ → ℕ → List ℕ → Type 0
IsPieceAt file at r = (rest : List ℕ) × (drop at file ≡ 1 ∷ (lead r ++ (r ++ rest)))

-- a closed gate
abbrev pub IsShutAt : List ℕ → ℕ → Type 0
IsShutAt file at = (gate : ℕ) × (behind : List ℕ) × (gate ≢ 1) × (drop at file ≡ gate ∷ behind)

-- behind an open gate the length is cut off, is 0, is above the limit, or passes the file's end
abbrev pub LacksRecord : List ℕ → Type 0
LacksRecord behind = (length behind < 4) ⊎ ((lead_of behind ≡ 0) ⊎ ((134217728 < lead_of behind) ⊎ (length behind < 4 + lead_of behind)))

-- there is no gate, or behind an open gate no record
abbrev pub IsBadAt : List ℕ → ℕ → Type 0
IsBadAt file at = (drop at file ≡ []) ⊎ ((behind : List ℕ) × (drop at file ≡ 1 ∷ behind) × LacksRecord behind)

-- ---- the limit

-- a record behind a gate at this offset, with the closed gate behind it, would pass the journal's limit
abbrev pub Passes : ℕ → List ℕ → Type 0
Passes gate r = journal_limit < gate + 6 + length r

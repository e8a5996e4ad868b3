-- The records of a text, in turn.
use Rattle.std.proofs.Common.{◌≡◌, ℕ, zero, suc, ◌+◌, ◌<◌, ◌≤◌, List, [], ◌∷◌, length, Bool, true, false, Option, Some, None, ◌||◌, eqb, refl, sym, ap, ◌∙◌, subst, arith, cond}
use Rattle.csv.specs.Machine.{Read, ends_at_end, in_field, is_end, next_record, start_field, start_record, step}
use Rattle.csv.specs.declared.parser.Action.{Action}
use Rattle.csv.specs.declared.parser.Action.TheVariants as act
use Rattle.sql_base.specs.Laws.{some_same}
use Rattle.csv.specs.Reading.{AreRecords, Reached, default_config, is_bom, records, records_from, records_next, strip_bom}
use Rattle.csv.specs.declared.parser.Config.{Config}
use Rattle.csv.specs.declared.parser.State.{State}
use Rattle.csv.specs.declared.parser.State.TheVariants as st

-- ---- the records as a list

found_next : (more : State → List ℕ → List (List (List ℕ))) (next : Option Read) (p : Read) → next ≡ Some p → records_next more next ≡ p.0 ∷ more p.1 p.2
found_next more next p h = ap (records_next more) h

pub records_are : (cfg : Config) (n : ℕ) (s : State) (xs : List ℕ) (rows : List (List (List ℕ))) (s2 : State) (ys : List ℕ) →
    Reached cfg s xs rows s2 ys → next_record cfg s2 [] [] ys ≡ None → length rows < n → records_from cfg n s xs ≡ rows
unfolding Reached records_from
records_are cfg zero s xs rows s2 ys h e less = absurd (omega arith)
records_are cfg (suc n) s xs [] s2 ys h e less =
    let none : next_record cfg s [] [] xs ≡ None = rw (h.0, h.1) e in
    ap (records_next (records_from cfg n)) none
records_are cfg (suc n) s xs (row ∷ rows) s2 ys h e less =
    let rest = records_are cfg n h.0.1 h.0.2 rows s2 ys h.3 e (omega arith) in
    found_next (records_from cfg n) (next_record cfg s [] [] xs) h.0 h.1 ∙ rw (h.2, rest) refl

-- ---- a record takes bytes

-- No record stands at the end of a text in such a state.
abbrev pub IsBetween : State → Type 0
IsBetween s = ends_at_end s ≡ false

-- what a byte does in a field, by whether it is a comma, a carriage return or a newline
abbrev pub in_field_by : Bool → Bool → Bool → State × Action
in_field_by comma return newline =
    cond comma (st.StartField, act.EndField)
    (cond (return || newline) (cond return st.AfterCr st.StartRecord, act.EndRecord) (st.InField, act.Copy))

in_field_ends : (a b d : Bool) → is_end (in_field_by a b d).1 ≡ true → IsBetween (in_field_by a b d).0
in_field_ends true b d h = cc
in_field_ends false true d h = refl
in_field_ends false false true h = refl
in_field_ends false false false h = cc

-- or something else is done with it
either_ends : (t : Bool) (s : State) (a : Action) (other : State × Action) → is_end a ≡ false →
    (is_end other.1 ≡ true → IsBetween other.0) →
    is_end (cond t (s, a) other).1 ≡ true → IsBetween (cond t (s, a) other).0
either_ends true s a other none more h = cc
either_ends false s a other none more h = more h

field_ends : (c : ℕ) → is_end (in_field default_config c).1 ≡ true → IsBetween (in_field default_config c).0
field_ends c = in_field_ends (eqb c 44) (eqb c 13) (eqb c 10)

start_ends : (c : ℕ) → is_end (start_field default_config c).1 ≡ true → IsBetween (start_field default_config c).0
start_ends c = either_ends (eqb c 34) st.InQuoted act.Skip (in_field default_config c) refl (field_ends c)

record_ends : (c : ℕ) → is_end (start_record default_config c).1 ≡ true → IsBetween (start_record default_config c).0
record_ends c = either_ends (eqb c 13 || eqb c 10) st.StartRecord act.Skip (start_field default_config c) refl (start_ends c)

step_ends : (s : State) (c : ℕ) → is_end (step default_config s c).1 ≡ true → IsBetween (step default_config s c).0
step_ends st.StartRecord c h = record_ends c h
step_ends st.StartField c h = start_ends c h
step_ends st.InField c h = field_ends c h
step_ends st.InQuoted c h = either_ends (eqb c 34) st.AfterQuote act.Skip (st.InQuoted, act.Copy) refl (λ e. cc) h
step_ends st.AfterQuote c h = either_ends (eqb c 34) st.InQuoted act.Copy (in_field default_config c) refl (field_ends c) h
step_ends st.InEscape c h = cc
step_ends st.InComment c h = either_ends (eqb c 10) st.StartRecord act.Skip (st.InComment, act.Skip) refl (λ e. cc) h
step_ends st.AfterCr c h = either_ends (eqb c 10) st.StartRecord act.Skip (start_record default_config c) refl (record_ends c) h

-- a record was read that left at most so many bytes
pub record Left (bytes : ℕ) (read : Read) : Type 0 where
  pub rest : length read.2 ≤ bytes
  pub between : IsBetween read.1

chosen : (b : Bool) (now : Read) (later : Option Read) (read : Read) (bytes : ℕ) → cond b (Some now) later ≡ Some read →
    (b ≡ true → Left bytes now) → (later ≡ Some read → Left bytes read) → Left bytes read
chosen true now later read bytes h here behind = let same : now ≡ read = some_same now read h in subst (Left bytes) same (here refl)
chosen false now later read bytes h here behind = behind h

last_record : (b : Bool) (fields : List (List ℕ)) (read : Read) →
    cond b (Some (fields, st.StartRecord, [])) None ≡ Some read → Left 0 read
last_record true fields read h =
    let same : (fields, st.StartRecord, []) ≡ read = some_same _ read h in
    subst (Left 0) same (record { rest = omega arith; between = refl })
last_record false fields read h = cc

takes : (rest : List ℕ) (s : State) (fields : List (List ℕ)) (field : List ℕ) (c : ℕ) (read : Read) →
    next_record default_config s fields field (c ∷ rest) ≡ Some read → Left (length rest) read
unfolding next_record
takes [] s fields field c read h =
    chosen (is_end (step default_config s c).1) _ _ read 0 h
    (λ e. record { rest = omega arith; between = step_ends s c e })
    (λ later. last_record _ _ read later)
takes (d ∷ rest) s fields field c read h =
    chosen (is_end (step default_config s c).1) _ _ read (length (d ∷ rest)) h
    (λ e. record { rest = omega arith; between = step_ends s c e })
    (λ later. let more = takes rest _ _ _ d read later in record { rest = omega (arith, more.rest); between = more.between })

takes_some : (s : State) (xs : List ℕ) (read : Read) → IsBetween s → next_record default_config s [] [] xs ≡ Some read →
    (length read.2 < length xs) × IsBetween read.1
unfolding next_record
takes_some s [] read b h = let none = rw b at h in cc
takes_some s (c ∷ xs) read b h = let more = takes xs s [] [] c read h in (omega (arith, more.rest), more.between)

reached_few : (s : State) (xs : List ℕ) (rows : List (List (List ℕ))) (s2 : State) (ys : List ℕ) → IsBetween s →
    Reached default_config s xs rows s2 ys → length rows + length ys ≤ length xs
unfolding Reached
reached_few s xs [] s2 ys b h = let same = ap length h.1 in omega (arith, same)
reached_few s xs (row ∷ rows) s2 ys b h =
    let one = takes_some s xs h.0 b h.1 in
    let more = reached_few h.0.1 h.0.2 rows s2 ys one.1 h.3 in
    omega (arith, one.0, more)

-- ---- the whole text

shorter : (t : Bool) (less whole : List ℕ) → length less ≤ length whole → length (cond t less whole) ≤ length whole
shorter true less whole h = h
shorter false less whole h = omega arith

stripped : (text : List ℕ) → length (strip_bom text) ≤ length text
unfolding strip_bom
stripped [] = omega arith
stripped (a ∷ []) = omega arith
stripped (a ∷ b ∷ []) = omega arith
stripped (a ∷ b ∷ c ∷ rest) = shorter (is_bom a b c) rest (a ∷ b ∷ c ∷ rest) (omega arith)

pub few_records : (text : List ℕ) (rows : List (List (List ℕ))) → AreRecords default_config st.StartRecord (strip_bom text) rows → length rows ≤ length text
few_records text rows h =
    let few = reached_few st.StartRecord (strip_bom text) rows h.0 h.1 refl h.2 in
    omega (arith, few, stripped text)

pub records_whole : (text : List ℕ) (rows : List (List (List ℕ))) → AreRecords default_config st.StartRecord (strip_bom text) rows → rows ≡ records default_config (strip_bom text)
records_whole text rows h =
    let few = reached_few st.StartRecord (strip_bom text) rows h.0 h.1 refl h.2 in
    sym (records_are default_config (length (strip_bom text) + 1) st.StartRecord (strip_bom text) rows h.0 h.1 h.2 h.3 (omega (arith, few)))

-- Filling rows, whichever they are, leads from a state that stands to one.
use Rattle.std.proofs.Common.{◌≡◌, ◌∙◌, ℕ, ℤ, List, [], ◌∷◌, Bool, true, false, ◌&&◌, ◌||◌, cond, Option, Some, None, Ok, length, map, ap, refl, sym, subst, le_of_eq, option_map}
use Rattle.std.specs.List.{AllByRecursion as Each, filter, list_all, list_any}
use Rattle.std.specs.Option.{option_map_or}
use Rattle.std.specs.Ordering.{int_eq}
use Rattle.std.proofs.lemmas.Cmp.{int_eq_equiv}
use Rattle.std.proofs.lemmas.List.{length-map}
use Rattle.sql_base.specs.Laws.{all_true, and_then_ok, ok_same}
use Rattle.sql_base.specs.Outcome.{and_then, every}
use Rattle.row_rules.specs.declared.kinds.Change.TheVariants.{Put}
use Rattle.row_rules.specs.Accept.{has_key, keys_of, sound, wrong}
use Rattle.row_rules.specs.Causes.{value_cause}
use Rattle.row_rules.specs.Changes.{after_changes, cause_together, changes, filled_row}
use Rattle.row_rules.specs.Rows.{rows_at}
use Rattle.row_rules.specs.Site.{Site, name_of, number_of, touched}
use Rattle.machine.specs.Done.{CommandOutcome, answered}
use Rattle.machine.specs.Migrate.{batch, batch_settled, fill_keys, refused_batch}
use Rattle.machine.specs.Sites.{SiteRow, TableStands}
use Rattle.machine.specs.Standing.{IsState}
use Rattle.machine.specs.State.{Found, Shared, filling_site, rows_of, shared, site_of}
use Rattle.machine.specs.Statement.{changed}
use Rattle.machine.specs.Words.{Change, Filled, Halves, Kept, New, State, map_fault}
use Rattle.machine.specs.Words.job
use Rattle.machine.proofs.Accepting.{map_fault_ok, without_ok}
use Rattle.machine.specs.Below.{Below}
use Rattle.machine.proofs.Changing.{LostIn, refilled_so, rows_on_site}
use Rattle.machine.proofs.Moving.{each_so, either_way, filter_each}
use Rattle.machine.proofs.Outcomes.{Holds, Stands, holds_then, holds_without}
use Rattle.machine.proofs.Pairs.{new_stands}
use Rattle.machine.proofs.Placing.{after_puts, put_rows, put_rows_known_keys}
use Rattle.machine.proofs.Replacing.{rows_stand}

-- ---- the rows that a batch makes

-- What a row is filled to: its halves are made, and it is looked at.
pub record Fills (site : Site) (row made : Kept) : Type 0 where
  pub halves : Halves
  pub are_made : touched site row.halves ≡ Ok halves
  pub is : record row { halves = halves } ≡ made
  pub looked : wrong site made ≡ None

pub fills : (site : Site) (row made : Kept) → filled_row site row ≡ Ok made → Fills site row made
fills site row made h =
    let step = and_then_ok (map_fault (value_cause row.key) (touched site row.halves)) (λ halves. sound site (record row { halves = halves })) made h in
    let looked = without_ok (wrong site (record row { halves = step.0 })) (record row { halves = step.0 }) made step.2 in
    record {
      halves = step.0;
      are_made = map_fault_ok (value_cause row.key) (touched site row.halves) step.0 step.1;
      is = looked.1;
      looked = subst (λ r. wrong site r ≡ None) looked.1 looked.0;
    }

-- The changes put these rows, which have the keys of the rows that they are made of.
pub record Filling (site : Site) (rows : List Kept) (all : List Change) : Type 0 where
  pub new : List Kept
  pub made : every (map (filled_row site) rows) ≡ Ok new
  pub puts : map Put new ≡ all
  pub keys : keys_of new ≡ keys_of rows

same_keys : (site : Site) (rows new : List Kept) → every (map (filled_row site) rows) ≡ Ok new → keys_of new ≡ keys_of rows
same_keys site [] new h = sym (ap keys_of (ok_same [] new h))
same_keys site (row ∷ rows) new h =
    let first = and_then_ok (filled_row site row) (λ x. and_then (every (map (filled_row site) rows)) (λ xs. Ok (x ∷ xs))) new h in
    let others = and_then_ok (every (map (filled_row site) rows)) (λ xs. Ok (first.0 ∷ xs)) new first.2 in
    let key : first.0.key ≡ row.key = sym (ap (λ (r : Kept). r.key) (fills site row first.0 first.1).is) in
    sym (ap keys_of (ok_same (first.0 ∷ others.0) new others.2)) ∙ ap (λ k. k ∷ keys_of others.0) key ∙ ap (λ ks. row.key ∷ ks) (same_keys site rows others.0 others.1)

pub filling : (site : Site) (rows : List Kept) (all : List Change) → changes site job.Fill rows ≡ Ok all → Filling site rows all
filling site rows all h =
    let step = and_then_ok (every (map (filled_row site) rows)) (λ rows. Ok (map Put rows)) all h in
    record { new = step.0; made = step.1; puts = ok_same (map Put step.0) all step.2; keys = same_keys site rows step.0 step.1 }

-- ---- keys that are there

own_keys : (rows : List Kept) → Each (λ row. has_key row.key rows ≡ true) rows
own_keys [] = tt
own_keys (row ∷ rows) =
    let rest = each_so (λ other. has_key other.key rows ≡ true) (λ other. has_key other.key (row ∷ rows) ≡ true) (λ other. either_way (int_eq other.key row.key) (has_key other.key rows)) rows (own_keys rows) in
    (ap (λ b. b || has_key row.key rows) (int_eq_equiv.refl row.key), rest)

filtered_all : (q p : Kept → Bool) (rows : List Kept) → Each (λ row. q row ≡ true) rows → list_all q (filter p rows) ≡ true
filtered_all q p [] h = refl
filtered_all q p (row ∷ rows) h = by_test (filtered_all q p rows h.1) (p row)
  where
    by_test : list_all q (filter p rows) ≡ true → (b : Bool) → list_all q (cond b (row ∷ filter p rows) (filter p rows)) ≡ true
    by_test more true = all_true (q row) (list_all q (filter p rows)) h.0 more
    by_test more false = more

all_by_keys : (known : ℤ → Bool) (rows : List Kept) → list_all (λ row. known row.key) rows ≡ list_all known (keys_of rows)
all_by_keys known [] = refl
all_by_keys known (row ∷ rows) = ap (λ b. known row.key && b) (all_by_keys known rows)

-- Some rows of a state's table, filled, take the places of those that they are made of.
pub filled_keys : (s : State) (number : ℕ) (site : Site) (p : Kept → Bool) (all : List Change) → IsState s → Filling site (filter p (rows_of s number)) all → keys_of (after_changes all (rows_of s number)) ≡ keys_of (rows_of s number)
filled_keys s number site p all stands f =
    let rows = rows_of s number in
    let known : list_all (λ row. has_key row.key rows) f.new ≡ true = all_by_keys (λ key. has_key key rows) f.new ∙ ap (list_all (λ key. has_key key rows)) f.keys ∙ sym (all_by_keys (λ key. has_key key rows) (filter p rows)) ∙ filtered_all (λ row. has_key row.key rows) p rows (own_keys rows) in
    let puts : after_changes all rows ≡ put_rows f.new rows = ap (λ all. after_changes all rows) (sym f.puts) ∙ after_puts f.new rows in
    ap keys_of puts ∙ put_rows_known_keys f.new rows (rows_stand s number stands).0 known

-- ---- the batch

batch_stands : Below → (s : State) (pair : Shared) (p : Kept → Bool) → IsState s → TableStands s (record { side = New; table = pair.new }) → Holds Stands (batch s pair (filter p (rows_of s (number_of pair.new))))
batch_stands below s pair p stands f =
    let number = number_of pair.new in
    let found : Found = record { side = New; table = pair.new } in
    let site = filling_site s pair in
    let rows = rows_of s number in
    let some = filter p rows in
    holds_then Stands (map_fault (refused_batch (name_of pair.new)) (changes site job.Fill some)) (batch_settled s pair)
    (λ all e.
    let made = map_fault_ok (refused_batch (name_of pair.new)) (changes site job.Fill some) all e in
    let keys = filled_keys s number site p all stands (filling site some all made) in
    let same_length : length (after_changes all rows) ≡ length rows = sym (length-map (after_changes all rows) (λ row. row.key)) ∙ ap length keys ∙ length-map rows (λ row. row.key) in
    let each_stands = filter_each p (SiteRow (LostIn s) (site_of s found)) rows (rows_on_site below s stands found f) in
    holds_without Stands (option_map (refused_batch (name_of pair.new)) (cause_together site job.Fill rows all)) (changed s site job.Fill all)
    (λ none. refilled_so below s stands found f job.Fill some all tt each_stands made (le_of_eq same_length)))

-- Filling rows of any keys leads from a state that stands to one.
pub filled_stands : Below → (s : State) (number : ℕ) (keys : List ℤ) → IsState s → Holds Stands (fill_keys s number keys)
filled_stands below s number keys stands = by_pair (shared s number) refl
  where
    by_pair : (found : Option Shared) → shared s number ≡ found → Holds Stands (option_map_or {U = CommandOutcome} (λ pair. batch s pair (rows_at keys (rows_of s number))) found (Ok (answered s Filled)))
    by_pair None is = stands
    by_pair (Some pair) is =
        let new = new_stands s number pair stands is in
        subst (λ n. Holds Stands (batch s pair (rows_at keys (rows_of s n)))) new.0 (batch_stands below s pair (λ row. list_any (int_eq row.key) keys) stands new.1)

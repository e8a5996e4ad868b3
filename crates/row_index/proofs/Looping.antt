-- One index after another, and one change after another.
use Rattle.std.proofs.Common.{◌≡◌, ◌≤◌, ◌<◌, ◌+◌, ◌∙◌, ◌++◌, ℕ, zero, suc, List, [], ◌∷◌, true, false, refl, ap, sym, subst, take, drop, length, map, arith, add-one}
use Rattle.std.specs.Cmp.Lexicographic.{pointwise}
use Rattle.std.proofs.Math.Seq.{drop-nil}
use Rattle.std.specs.Prelude.{None, Some, cond, nat_eq, slice_get, slice_index_or, slice_set}
use Rattle.std.specs.List.{AllByRecursion}
use Rattle.std.proofs.lemmas.List.{drop_all, map-append, take-append-drop, take_more_set}
use Rattle.sql_base.specs.Laws.{some_same}
use Rattle.sql_base.specs.declared.shapes.Unique.{Unique}
use Rattle.mig_lens.specs.declared.columns.Side.{Side}
use Rattle.uniq_index.specs.Indexed.{Entries, Indexed}
use Rattle.row_rules.specs.declared.kinds.Change.{Change}
use Rattle.row_rules.specs.declared.kinds.Kept.{Kept}
use Rattle.row_index.specs.Changes.{index_changes, prepared, put_all, put_change, put_each, row_change}
use Rattle.row_index.specs.Indexes.{entries_for, entries_of}
use Rattle.row_index.specs.declared.changes.IndexChange.{IndexChange}

-- ---- changes to one index

pub step_room : (change : IndexChange) (rest items : List IndexChange) (entries new : Entries) (spare room : ℕ)
    (wanted : Entries) → items ≡ change ∷ rest → new ≡ put_change change entries
    → length items ≤ spare → spare ≤ room + 1 → put_all items entries ≡ wanted
    → (length rest ≤ room) × (put_all rest new ≡ wanted)
step_room change rest items entries new spare room wanted e is few left h =
    let long = ap length e in
    let same : put_all rest new ≡ put_all items entries =
    ap (put_all rest) is ∙ ap (λ all. put_all all entries) (sym e) in
    (omega (arith, long, few, left), same ∙ h)

pub step_end : (items : List IndexChange) (entries wanted : Entries) (len : ℕ) → len ≡ 0 → len ≡ length items
    → put_all items entries ≡ wanted → entries ≡ wanted
step_end [] entries wanted len e l h = h
step_end (change ∷ items) entries wanted len e l h = absurd (omega (arith, e, l))

-- ---- room in each index

pub same_entries : (indexes : List Indexed) (at : ℕ) (d new : Indexed) → at < length indexes
    → new.entries ≡ (slice_index_or indexes at d).entries → entries_of (slice_set indexes at new) ≡ entries_of indexes
same_entries [] at d new h is = absurd (omega arith)
same_entries (index ∷ indexes) zero d new h is = ap (λ entries. entries ∷ entries_of indexes) is
same_entries (index ∷ indexes) (suc at) d new h is =
    ap (λ all. index.entries ∷ all) (same_entries indexes at d new (omega arith) is)

module _ (P : Indexed → Type 0) where
  one_more : (indexes : List Indexed) (new : Indexed) → AllByRecursion P indexes → P new
      → AllByRecursion P (indexes ++ new ∷ [])
  one_more [] new h p = (p, tt)
  one_more (index ∷ indexes) new h p = (h.0, one_more indexes new h.1 p)

  pub room_more : (indexes : List Indexed) (at : ℕ) (new : Indexed) → at < length indexes
      → AllByRecursion P (take at indexes) → P new → AllByRecursion P (take (at + 1) (slice_set indexes at new))
  room_more indexes at new h all p =
      subst (AllByRecursion P) (sym (take_more_set indexes at new h)) (one_more (take at indexes) new all p)

-- ---- changes to each index

pub each_end : (items : List (List IndexChange)) (indexes : List Indexed) (at len : ℕ) (wanted : List Entries) → len ≡ 0
    → len ≡ length items → entries_of (take at indexes) ++ put_each items (entries_of (drop at indexes)) ≡ wanted
    → entries_of indexes ≡ wanted
each_end [] indexes at len wanted e l h =
    ap entries_of (sym (take-append-drop at indexes))
    ∙ map-append (λ (index : Indexed). index.entries) (take at indexes) (drop at indexes) ∙ h
each_end (changes ∷ items) indexes at len wanted e l h = absurd (omega (arith, e, l))

-- ---- one row after another

rows_parted : (rows : List Kept) (at : ℕ) (row : Kept) → at < length rows → slice_get rows at ≡ Some row
    → drop at rows ≡ row ∷ drop (at + 1) rows
rows_parted [] at row h is = absurd (omega arith)
rows_parted (first ∷ rows) zero row h is = ap (λ first. first ∷ rows) (some_same first row is)
rows_parted (first ∷ rows) (suc at) row h is =
    let next : drop (suc at + 1) (first ∷ rows) ≡ drop (at + 1) rows = rw (add-one, add-one) refl in
    rows_parted rows at row (omega arith) is ∙ ap (λ rest. row ∷ rest) (sym next)

pub row_step : (unique : Unique) (side : Side) (rows : List Kept) (at : ℕ) (row : Kept) (entries new wanted : Entries)
    → at < length rows → slice_get rows at ≡ Some row
    → new ≡ put_change (row_change unique side row) entries
    → put_all (map (row_change unique side) (drop at rows)) entries ≡ wanted
    → put_all (map (row_change unique side) (drop (at + 1) rows)) new ≡ wanted
row_step unique side rows at row entries new wanted h here is same =
    ap (put_all (map (row_change unique side) (drop (at + 1) rows))) is
    ∙ sym (ap (λ rest. put_all (map (row_change unique side) rest) entries) (rows_parted rows at row h here)) ∙ same

pub rows_end : (unique : Unique) (side : Side) (rows : List Kept) (at : ℕ) (entries wanted : Entries) → length rows ≤ at
    → put_all (map (row_change unique side) (drop at rows)) entries ≡ wanted → entries ≡ wanted
rows_end unique side rows at entries wanted h same =
    sym (ap (λ rest. put_all (map (row_change unique side) rest) entries) (drop_all at rows h)) ∙ same

-- ---- changes in each index

pub prepared_step : (uniques : List Unique) (side : Side) (changes : List Change) (at : ℕ) (unique d : Unique)
    → at < length uniques → unique ≡ slice_index_or uniques at d
    → prepared (drop at uniques) side changes
    ≡ index_changes side changes unique ∷ prepared (drop (at + 1) uniques) side changes
prepared_step [] side changes at unique d h is = absurd (omega arith)
prepared_step (first ∷ uniques) side changes zero unique d h is =
    ap (λ unique. index_changes side changes unique ∷ prepared uniques side changes) (sym is)
prepared_step (first ∷ uniques) side changes (suc at) unique d h is =
    let next : drop (suc at + 1) (first ∷ uniques) ≡ drop (at + 1) uniques = rw (add-one, add-one) refl in
    prepared_step uniques side changes at unique d (omega arith) is
    ∙ ap (λ rest. index_changes side changes unique ∷ prepared rest side changes) (sym next)

-- ---- the index of a constraint's columns

none_without : (unique : Unique) (uniques : List Unique) → entries_for unique uniques [] ≡ None
none_without unique [] = refl
none_without unique (other ∷ uniques) = refl

-- A constraint of other columns is passed.
pub passed_by : (unique first d : Unique) (uniques : List Unique) (indexes : List Indexed) (at : ℕ)
    → at < length uniques → first ≡ slice_index_or uniques at d
    → pointwise nat_eq first.columns unique.columns ≡ false
    → entries_for unique (drop (at + 1) uniques) (entries_of (drop (at + 1) indexes))
    ≡ entries_for unique (drop at uniques) (entries_of (drop at indexes))
passed_by unique first d [] indexes at h is differ = absurd (omega (arith, h))
passed_by unique first d (other ∷ uniques) [] at h is differ =
    ap (λ left. entries_for unique (drop (at + 1) (other ∷ uniques)) (entries_of left)) (drop-nil (at + 1))
    ∙ none_without unique (drop (at + 1) (other ∷ uniques)) ∙ sym (none_without unique (drop at (other ∷ uniques)))
    ∙ ap (λ left. entries_for unique (drop at (other ∷ uniques)) (entries_of left)) (sym (drop-nil at))
passed_by unique first d (other ∷ uniques) (index ∷ indexes) zero h is differ =
    sym (ap (λ b. cond b (Some index.entries) (entries_for unique uniques (entries_of indexes))) (ap (λ (u : Unique). pointwise nat_eq u.columns unique.columns) (sym is) ∙ differ))
passed_by unique first d (other ∷ uniques) (index ∷ indexes) (suc at) h is differ =
    let more : drop (suc at + 1) (other ∷ uniques) ≡ drop (at + 1) uniques = rw (add-one, add-one) refl in
    let rest : drop (suc at + 1) (index ∷ indexes) ≡ drop (at + 1) indexes = rw (add-one, add-one) refl in
    ap (λ left. entries_for unique left (entries_of (drop (suc at + 1) (index ∷ indexes)))) more
    ∙ ap (λ left. entries_for unique (drop (at + 1) uniques) (entries_of left)) rest
    ∙ passed_by unique first d uniques indexes at (omega (arith, h)) is differ

-- The index of one of these columns is the one at its place, where there is one.
pub found_at : (unique first d : Unique) (uniques : List Unique) (indexes : List Indexed) (at : ℕ) (index e : Indexed)
    → at < length uniques → first ≡ slice_index_or uniques at d
    → pointwise nat_eq first.columns unique.columns ≡ true → at < length indexes → index ≡ slice_index_or indexes at e
    → entries_for unique (drop at uniques) (entries_of (drop at indexes)) ≡ Some index.entries
found_at unique first d [] indexes at index e h is same i there = absurd (omega (arith, h))
found_at unique first d (other ∷ uniques) [] at index e h is same i there = absurd (omega (arith, i))
found_at unique first d (other ∷ uniques) (one ∷ indexes) zero index e h is same i there =
    ap (λ b. cond b (Some one.entries) (entries_for unique uniques (entries_of indexes))) (ap (λ (u : Unique). pointwise nat_eq u.columns unique.columns) (sym is) ∙ same)
    ∙ ap (λ (index : Indexed). Some index.entries) (sym there)
found_at unique first d (other ∷ uniques) (one ∷ indexes) (suc at) index e h is same i there =
    found_at unique first d uniques indexes at index e (omega (arith, h)) is same (omega (arith, i)) there

pub none_at : (unique : Unique) (uniques : List Unique) (indexes : List Indexed) (at : ℕ) → length indexes ≤ at
    → entries_for unique (drop at uniques) (entries_of (drop at indexes)) ≡ None
none_at unique uniques indexes at past =
    ap (λ left. entries_for unique (drop at uniques) (entries_of left)) (drop_all at indexes past)
    ∙ none_without unique (drop at uniques)

-- Where no constraint is left none is found.
pub none_left : (unique : Unique) (uniques : List Unique) (all : List Entries) (at : ℕ) → length uniques ≤ at
    → entries_for unique (drop at uniques) all ≡ None
none_left unique uniques all at past = ap (λ left. entries_for unique left all) (drop_all at uniques past)

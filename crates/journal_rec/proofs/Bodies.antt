-- Bodies, as they are written and read.
use Rattle.std.proofs.Common.{◌≡◌, ℕ, suc, ◌^◌, ◌<◌, ◌≤◌, ◌⊎◌, inl, inr, ⊎_elim, true, cond, eqb, ltb, leb, List, [], ◌∷◌, ◌++◌, length, Some, None, Result, Ok, Err, refl, sym, ap, subst, ◌∙◌, append_assoc}
use Rattle.std.specs.Prelude.{◌&&◌, IfOk, IsErrOf}
use Rattle.std.specs.Int.{w32, to_be_bytes}
use Rattle.std.specs.List.{All}
use Rattle.std.proofs.lemmas.Bool.{eqb-true, ltb-true, leb-true, lt-ltb, le-leb}
use Rattle.std.proofs.lemmas.List.{append-nil, nil_from_length}
use Rattle.std.proofs.lemmas.Option.{same_Some, none-some, cond_some}
use Rattle.sql_base.specs.Laws.{both, all_true}
use Rattle.journal_rec.specs.declared.faults.RecordFault.{RecordFault}
use Rattle.journal_rec.specs.declared.faults.RecordFault.TheVariants as fault
use Rattle.journal_rec.specs.declared.records.Record.{Record}
use Rattle.journal_rec.specs.declared.records.Record.TheVariants.{Start, Rows, Step}
use Rattle.journal_rec.specs.declared.records.RecordedRow.{RecordedRow}
use Rattle.journal_rec.specs.Body.{counted_bytes, counted, row_bytes, body_of, RowFits, IsProperRow, ascend, Fits, IsProper, IsBody}
use Rattle.journal_rec.specs.Reading.{◌>>=◌, Reads, bytes_at, number_at, counted_at, row_at, ended, start_in, rows_in, step_in, record_in}
use Rattle.journal_rec.proofs.Forms.{IsBytes, bytes_behind, bind_some, chosen, IsForm, wide32, number_form, bytes_form, counted_form}
use Rattle.journal_rec.proofs.Values.{row_form}

ended_some : {X : Type 0} (x : X × List ℕ) (y : X) → ended x ≡ Some y → (x.1 ≡ []) × (x.0 ≡ y)
ended_some x y e = let g = cond_some (eqb (length x.1) 0) x.0 y e in (nil_from_length x.1 (eqb-true _ _ g.0), g.1)

-- behind the byte of its kind, and with nothing behind it
behind_kind : (b kind : ℕ) (bs text rest : List ℕ) (r : Record) → body_of r ≡ kind ∷ text → eqb b kind ≡ true → bs ≡ text ++ rest → rest ≡ [] → Fits r → IsProper r → IsBody (b ∷ bs) r
behind_kind b kind bs text rest r body_is kind_is parts nothing fits proper = record {
  fits = fits;
  proper = proper;
  text = (λ i. eqb-true b kind kind_is i ∷ (parts ∙ ap (λ (l : List ℕ). text ++ l) nothing ∙ append-nil text) i) ∙ sym body_is;
}

rows_counted : IsForm (counted w32 row_bytes) (λ rows. ((length rows < 2 ^ 32) × All RowFits rows) × All IsProperRow rows) (counted_at w32 row_at)
rows_counted = counted_form row_bytes RowFits IsProperRow row_at row_form w32 (2 ^ 32) wide32

start_takes : (b : ℕ) (bs : List ℕ) (r : Record) → IsBytes bs → eqb b 1 ≡ true → start_in bs ≡ Some r → IsBody (b ∷ bs) r
unfolding start_in
start_takes b bs r all kind_is e =
    let a = bind_some (bytes_at w32 bs) (λ text. ended text >>= λ body. Some (Start body)) r e in
    let d = bind_some (ended a.0) (λ body. Some (Start body)) r a.2 in
    let t = (bytes_form w32 (2 ^ 32) wide32).takes bs a.0.0 a.0.1 all a.1 in
    let last = ended_some a.0 d.0 d.1 in
    subst (IsBody (b ∷ bs)) (ap Start last.1 ∙ same_Some (Start d.0) r d.2)
    (behind_kind b 1 bs (counted_bytes w32 a.0.0) a.0.1 (Start a.0.0) refl kind_is t.parts last.0 t.has tt)

rows_take : (b : ℕ) (bs : List ℕ) (r : Record) → IsBytes bs → eqb b 2 ≡ true → rows_in bs ≡ Some r → IsBody (b ∷ bs) r
unfolding rows_in
rows_take b bs r all kind_is e =
    let a = bind_some (number_at w32 bs) (λ table. counted_at w32 row_at table.1 >>= λ read. ended read >>= λ rows. cond (ltb 0 (length rows) && ascend rows) (Some (Rows table.0 rows)) None) r e in
    let l = bind_some (counted_at w32 row_at a.0.1) (λ read. ended read >>= λ rows. cond (ltb 0 (length rows) && ascend rows) (Some (Rows a.0.0 rows)) None) r a.2 in
    let d = bind_some (ended l.0) (λ rows. cond (ltb 0 (length rows) && ascend rows) (Some (Rows a.0.0 rows)) None) r l.2 in
    let g = cond_some (ltb 0 (length d.0) && ascend d.0) (Rows a.0.0 d.0) r d.2 in
    let n = (number_form w32 (2 ^ 32) wide32).takes bs a.0.0 a.0.1 all a.1 in
    let t = rows_counted.takes a.0.1 l.0.0 l.0.1 (bytes_behind bs (to_be_bytes w32 a.0.0) a.0.1 n.parts all) l.1 in
    let last = ended_some l.0 d.0 d.1 in
    let tests = subst (λ (rows : List RecordedRow). (ltb 0 (length rows) && ascend rows) ≡ true) (sym last.1) g.0 in
    let in_order = both (ltb 0 (length l.0.0)) (ascend l.0.0) tests in
    subst (IsBody (b ∷ bs)) (ap (Rows a.0.0) last.1 ∙ g.1)
    (behind_kind b 2 bs (to_be_bytes w32 a.0.0 ++ counted w32 row_bytes l.0.0) l.0.1 (Rows a.0.0 l.0.0) refl kind_is
    (n.parts ∙ ap (λ (x : List ℕ). to_be_bytes w32 a.0.0 ++ x) t.parts ∙ sym (append_assoc (to_be_bytes w32 a.0.0) (counted w32 row_bytes l.0.0) l.0.1)) last.0
    (record { some = ltb-true _ _ in_order.0; few = t.has.0.0; in_order = in_order.1; each = t.has.0.1 }) (n.has, t.has.1))

step_takes : (b : ℕ) (bs : List ℕ) (r : Record) → eqb b 3 ≡ true → step_in bs ≡ Some r → IsBody (b ∷ bs) r
unfolding step_in
step_takes b [] r kind_is e = absurd (none-some _ e)
step_takes b (k ∷ bs) r kind_is e =
    let d = bind_some (ended (k, bs)) (λ kind. cond (leb 1 kind && leb kind 5) (Some (Step kind)) None) r e in
    let g = cond_some (leb 1 d.0 && leb d.0 5) (Step d.0) r d.2 in
    let last = ended_some (k, bs) d.0 d.1 in
    let tests = both (leb 1 d.0) (leb d.0 5) g.0 in
    subst (IsBody (b ∷ k ∷ bs)) g.1
    (behind_kind b 3 (k ∷ bs) (d.0 ∷ []) bs (Step d.0) refl kind_is (ap (λ (n : ℕ). n ∷ bs) last.1) last.0 (leb-true _ _ tests.0, leb-true _ _ tests.1) tt)

-- what is read has these bytes as its body
pub body_read : (bytes : List ℕ) (r : Record) → IsBytes bytes → record_in bytes ≡ Some r → IsBody bytes r
unfolding record_in
body_read [] r all e = absurd (none-some _ e)
body_read (b ∷ bs) r all e =
    let tail : IsBytes bs = λ i. all (suc i) in
    let steps = cond (eqb b 3) (step_in bs) None in
    let rows = cond (eqb b 2) (rows_in bs) steps in
    ⊎_elim (λ start. start_takes b bs r tail start.0 start.1)
    (λ more. ⊎_elim (λ written. rows_take b bs r tail written.0 written.1)
    (λ others. ⊎_elim (λ step. step_takes b bs r step.0 step.1) (λ none. absurd (none-some _ none.1))
    (chosen (eqb b 3) (step_in bs) None (Some r) others.1))
    (chosen (eqb b 2) (rows_in bs) steps (Some r) more.1))
    (chosen (eqb b 1) (start_in bs) rows (Some r) e)

-- ---- again

start_again : (text : List ℕ) → length text < 2 ^ 32 → start_in (counted_bytes w32 text) ≡ Some (Start text)
unfolding start_in
start_again text few =
    ap start_in (sym (append-nil (counted_bytes w32 text))) ∙ rw ((bytes_form w32 (2 ^ 32) wide32).again text [] few) refl

rows_again : (table : ℕ) (rows : List RecordedRow) → Fits (Rows table rows) → IsProper (Rows table rows) → rows_in (to_be_bytes w32 table ++ counted w32 row_bytes rows) ≡ Some (Rows table rows)
unfolding rows_in
rows_again table rows fits proper =
    let text = counted w32 row_bytes rows in
    let counts : counted_at w32 row_at text ≡ Some (rows, []) = ap (counted_at w32 row_at) (sym (append-nil text)) ∙ rows_counted.again rows [] ((fits.few, fits.each), proper.1) in
    rw ((number_form w32 (2 ^ 32) wide32).again table text proper.0, counts, all_true (ltb 0 (length rows)) (ascend rows) (lt-ltb _ _ fits.some) fits.in_order) refl

step_again : (kind : ℕ) → (1 ≤ kind) × (kind ≤ 5) → step_in (kind ∷ []) ≡ Some (Step kind)
unfolding step_in
step_again kind fits = rw (all_true (leb 1 kind) (leb kind 5) (le-leb _ _ fits.0) (le-leb _ _ fits.1)) refl

again : (r : Record) → Fits r → IsProper r → record_in (body_of r) ≡ Some r
unfolding record_in
again (Start text) fits proper = start_again text fits
again (Rows table rows) fits proper = rows_again table rows fits proper
again (Step kind) fits proper = step_again kind fits

-- a body is read as its record
pub body_again : (bytes : List ℕ) (r : Record) → IsBody bytes r → record_in bytes ≡ Some r
body_again bytes r is = ap record_in is.text ∙ again r is.fits is.proper

pub one_record : (bytes : List ℕ) (r other : Record) → IsBody bytes r → IsBody bytes other → r ≡ other
one_record bytes r other is is_too = same_Some r other (sym (body_again bytes r is) ∙ body_again bytes other is_too)

-- ---- the answer

pub found : (bytes : List ℕ) (result : Result Record RecordFault) → IsBytes bytes → Reads (λ r. r) result (record_in bytes) → IfOk result (λ r. IsBody bytes r)
found bytes (Ok r) all reads = body_read bytes r all reads
found bytes (Err f) all reads = tt

pub only : (bytes : List ℕ) (result : Result Record RecordFault) → Reads (λ r. r) result (record_in bytes) → (r : Record) → IsBody bytes r → (result ≡ Ok r) ⊎ (result ≡ Err fault.NoMemory)
only bytes (Ok s) reads r is = inl (ap Ok (same_Some s r (sym reads ∙ body_again bytes r is)))
only bytes (Err fault.Bad) reads r is = absurd (none-some r (sym reads ∙ body_again bytes r is))
only bytes (Err fault.NoMemory) reads r is = inr refl

pub bad : (bytes : List ℕ) (result : Result Record RecordFault) → Reads (λ r. r) result (record_in bytes) → IsErrOf result fault.Bad → (r : Record) → ¬ IsBody bytes r
bad bytes (Ok s) reads told r is = absurd cc
bad bytes (Err fault.Bad) reads told r is = none-some r (sym reads ∙ body_again bytes r is)
bad bytes (Err fault.NoMemory) reads told r is = absurd cc

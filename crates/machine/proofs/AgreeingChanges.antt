-- Carried columns have one value in both halves of each row that a job puts.
use Rattle.std.proofs.Common.{◌≡◌, ◌∙◌, ℕ, ℤ, List, [], ◌∷◌, Option, Some, None, Ok, ap, sym, subst, unwrap_or}
use Rattle.std.specs.Prelude.{slice_index_or}
use Rattle.std.specs.List.{AllByRecursion as Each}
use Rattle.sql_base.specs.Laws.{and_then_ok, ok_same, some_same}
use Rattle.sql_base.specs.declared.values.Value.{Value}
use Rattle.sql_base.specs.declared.values.Value.TheVariants.{Null}
use Rattle.mig_lens.specs.Lens.{forward}
use Rattle.row_rules.specs.Accept.{sound, wrong}
use Rattle.row_rules.specs.Causes.{value_cause}
use Rattle.row_rules.specs.Changes.{altered, altered_halves, altered_row, changes, filled_row, new_row, remade}
use Rattle.row_rules.specs.Outcome.{map_fault}
use Rattle.row_rules.specs.Site.{Beside, Site, filled_beside, half, half_beside, halves_on, key_of, other, other_half, shape_of, touched, touched_by}
use Rattle.machine.specs.Below.{Below}
use Rattle.machine.specs.Laws.{ChangesAgree}
use Rattle.machine.specs.Sites.{BesideStands, HalvesAgree}
use Rattle.machine.specs.Words.{Expr, Halves, Job, Kept, New, Old, Side, Table}
use Rattle.machine.specs.Words.job
use Rattle.machine.proofs.Accepting.{map_fault_ok, without_ok}
use Rattle.machine.proofs.Filling.{fills}
use Rattle.row_rules.specs.Made.{Makes, changes_made}
use Rattle.machine.proofs.SiteHalves.{site_at}

-- The halves that a lens makes of each other agree.
made_agree : Below → (side : Side) (here : Table) (beside : Beside) → BesideStands side here (Some beside) → (values : List Value) (before : Option (List Value)) (made : List Value) → half_beside side (shape_of here) beside values before ≡ Ok made → HalvesAgree beside.lens (halves_on side values (Some made))
made_agree below Old here beside j values before made h old new i k o n c =
    let carried = below.forward_carries beside.lens (shape_of here) values before made i k h c in
    ap (λ (v : List Value). slice_index_or v i Null) (sym (some_same made new n)) ∙ carried ∙ ap (λ (v : List Value). slice_index_or v k Null) (some_same values old o)
made_agree below New here beside j values before made h old new i k o n c =
    let carried = below.backward_carries beside.lens (shape_of here) values before made k i h (sym (j.well_formed.both_ways i k) ∙ c) in
    ap (λ (v : List Value). slice_index_or v i Null) (sym (some_same values new n)) ∙ sym carried ∙ ap (λ (v : List Value). slice_index_or v k Null) (some_same made old o)

other_agrees : Below → (side : Side) (here : Table) (beside : Beside) (lost : ℕ) → BesideStands side here (Some beside) → (values : List Value) (before made : Option (List Value)) → other_half (site_at side here (Some beside) lost) values before ≡ Ok made → HalvesAgree beside.lens (halves_on side values made)
other_agrees below side here beside lost j values before made h =
    let step = and_then_ok (half_beside side (shape_of here) beside values before) (λ made. Ok (Some made)) made h in
    subst (λ made. HalvesAgree beside.lens (halves_on side values made)) (ok_same (Some step.0) made step.2) (made_agree below side here beside j values before step.0 step.1)

module _ (below : Below) (side : Side) (here : Table) (beside : Beside) (lost : ℕ) (j : BesideStands side here (Some beside)) where
  -- Carried columns agree in the row.
  abbrev Agrees : Kept → Type 0
  Agrees row = HalvesAgree beside.lens row.halves

  abbrev At : Site
  At = site_at side here (Some beside) lost

  remade_agrees : (key : ℤ) (weight : ℕ) (before : Option (List Value)) (values : List Value) (row : Kept) → remade At key weight before values ≡ Ok row → Agrees row
  remade_agrees key weight before values row h =
      let step = and_then_ok (map_fault (value_cause key) (other_half At values before)) (λ other. sound At (record { key = key; halves = halves_on side values other; lost = weight })) row h in
      let made : Kept = record { key = key; halves = halves_on side values step.0; lost = weight } in
      subst Agrees (without_ok (wrong At made) made row step.2).1 (other_agrees below side here beside lost j values before step.0 (map_fault_ok (value_cause key) (other_half At values before) step.0 step.1))

  altered_agrees : (sets : List (ℕ × Expr)) (row made : Kept) → altered_row At sets row ≡ Ok made → Agrees made
  altered_agrees sets row made h =
      let step = and_then_ok (map_fault (value_cause row.key) (touched At row.halves)) (altered_halves At sets row) made h in
      let values = and_then_ok (map_fault (value_cause row.key) (altered (shape_of here) sets (unwrap_or (half side step.0) []))) (λ values. remade At row.key row.lost (half (other side) step.0) values) made step.2 in
      remade_agrees row.key row.lost (half (other side) step.0) values.0 made values.2

-- What a write begins with agrees, where the row does.
filled_agree : Below → (here : Table) (beside : Beside) → BesideStands New here (Some beside) → (old new : Option (List Value)) (made : Halves) → HalvesAgree beside.lens (record { old = old; new = new }) → filled_beside beside (record { old = old; new = new }) ≡ Ok made → HalvesAgree beside.lens made
filled_agree below here beside j old (Some values) made r h = subst (HalvesAgree beside.lens) (ok_same (record { old = old; new = Some values }) made h) r
filled_agree below here beside j None None made r h =
    let step = and_then_ok (forward beside.lens (shape_of beside.table) [] None) (λ made. Ok (record { old = None; new = Some made })) made h in
    subst (HalvesAgree beside.lens) (ok_same (record { old = None; new = Some step.0 }) made step.2) (λ o n i k is _ _. cc)
filled_agree below here beside j (Some values) None made r h =
    let step = and_then_ok (forward beside.lens (shape_of beside.table) values None) (λ made. Ok (record { old = Some values; new = Some made })) made h in
    subst (HalvesAgree beside.lens) (ok_same (record { old = Some values; new = Some step.0 }) made step.2)
    (λ old new i k o n c.
    ap (λ (v : List Value). slice_index_or v i Null) (sym (some_same step.0 new n)) ∙ below.forward_carries beside.lens (shape_of beside.table) values None step.0 i k step.1 c ∙ ap (λ (v : List Value). slice_index_or v k Null) (some_same values old o))

touched_agree : Below → (side : Side) (here : Table) (beside : Beside) → BesideStands side here (Some beside) → (halves made : Halves) → HalvesAgree beside.lens halves → touched_by (Some beside) side halves ≡ Ok made → HalvesAgree beside.lens made
touched_agree below Old here beside j halves made r h = subst (HalvesAgree beside.lens) (ok_same halves made h) r
touched_agree below New here beside j halves made r h = filled_agree below here beside j halves.old halves.new made r h

module _ (below : Below) (side : Side) (here : Table) (beside : Beside) (lost : ℕ) (j : BesideStands side here (Some beside)) where
  new_agree : (rows : List (List Value)) → Each (λ values. (row : Kept) → new_row (site_at side here (Some beside) lost) values ≡ Ok row → HalvesAgree beside.lens row.halves) rows
  new_agree [] = tt
  new_agree (values ∷ rows) = (remade_agrees below side here beside lost j (key_of (shape_of here) values) lost None values, new_agree rows)

  filled_agrees : (row made : Kept) → HalvesAgree beside.lens row.halves → filled_row (site_at side here (Some beside) lost) row ≡ Ok made → HalvesAgree beside.lens made.halves
  filled_agrees row made r h =
      let f = fills (site_at side here (Some beside) lost) row made h in
      subst (λ (row : Kept). HalvesAgree beside.lens row.halves) f.is (touched_agree below side here beside j row.halves f.halves r f.are_made)

  makes : (what : Job) → Makes (λ row. HalvesAgree beside.lens row.halves) (λ row. HalvesAgree beside.lens row.halves) (site_at side here (Some beside) lost) what
  makes (job.Put rows) = new_agree rows
  makes (job.Alter sets condition) = λ row made r h. altered_agrees below side here beside lost j sets row made h
  makes (job.Remove condition) = tt
  makes job.Fill = filled_agrees

pub changes_agree : Below → ChangesAgree
changes_agree below site beside what older all stands there r h =
    changes_made (λ row. HalvesAgree beside.lens row.halves) (λ row. HalvesAgree beside.lens row.halves) (site_at site.side site.here (Some beside) site.lost) what older all
    (makes below site.side site.here beside site.lost (subst (BesideStands site.side site.here) there stands.beside) what) r
    (ap (λ there. changes (site_at site.side site.here there site.lost) what older) (sym there) ∙ h)

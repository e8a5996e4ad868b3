use Rattle.std.proofs.Common.{◌≡◌, ◌∙◌, Bool, true, false, List, Option, Some, None, if◌then◌else◌, ap, subst, sym}
use Rattle.sql_base.specs.Outcome.{Gives}
use Rattle.sql_base.specs.declared.faults.EvalFault.TheVariants.{NoMemory}
use Rattle.sql_base.specs.declared.values.Value.{Value}
use Rattle.trigger_pair.specs.Stored as spec
use Rattle.trigger_pair.proofs.triggers.over_stored.Goals as goal

pub returns-then-is_marked : goal.returns-then-is_marked
returns-then-is_marked c =
    let marked : spec.is_marked c.args.pair.now c.args.stored.now ≡ true = sym c.is_marked.ensures ∙ c.if-is_marked.true in
    let half = λ (b : Bool). if b then None else Some (spec.new_view c.args.pair.now c.args.stored.now) in
    subst (λ (previous : Option (List Value)). Gives NoMemory (spec.from_old c.args.pair.now c.args.half.now previous) c.from_old.result) (sym (ap half marked)) c.from_old.ensures

pub returns : goal.returns
returns c =
    let unmarked : spec.is_marked c.args.pair.now c.args.stored.now ≡ false = sym c.is_marked.ensures ∙ c.if-is_marked.false in
    let half = λ (b : Bool). if b then None else Some (spec.new_view c.args.pair.now c.args.stored.now) in
    let view : c.as_slice.result.now ≡ spec.new_view c.args.pair.now c.args.stored.now = c.as_slice.ensures ∙ c.in_ok-before.ensures in
    subst (λ (previous : Option (List Value)). Gives NoMemory (spec.from_old c.args.pair.now c.args.half.now previous) c.from_old-2.result) (ap Some view ∙ sym (ap half unmarked)) c.from_old-2.ensures

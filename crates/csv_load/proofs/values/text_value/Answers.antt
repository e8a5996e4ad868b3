use Rattle.std.proofs.Common.{refl, ap, ◌∙◌, Some}
use Rattle.csv_load.specs.Load.{value_of}
use Rattle.csv_load.proofs.Fields.{is_text-false, is_text-true}
use Rattle.csv_load.proofs.values.text_value.Goals as goal

pub returns-in_ok-value_of-in-Some : goal.returns-in_ok-value_of-in-Some
returns-in_ok-value_of-in-Some c =
    let found = rw c.in-Some.is at c.in_ok-text.ensures in
    rw (is_text-true c.args.field.now found.0) (ap Some (c.in_ok-value_of-in-Some.ensures ∙ ap (value_of c.args.to) found.1))

pub returns-in-None : goal.returns-in-None
returns-in-None c =
    let none = rw c.in-None.is at c.in_ok-text.ensures in
    rw (is_text-false c.args.field.now none) refl

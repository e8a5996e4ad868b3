use Rattle.mig_json.proofs.Literals.{literal_found}
use Rattle.mig_json.proofs.values.literal_in.Goals as goal

pub returns-in-Some : goal.returns-in-Some
returns-in-Some c = literal_found c.one_tree.ensures c.args.text.now c.in_ok-tree.field-0 c.in-Some.tree c.in-Some.is (c.in_ok-tree.ensures) c.literal_of.result c.literal_of.ensures

use Rattle.mig_json.proofs.Wanting.{faults_want_nothing}
use Rattle.mig_json.proofs.Relating.{texts_read_or_fail, texts_never_both, texts_read_once, texts_fail_once}
use Rattle.mig_json.proofs.laws.texts_read_or_fail.Goals as goal

pub returns : goal.returns
returns c = record {
  either = texts_read_or_fail c.one_tree.ensures c.texts_read_or_fail.ensures.either c.texts_read_or_fail.ensures.never_both;
  never_both = texts_never_both c.one_tree.ensures;
  reads_once = texts_read_once c.one_tree.ensures;
  fails_once = texts_fail_once c.one_tree.ensures;
  wants_nothing = faults_want_nothing;
}

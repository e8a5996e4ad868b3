use Rattle.std.proofs.Common.{sym}
use Rattle.words.proofs.Utf8.{all_read, some_fails}
use Rattle.words.proofs.texts.texts_of.Goals as goal

pub returns-in-None : goal.returns-in-None
returns-in-None c = sym (some_fails c.args.words.now c.loop-word.word-index _ c.loop-word-test.true (sym c.in-None.ensures))

pub returns : goal.returns
returns c = sym (all_read c.args.words.now c.loop-word.texts.items c.loop-word.word-index c.loop-word-test.false c.loop-word.invariant.same c.loop-word.invariant.utf8)

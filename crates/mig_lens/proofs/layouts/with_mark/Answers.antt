use Rattle.mig_lens.proofs.layouts.with_mark.Goals as goal

pub returns : goal.returns
returns c = rw (c.in_ok-push.ensures.ok, c.in_ok-from_slice.ensures, c.if-not-mark.false)

use Rattle.std.proofs.Common.{arith, ◌==◌, not, sym, subst}
use Rattle.row_lock.specs.Holding as spec
use Rattle.row_lock.proofs.Keeping.{apart_filter}
use Rattle.row_lock.proofs.locks.Locks.release.Goals as goal

pub invariant_of-self : goal.invariant_of-self
invariant_of-self c =
    (omega arith, subst spec.AreApart (sym c.release_all.ensures.items) (apart_filter (λ lock. not (lock.ticket == c.args.ticket)) c.self.inside.locks.items c.self.invariant.1))

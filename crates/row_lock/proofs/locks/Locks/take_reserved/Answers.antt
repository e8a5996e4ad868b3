use Rattle.std.proofs.Common.{arith, ◌≡◌, ◌-◌, ◌++◌, ◌∙◌, ap, sym, subst, map, min, None, length}
use Rattle.std.specs.Prelude.{vec_capacity, vec_len}
use Rattle.row_lock.specs.Held.{Held}
use Rattle.row_lock.specs.Holding as spec
use Rattle.row_lock.proofs.Keeping.{apart_taken}
use Rattle.row_lock.proofs.locks.Locks.take_reserved.Goals as goal

pub invariant_of-self : goal.invariant_of-self
invariant_of-self c =
    let old = c.self.inside.locks in
    let is : old.items ≡ c.args.self.now.locks = ap (λ (held : Held). held.locks) c.self.view_is in
    let spare : min (vec_capacity old) 4000000000 - vec_len old ≡ c.args.self.now.spare = ap (λ (held : Held). held.spare) c.self.view_is in
    let free : spec.holder old.items c.args.table c.args.keys ≡ None = ap (λ locks. spec.holder locks c.args.table c.args.keys) is ∙ c.requires.free in
    let size : spec.size c.args.keys ≡ length c.as_slice.result.now = ap spec.size c.in-Keys.is ∙ ap length (sym c.as_slice.ensures) in
    let apart = apart_taken c.args.ticket c.args.table c.args.keys old.items c.self.invariant.1 free in
    let taken : spec.locks_on c.args.ticket c.args.table c.args.keys ≡ map (spec.lock_on c.args.ticket c.args.table) c.as_slice.result.now =
    ap (spec.locks_on c.args.ticket c.args.table) c.in-Keys.is ∙ ap (map (spec.lock_on c.args.ticket c.args.table)) (sym c.as_slice.ensures) in
    (omega arith, subst spec.AreApart (ap (λ more. old.items ++ more) taken ∙ sym c.push_each.ensures.items) apart)

pub invariant_of-self-in-Table : goal.invariant_of-self-in-Table
invariant_of-self-in-Table c =
    let old = c.self.inside.locks in
    let is : old.items ≡ c.args.self.now.locks = ap (λ (held : Held). held.locks) c.self.view_is in
    let spare : min (vec_capacity old) 4000000000 - vec_len old ≡ c.args.self.now.spare = ap (λ (held : Held). held.spare) c.self.view_is in
    let free : spec.holder old.items c.args.table c.args.keys ≡ None = ap (λ locks. spec.holder locks c.args.table c.args.keys) is ∙ c.requires.free in
    let size : spec.size c.args.keys ≡ 1 = ap spec.size c.in-Table.is in
    let apart = apart_taken c.args.ticket c.args.table c.args.keys old.items c.self.invariant.1 free in
    let taken = ap (spec.locks_on c.args.ticket c.args.table) c.in-Table.is in
    (omega arith, subst spec.AreApart (ap (λ more. old.items ++ more) taken ∙ sym c.push_reserved.ensures.items) apart)

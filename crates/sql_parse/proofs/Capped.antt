-- A tree, given up where it is deeper than the most.
use Rattle.std.proofs.Common.{◌≡◌, ℕ, suc, ◌+◌, ◌<◌, ◌≤◌, max, Bool, true, false, List, [], ◌∷◌, Option, Some, None, map, if◌then◌else◌, refl, sym, ap, ◌∙◌, arith, nat_le, nat_lt}
use Rattle.std.proofs.lemmas.Bool.{le-leb, lt-leb, leb-true, leb-false}
use Rattle.sql_base.specs.declared.values.Value.{Value}
use Rattle.sql_base.specs.declared.values.Ty.{Ty}
use Rattle.sql_base.specs.declared.exprs.BinOp.{BinOp}
use Rattle.sql_base.specs.declared.exprs.Func.{Func}
use Rattle.sql_base.specs.declared.exprs.Expr.{Expr}
use Rattle.sql_base.specs.declared.exprs.Expr.TheVariants as e
use Rattle.sql_base.specs.declared.exprs.Arm.{Arm}
use Rattle.sql_base.specs.declared.exprs.Expr.TheOpen.{Expr-F, Arm-F}
use Rattle.sql_base.specs.declared.exprs.Expr.TheViews.{roll-Expr, roll-Arm}
use Rattle.sql_base.specs.declared.exprs.Expr.TheFolds.{fold-roll-Expr, fold-roll-Arm, map-Expr, map-Arm}
use Rattle.sql_base.specs.Tree.{depth, depth_step, depth_of_arm, arm_depth_step, deepest_of, deepest_arm}
use Rattle.sql_parse.specs.declared.machine.Part.{Part}
use Rattle.sql_parse.specs.declared.machine.Part.TheVariants.{Whole, Deep}
use Rattle.sql_parse.specs.Machine.{with_one, with_two, with_parts, and_part, every_part, and_arm, every_arm, and_other, call_of, case_of, leaf}

abbrev pub capped : ℕ → Expr → ℕ → Part
capped most a d = if nat_le d most then Whole a d else Deep

abbrev pub cap : ℕ → Expr → Part
cap most a = capped most a (depth a)

abbrev pub cap_arm : ℕ → Arm → Part × Part
cap_arm most a = (cap most a.when, cap most a.gives)

-- ---- forms under the limit

one_capped : (most : ℕ) (form : Expr → Expr) (a : Expr) (d : ℕ) → with_one most form (capped most a d) ≡ capped most (form a) (d + 1)
one_capped most form a d = by_test (nat_lt d most) refl
  where
    deep : nat_lt d most ≡ false → (b : Bool) → with_one most form (if b then Whole a d else Deep) ≡ Deep
    deep e true = rw e refl
    deep e false = refl

    by_test : (b : Bool) → nat_lt d most ≡ b → with_one most form (capped most a d) ≡ capped most (form a) (d + 1)
    by_test true e = let small : d < most = leb-true (suc d) most e in rw (le-leb d most (omega arith), e, le-leb (d + 1) most (omega arith)) refl
    by_test false e = let big : most ≤ d = omega (arith, leb-false (suc d) most e) in rw (lt-leb (d + 1) most (omega arith)) (deep e (nat_le d most))

two_capped : (most : ℕ) (form : Expr → Expr → Expr) (a b : Expr) (d j : ℕ) → with_two most form (capped most a d) (capped most b j) ≡ capped most (form a b) (max d j + 1)
two_capped most form a b d j = by_test (nat_lt (max d j) most) refl
  where
    deep : nat_lt (max d j) most ≡ false → (t u : Bool) → with_two most form (if t then Whole a d else Deep) (if u then Whole b j else Deep) ≡ Deep
    deep e true true = rw e refl
    deep e true false = refl
    deep e false u = refl

    by_test : (t : Bool) → nat_lt (max d j) most ≡ t → with_two most form (capped most a d) (capped most b j) ≡ capped most (form a b) (max d j + 1)
    by_test true e = let small : max d j < most = leb-true (suc (max d j)) most e in
        rw (le-leb d most (omega arith), le-leb j most (omega arith), e, le-leb (max d j + 1) most (omega arith)) refl
    by_test false e = let big : most ≤ max d j = omega (arith, leb-false (suc (max d j)) most e) in rw (lt-leb (max d j + 1) most (omega arith)) (deep e (nat_le d most) (nat_le j most))

-- parts with the depth of the deepest, if that is within the limit
abbrev within : {X : Type 0} → ℕ → X → ℕ → Option (X × ℕ)
within most x d = if nat_le d most then Some (x, d) else None

parts_capped : {X : Type 0} (most : ℕ) (form : X → Expr) (x : X) (d : ℕ) → with_parts most form (within most x d) ≡ capped most (form x) (d + 1)
parts_capped most form x d = by_test (nat_lt d most) refl
  where
    deep : nat_lt d most ≡ false → (b : Bool) → with_parts most form (if b then Some (x, d) else None) ≡ Deep
    deep e true = rw e refl
    deep e false = refl

    by_test : (b : Bool) → nat_lt d most ≡ b → with_parts most form (within most x d) ≡ capped most (form x) (d + 1)
    by_test true e = let small : d < most = leb-true (suc d) most e in rw (le-leb d most (omega arith), e, le-leb (d + 1) most (omega arith)) refl
    by_test false e = let big : most ≤ d = omega (arith, leb-false (suc d) most e) in rw (lt-leb (d + 1) most (omega arith)) (deep e (nat_le d most))

-- The greatest of two depths is within the limit where both are.
pub max_within : (most d j : ℕ) → nat_le (max d j) most ≡ (if nat_le d most then nat_le j most else false)
max_within most d j = by_test (nat_le d most) refl (nat_le j most) refl
  where
    by_test : (t : Bool) → nat_le d most ≡ t → (u : Bool) → nat_le j most ≡ u → nat_le (max d j) most ≡ (if t then u else false)
    by_test true e true f = le-leb (max d j) most (omega (arith, leb-true d most e, leb-true j most f))
    by_test true e false f = lt-leb (max d j) most (omega (arith, leb-false j most f))
    by_test false e u f = lt-leb (max d j) most (omega (arith, leb-false d most e))

part_within : (most : ℕ) (a : Expr) (args : List Expr) (d j : ℕ) → and_part (capped most a d) (within most args j) ≡ within most (a ∷ args) (max d j)
part_within most a args d j = rw (max_within most d j) (by_tests (nat_le d most) (nat_le j most))
  where
    by_tests : (t u : Bool) → and_part (if t then Whole a d else Deep) (if u then Some (args, j) else None) ≡ (if (if t then u else false) then Some (a ∷ args, max d j) else None)
    by_tests true true = refl
    by_tests true false = refl
    by_tests false u = refl

parts_within : (most : ℕ) (args : List Expr) → every_part (map (cap most) args) ≡ within most args (deepest_of args)
parts_within most [] = rw (le-leb 0 most (omega arith)) refl
parts_within most (a ∷ args) = rw (parts_within most args) (part_within most a args (depth a) (deepest_of args))

-- ---- depth of each form

depth_at : (x : Expr-F Expr Arm) → depth (roll-Expr x) ≡ depth_step (map-Expr Expr Arm ℕ ℕ depth depth_of_arm x)
unfolding depth depth_of_arm
depth_at x = fold-roll-Expr ℕ ℕ depth_step arm_depth_step x

arm_depth_at : (x : Arm-F Expr Arm) → depth_of_arm (roll-Arm x) ≡ arm_depth_step (map-Arm Expr Arm ℕ ℕ depth depth_of_arm x)
unfolding depth depth_of_arm
arm_depth_at x = fold-roll-Arm ℕ ℕ depth_step arm_depth_step x

depth_arm : (a : Arm) → depth_of_arm a ≡ max (depth a.when) (depth a.gives)
unfolding denote.Hole.Carrier.roll
depth_arm a = let x : Arm-F Expr Arm = record { when = a.when; gives = a.gives } in arm_depth_at x

pub cap_lit : (most : ℕ) → 1 ≤ most → (v : Value) → cap most (e.Lit v) ≡ leaf (e.Lit v)
unfolding roll-Expr denote.Hole.Carrier.roll
cap_lit most room v = rw (depth_at (Expr-F.Lit v), le-leb 1 most room) refl

pub cap_col : (most : ℕ) → 1 ≤ most → (name : List ℕ) → cap most (e.Col name) ≡ leaf (e.Col name)
unfolding roll-Expr denote.Hole.Carrier.roll
cap_col most room name = rw (depth_at (Expr-F.Col name), le-leb 1 most room) refl

pub cap_neg : (most : ℕ) (a : Expr) → with_one most e.Neg (cap most a) ≡ cap most (e.Neg a)
unfolding roll-Expr denote.Hole.Carrier.roll
cap_neg most a = one_capped most e.Neg a (depth a) ∙ ap (capped most (e.Neg a)) (sym (depth_at (Expr-F.Neg a)))

pub cap_not : (most : ℕ) (a : Expr) → with_one most e.Not (cap most a) ≡ cap most (e.Not a)
unfolding roll-Expr denote.Hole.Carrier.roll
cap_not most a = one_capped most e.Not a (depth a) ∙ ap (capped most (e.Not a)) (sym (depth_at (Expr-F.Not a)))

pub cap_is_null : (most : ℕ) (a : Expr) → with_one most e.IsNull (cap most a) ≡ cap most (e.IsNull a)
unfolding roll-Expr denote.Hole.Carrier.roll
cap_is_null most a = one_capped most e.IsNull a (depth a) ∙ ap (capped most (e.IsNull a)) (sym (depth_at (Expr-F.IsNull a)))

pub cap_cast : (most : ℕ) (a : Expr) (to : Ty) → with_one most (λ b. e.Cast b to) (cap most a) ≡ cap most (e.Cast a to)
unfolding roll-Expr denote.Hole.Carrier.roll
cap_cast most a to = one_capped most (λ b. e.Cast b to) a (depth a) ∙ ap (capped most (e.Cast a to)) (sym (depth_at (Expr-F.Cast a to)))

pub cap_bin : (most : ℕ) (o : BinOp) (a b : Expr) → with_two most (e.Bin o) (cap most a) (cap most b) ≡ cap most (e.Bin o a b)
unfolding roll-Expr denote.Hole.Carrier.roll
cap_bin most o a b = two_capped most (e.Bin o) a b (depth a) (depth b) ∙ ap (capped most (e.Bin o a b)) (sym (depth_at (Expr-F.Bin o a b)))

pub cap_call : (most : ℕ) (f : Func) (args : List Expr) → call_of most f (map (cap most) args) ≡ cap most (e.Call f args)
unfolding roll-Expr denote.Hole.Carrier.roll
cap_call most f args =
    ap (with_parts most (e.Call f)) (parts_within most args) ∙ parts_capped most (e.Call f) args (deepest_of args) ∙ ap (capped most (e.Call f args)) (sym (depth_at (Expr-F.Call f args)))

arm_within : (most : ℕ) (a : Arm) (arms : List Arm) (d j m : ℕ) → and_arm (capped most a.when d) (capped most a.gives j) (within most arms m) ≡ within most (a ∷ arms) (max (max d j) m)
arm_within most a arms d j m = rw (max_within most (max d j) m, max_within most d j) (by_tests (nat_le d most) (nat_le j most) (nat_le m most))
  where
    by_tests : (t u w : Bool) → and_arm (if t then Whole a.when d else Deep) (if u then Whole a.gives j else Deep) (if w then Some (arms, m) else None)
        ≡ (if (if (if t then u else false) then w else false) then Some (a ∷ arms, max (max d j) m) else None)
    by_tests true true true = refl
    by_tests true true false = refl
    by_tests true false w = refl
    by_tests false u w = refl

arms_within : (most : ℕ) (arms : List Arm) → every_arm (map (cap_arm most) arms) ≡ within most arms (deepest_arm arms)
arms_within most [] = rw (le-leb 0 most (omega arith)) refl
arms_within most (a ∷ arms) = rw (arms_within most arms, depth_arm a) (arm_within most a arms (depth a.when) (depth a.gives) (deepest_arm arms))

other_within : (most : ℕ) (arms : List Arm) (a : Expr) (d j : ℕ) → and_other (within most arms d) (capped most a j) ≡ within most (arms, a) (max d j)
other_within most arms a d j = rw (max_within most d j) (by_tests (nat_le d most) (nat_le j most))
  where
    by_tests : (t u : Bool) → and_other (if t then Some (arms, d) else None) (if u then Whole a j else Deep) ≡ (if (if t then u else false) then Some ((arms, a), max d j) else None)
    by_tests true true = refl
    by_tests true false = refl
    by_tests false u = refl

pub cap_case : (most : ℕ) (arms : List Arm) (other : Expr) → case_of most (map (cap_arm most) arms) (cap most other) ≡ cap most (e.Case arms other)
unfolding roll-Expr denote.Hole.Carrier.roll
cap_case most arms other =
    ap (λ x. with_parts most (λ x. e.Case x.0 x.1) (and_other x (cap most other))) (arms_within most arms)
    ∙ ap (with_parts most (λ x. e.Case x.0 x.1)) (other_within most arms other (deepest_arm arms) (depth other))
    ∙ parts_capped most (λ x. e.Case x.0 x.1) (arms, other) (max (deepest_arm arms) (depth other))
    ∙ ap (capped most (e.Case arms other)) (sym (depth_at (Expr-F.Case arms other)))

-- A list of parts with one more at its end.
use Rattle.std.proofs.Common.{◌≡◌, ℕ, List, [], ◌∷◌, ◌++◌, Option, Some, None, max, refl, ap, ◌∙◌, arith}
use Rattle.sql_base.specs.declared.exprs.Expr.{Expr}
use Rattle.sql_base.specs.declared.exprs.Arm.{Arm}
use Rattle.sql_parse.specs.declared.machine.Part.{Part}
use Rattle.sql_parse.specs.declared.machine.Part.TheVariants.{Whole, Deep}
use Rattle.sql_parse.specs.Building.{one_more, arm_of, an_arm_more}
use Rattle.sql_parse.specs.Machine.{and_part, every_part, and_arm, every_arm}

max_three : (a b c : ℕ) → max a (max b c) ≡ max (max a b) c
max_three a b c = omega arith

first_part : (a : Part) → and_part a (Some ([], 0)) ≡ one_more (Some ([], 0)) a
first_part (Whole a d) = let e : max d 0 ≡ max 0 d = omega arith in ap (λ n. Some (a ∷ [], n)) e
first_part Deep = refl

next_part : (b a : Part) (r : Option (List Expr × ℕ)) → and_part b (one_more r a) ≡ one_more (and_part b r) a
next_part (Whole b d) (Whole a j) (Some (args, m)) = ap (λ n. Some (b ∷ (args ++ a ∷ []), n)) (max_three d m j)
next_part (Whole b d) (Whole a j) None = refl
next_part (Whole b d) Deep (Some r) = refl
next_part (Whole b d) Deep None = refl
next_part Deep a (Some r) = refl
next_part Deep a None = refl

pub every_part_last : (parts : List Part) (a : Part) → every_part (parts ++ a ∷ []) ≡ one_more (every_part parts) a
every_part_last [] a = first_part a
every_part_last (b ∷ parts) a = ap (and_part b) (every_part_last parts a) ∙ next_part b a (every_part parts)

first_arm : (w a : Part) → and_arm w a (Some ([], 0)) ≡ an_arm_more (Some ([], 0)) (arm_of w a)
first_arm (Whole w d) (Whole a j) = let e : max (max d j) 0 ≡ max 0 (max d j) = omega arith in ap (λ n. Some (record { when = w; gives = a } ∷ [], n)) e
first_arm (Whole w d) Deep = refl
first_arm Deep a = refl

next_arm : (v b : Part) (r : Option (List Arm × ℕ)) (x : Option (Arm × ℕ)) → and_arm v b (an_arm_more r x) ≡ an_arm_more (and_arm v b r) x
next_arm (Whole v d) (Whole b j) (Some (arms, m)) (Some (a, n)) = ap (λ n. Some (record { when = v; gives = b } ∷ (arms ++ a ∷ []), n)) (max_three (max d j) m n)
next_arm (Whole v d) (Whole b j) (Some (arms, m)) None = refl
next_arm (Whole v d) (Whole b j) None x = refl
next_arm (Whole v d) Deep r x = refl
next_arm Deep b r x = refl

pub every_arm_last : (arms : List (Part × Part)) (x : Part × Part) → every_arm (arms ++ x ∷ []) ≡ an_arm_more (every_arm arms) (arm_of x.0 x.1)
every_arm_last [] (w, a) = first_arm w a
every_arm_last ((v, b) ∷ arms) (w, a) = ap (and_arm v b) (every_arm_last arms (w, a)) ∙ next_arm v b (every_arm arms) (arm_of w a)

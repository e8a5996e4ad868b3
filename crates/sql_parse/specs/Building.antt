-- Lists of parts that grow at their end.
use Rattle.std.specs.Prelude.{ℕ, List, [], ◌∷◌, ◌++◌, Option, Some, None, max}
use Rattle.sql_base.specs.declared.exprs.Expr.{Expr}
use Rattle.sql_base.specs.declared.exprs.Arm.{Arm}
use Rattle.sql_parse.specs.declared.machine.Part.{Part}
use Rattle.sql_parse.specs.declared.machine.Part.TheVariants.{Whole}

-- arguments with the depth of the deepest, and one more
abbrev pub one_more : Option (List Expr × ℕ) → Part → Option (List Expr × ℕ)
one_more (Some (args, j)) (Whole a d) = Some (args ++ a ∷ [], max j d)
one_more _ _ = None

-- two parts as an arm, with the depth of the deeper
abbrev pub arm_of : Part → Part → Option (Arm × ℕ)
arm_of (Whole a d) (Whole b j) = Some (record { when = a; gives = b }, max d j)
arm_of _ _ = None

-- arms with the depth of the deepest, and one more
abbrev pub an_arm_more : Option (List Arm × ℕ) → Option (Arm × ℕ) → Option (List Arm × ℕ)
an_arm_more (Some (arms, m)) (Some (a, d)) = Some (arms ++ a ∷ [], max m d)
an_arm_more _ _ = None

-- Which constraints are valid, whatever the versions are.
use Rattle.std.proofs.Common.{◌≡◌, ◌≢◌, ◌∙◌, ℕ, List, [], ◌∷◌, ◌++◌, Bool, true, false, ◌&&◌, Some, None, Decides, ap, map, refl, sym}
use Rattle.std.specs.Prelude.{◌==◌, ◌||◌, codes, find, not, if◌then◌else◌}
use Rattle.std.specs.List.{list_any}
use Rattle.std.specs.Str.{bytes_eq}
use Rattle.std.proofs.lemmas.Bool.Decides.{Decides-like, same_from_decides}
use Rattle.std.proofs.lemmas.List.{append_cancel_right}
use Rattle.std.proofs.lemmas.List.Folds.{list_any-append}
use Rattle.std.proofs.lemmas.Slice.Eq.{bytes_eq-Decides}
use Rattle.sql_base.specs.declared.shapes.Shape.{Shape}
use Rattle.mig_lens.specs.declared.columns.Side.TheVariants.{Old, New}
use Rattle.mig_lens.specs.Plan.{key_name}
use Rattle.catalog.specs.declared.versions.Stage.{Stage}
use Rattle.catalog.specs.declared.versions.Stage.TheVariants.{Calm, Both, AfterFirst, AfterSecond, RolledBack}
use Rattle.catalog.specs.Laws.{OldConstraintsStayValid, ValidWhileCalm, is_active}
use Rattle.catalog.specs.Valid.{added_names, gets_no_fill, has_added, has_constraint}
use Rattle.catalog.specs.Versions.{newer_tables, table_on}

-- ---- the name of a key's constraint

-- what stands before `_pkey` is the table's name exactly where the whole is the name of its key's constraint
pub key_name_of : (table name front : List ℕ) → name ≡ front ++ codes "_pkey" → bytes_eq front table ≡ bytes_eq name (key_name table)
key_name_of table name front e =
    let same : Decides (bytes_eq front table) (front ≡ table) = bytes_eq-Decides front table in
    let whole : Decides (bytes_eq name (key_name table)) (front ≡ table) =
    Decides-like (bytes_eq name (key_name table))
    (λ is. append_cancel_right front table (codes "_pkey") (sym e ∙ is))
    (λ is. e ∙ ap (λ t. t ++ codes "_pkey") is)
    (bytes_eq-Decides name (key_name table)) in
    same_from_decides (bytes_eq front table) (bytes_eq name (key_name table)) same whole

no_key : (table name : List ℕ) (is : Bool) → bytes_eq name (key_name table) ≡ is → ((front : List ℕ) → name ≢ front ++ codes "_pkey") → false ≡ is
no_key table name true e none = absurd (none table ((bytes_eq-Decides name (key_name table)).0 e))
no_key table name false e none = refl

-- A name without it is none.
pub no_key_name : (table name : List ℕ) → ((front : List ℕ) → name ≢ front ++ codes "_pkey") → false ≡ bytes_eq name (key_name table)
no_key_name table name none = no_key table name (bytes_eq name (key_name table)) refl none

-- ---- the names of other constraints

any_named : {T : Type 0} (name_of : T → List ℕ) (name : List ℕ) (all : List T) → list_any (bytes_eq name) (map name_of all) ≡ list_any (λ x. bytes_eq name (name_of x)) all
any_named name_of name [] = refl
any_named name_of name (x ∷ all) = ap (λ rest. bytes_eq name (name_of x) || rest) (any_named name_of name all)

-- A shape has a constraint of a name where a check or a unique constraint has it.
pub has_name : (shape : Shape) (name : List ℕ) → list_any (bytes_eq name) (added_names shape) ≡ (list_any (λ check. bytes_eq name check.name) shape.checks || list_any (λ unique. bytes_eq name unique.name) shape.uniques)
has_name shape name =
    list_any-append (bytes_eq name) (map (λ check. check.name) shape.checks) (map (λ unique. unique.name) shape.uniques)
    ∙ ap (λ checks. checks || list_any (bytes_eq name) (map (λ unique. unique.name) shape.uniques)) (any_named (λ check. check.name) name shape.checks)
    ∙ ap (λ uniques. list_any (λ check. bytes_eq name check.name) shape.checks || uniques) (any_named (λ unique. unique.name) name shape.uniques)

-- ---- tests

-- A constraint that the old version has isn't made by the migration.
old_is_valid : (old new added unfilled : Bool) → old ≡ true → (if old || new then Some (not (added && not old && unfilled)) else None) ≡ Some true
old_is_valid true new true unfilled has = refl
old_is_valid true new false unfilled has = refl
old_is_valid false new added unfilled has = cc

-- nor is one that the new version doesn't have
unmade_is_valid : (old new added unfilled : Bool) → (old || new) ≡ true → added ≡ false → (if old || new then Some (not (added && not old && unfilled)) else None) ≡ Some true
unmade_is_valid true new false unfilled has none = refl
unmade_is_valid false true false unfilled has none = refl
unmade_is_valid false false false unfilled has none = cc
unmade_is_valid old new true unfilled has none = cc

-- ---- the laws

pub old_constraints_stay_valid : OldConstraintsStayValid
old_constraints_stay_valid known number name has =
    old_is_valid (has_constraint (table_on known Old number) name) (has_constraint (table_on known New number) name) (has_added (table_on known New number) name) (gets_no_fill known number) has

no_newer_tables : (stage : Stage) → is_active stage ≡ false → newer_tables stage ≡ []
no_newer_tables Calm calm = refl
no_newer_tables (Both name schema fates) calm = cc
no_newer_tables (AfterFirst lost fates) calm = refl
no_newer_tables (AfterSecond lost fates) calm = refl
no_newer_tables (RolledBack lost fates) calm = refl

pub valid_while_calm : ValidWhileCalm
valid_while_calm known number name calm has =
    let none : has_added (table_on known New number) name ≡ false = ap (λ tables. has_added (find (λ table. table.1 == number) tables) name) (no_newer_tables known.stage calm) in
    unmade_is_valid (has_constraint (table_on known Old number) name) (has_constraint (table_on known New number) name) (has_added (table_on known New number) name) (gets_no_fill known number) has none

-- The reader's way through a statement: the stage that it is in, and one step for each token. A list or a statement is
-- given up where a tree in it was.
use Rattle.std.specs.Prelude.{ℕ, List, [], ◌∷◌, ◌++◌, Bool, true, false, Option, Some, None, codes, if◌then◌else◌}
use Rattle.std.specs.Option.{option_map}
use Rattle.std.specs.Str.{bytes_eq}
use Rattle.sql_base.specs.declared.exprs.Expr.{Expr}
use Rattle.sql_base.specs.declared.stmts.Stmt.{Stmt}
use Rattle.sql_base.specs.declared.stmts.Stmt.TheVariants as stmt
use Rattle.sql_base.specs.declared.stmts.Items.TheVariants as items
use Rattle.sql_text.specs.declared.keys.Key.TheVariants as k
use Rattle.sql_text.specs.declared.tokens.Sign.TheVariants as s
use Rattle.sql_text.specs.declared.tokens.Token.{Token}
use Rattle.sql_text.specs.declared.tokens.Token.TheVariants as t
use Rattle.sql_parse.specs.declared.machine.Part.{Part}
use Rattle.sql_parse.specs.declared.machine.Part.TheVariants.{Whole, Deep}
use Rattle.sql_parse.specs.declared.machine.State.{State}
use Rattle.sql_parse.specs.declared.machine.State.TheVariants as q
use Rattle.sql_parse.specs.declared.stages.Main.{Main}
use Rattle.sql_parse.specs.declared.stages.Main.TheVariants as m
use Rattle.sql_parse.specs.declared.stages.Place.{Place}
use Rattle.sql_parse.specs.declared.stages.Place.TheVariants as pl
use Rattle.sql_parse.specs.declared.stages.InsertStage.{InsertStage}
use Rattle.sql_parse.specs.declared.stages.InsertStage.TheVariants as i
use Rattle.sql_parse.specs.declared.stages.UpdateStage.{UpdateStage}
use Rattle.sql_parse.specs.declared.stages.UpdateStage.TheVariants as u
use Rattle.sql_parse.specs.declared.stages.SelectStage.{SelectStage}
use Rattle.sql_parse.specs.declared.stages.SelectStage.TheVariants as r
use Rattle.sql_parse.specs.declared.stages.PathStage.{PathStage}
use Rattle.sql_parse.specs.declared.stages.PathStage.TheVariants as w
use Rattle.sql_parse.specs.declared.stages.Stage.{Stage}
use Rattle.sql_parse.specs.declared.stages.Stage.TheVariants as g
use Rattle.sql_parse.specs.Grammar.{name_of}
use Rattle.sql_parse.specs.Machine.{is_flat, step}

-- ---- lists and statements, given up where a tree was

-- the tree of a part
abbrev pub whole : Part → Option Expr
whole (Whole a d) = Some a
whole Deep = None

abbrev pub both : {X Y Z : Type 0} → (X → Y → Z) → Option X → Option Y → Option Z
both form (Some x) (Some y) = Some (form x y)
both form _ _ = None

abbrev pub with_last : {X : Type 0} → Option (List X) → Option X → Option (List X)
with_last (Some list) (Some x) = Some (list ++ x ∷ [])
with_last _ _ = None

-- a statement with its filter
abbrev pub completed : Main → Option (Option Expr) → Option Stmt
completed (m.Update table sets) filter = both (stmt.Update table) sets filter
completed (m.Delete table) filter = option_map (stmt.Delete table) filter
completed (m.Query table list) filter = both (stmt.Query table) list filter

-- ---- what may come behind

-- a statement
abbrev pub ended_then : Option Stmt → Token → Option Stage
ended_then it (t.Sign s.Semicolon) = Some (g.Ended it)
ended_then it t.End = Some (g.Done it)
ended_then it _ = None

-- a statement that may have a filter
abbrev pub main_then : Main → Token → Option Stage
main_then main (t.Key k.Where) = Some (g.In (pl.Filter main) (q.Want []))
main_then main x = ended_then (completed main (Some None)) x

-- the values of a tuple so far
abbrev pub values_then : List ℕ → List (List ℕ) → Option (List (List Expr)) → Option (List Expr) → Token → Option Stage
values_then table columns rows row (t.Sign s.Comma) = Some (g.In (pl.Tuple table columns rows row) (q.Want []))
values_then table columns rows row (t.Sign s.Close) = Some (g.Insert (i.TupleHad table columns (with_last rows row)))
values_then table columns rows row _ = None

-- the assignments so far
abbrev pub sets_then : List ℕ → Option (List (List ℕ × Expr)) → Token → Option Stage
sets_then table sets (t.Sign s.Comma) = Some (g.Update (u.Wanted table sets))
sets_then table sets x = main_then (m.Update table sets) x

-- the items so far
abbrev pub items_then : Option (List Expr) → Token → Option Stage
items_then list (t.Sign s.Comma) = Some (g.In (pl.Item list) (q.Want []))
items_then list (t.Key k.From) = Some (g.Select (r.From (option_map items.Listed list)))
items_then list _ = None

-- an expression
abbrev pub behind : Place → Option Expr → Token → Option Stage
behind (pl.Tuple table columns rows row) a x = values_then table columns rows (with_last row a) x
behind (pl.Assigned table sets name) a x = sets_then table (with_last sets (option_map (λ b. (name, b)) a)) x
behind (pl.Item list) a x = items_then (with_last list a) x
behind (pl.Filter main) a x = ended_then (completed main (option_map Some a)) x

-- ---- in an expression

-- whether an expression may end before this token
abbrev pub stops : Token → Bool
stops (t.Sign s.Comma) = true
stops (t.Sign s.Close) = true
stops (t.Sign s.Semicolon) = true
stops (t.Key k.From) = true
stops (t.Key k.Where) = true
stops t.End = true
stops _ = false

-- whether an expression may end here
abbrev pub is_whole : State → Bool
is_whole (q.Have st a l) = is_flat st
is_whole (q.Named st f name) = is_flat st
is_whole _ = false

-- whether the token stands behind the expression
abbrev pub leaves : Token → State → Bool
leaves x state = if stops x then is_whole state else false

abbrev pub left_at : Place → Token → Option State → Option Stage
left_at place x (Some (q.Done a)) = behind place (whole a) x
left_at place x _ = None

abbrev pub within : ℕ → Place → State → Token → Option Stage
within most place state x = if leaves x state then left_at place x (step most state t.End) else option_map (g.In place) (step most state x)

-- ---- one step

abbrev pub insert_then : InsertStage → Token → Option Stage
insert_then i.Word (t.Key k.Into) = Some (g.Insert i.Into)
insert_then i.Into x = option_map (λ table. g.Insert (i.Table table)) (name_of x)
insert_then (i.Table table) (t.Sign s.Open) = Some (g.Insert (i.ColumnWanted table []))
insert_then (i.ColumnWanted table columns) x = option_map (λ name. g.Insert (i.ColumnHad table (columns ++ name ∷ []))) (name_of x)
insert_then (i.ColumnHad table columns) (t.Sign s.Comma) = Some (g.Insert (i.ColumnWanted table columns))
insert_then (i.ColumnHad table columns) (t.Sign s.Close) = Some (g.Insert (i.Columns table columns))
insert_then (i.Columns table columns) (t.Key k.Values) = Some (g.Insert (i.TupleWanted table columns (Some [])))
insert_then (i.TupleWanted table columns rows) (t.Sign s.Open) = Some (g.In (pl.Tuple table columns rows (Some [])) (q.Want []))
insert_then (i.TupleHad table columns rows) (t.Sign s.Comma) = Some (g.Insert (i.TupleWanted table columns rows))
insert_then (i.TupleHad table columns rows) x = ended_then (option_map (stmt.Insert table columns) rows) x
insert_then _ _ = None

abbrev pub update_then : UpdateStage → Token → Option Stage
update_then u.Word x = option_map (λ table. g.Update (u.Table table)) (name_of x)
update_then (u.Table table) (t.Key k.Set) = Some (g.Update (u.Wanted table (Some [])))
update_then (u.Wanted table sets) x = option_map (λ name. g.Update (u.Named table sets name)) (name_of x)
update_then (u.Named table sets name) (t.Sign s.Eq) = Some (g.In (pl.Assigned table sets name) (q.Want []))
update_then _ _ = None

abbrev pub delete_then : Token → Option Stage
delete_then (t.Key k.From) = Some g.DeleteFrom
delete_then _ = None

abbrev pub select_then : ℕ → SelectStage → Token → Option Stage
select_then most r.Word (t.Sign s.Star) = Some (g.Select r.Starred)
select_then most r.Word x = option_map (g.In (pl.Item (Some []))) (step most (q.Want []) x)
select_then most r.Starred (t.Key k.From) = Some (g.Select (r.From (Some items.All)))
select_then most (r.From list) x = option_map (λ table. g.Main (m.Query table list)) (name_of x)
select_then most _ _ = None

abbrev pub path_word : Option (List ℕ) → Option Stage
path_word None = None
path_word (Some name) = if bytes_eq name (codes "search_path") then Some (g.Set w.Path) else None

abbrev pub set_then : PathStage → Token → Option Stage
set_then w.Word x = path_word (name_of x)
set_then w.Path (t.Key k.To) = Some (g.Set (w.Wanted []))
set_then (w.Wanted names) x = option_map (λ name. g.Set (w.Had (names ++ name ∷ []))) (name_of x)
set_then (w.Had names) (t.Sign s.Comma) = Some (g.Set (w.Wanted names))
set_then (w.Had names) x = ended_then (Some (stmt.SetPath names)) x
set_then _ _ = None

abbrev pub begun : Token → Option Stage
begun (t.Key k.Insert) = Some (g.Insert i.Word)
begun (t.Key k.Update) = Some (g.Update u.Word)
begun (t.Key k.Delete) = Some g.Delete
begun (t.Key k.Select) = Some (g.Select r.Word)
begun (t.Key k.Set) = Some (g.Set w.Word)
begun _ = None

abbrev pub closed_then : Option Stmt → Token → Option Stage
closed_then it t.End = Some (g.Done it)
closed_then it _ = None

abbrev pub stage_step : ℕ → Stage → Token → Option Stage
stage_step most g.Begin x = begun x
stage_step most (g.Insert stage) x = insert_then stage x
stage_step most (g.Update stage) x = update_then stage x
stage_step most g.Delete x = delete_then x
stage_step most g.DeleteFrom x = option_map (λ table. g.Main (m.Delete table)) (name_of x)
stage_step most (g.Select stage) x = select_then most stage x
stage_step most (g.Set stage) x = set_then stage x
stage_step most (g.Main main) x = main_then main x
stage_step most (g.In place state) x = within most place state x
stage_step most (g.Ended it) x = closed_then it x
stage_step most (g.Done it) x = None

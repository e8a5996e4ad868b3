-- Members that hold an array which isn't empty.
use Rattle.std.proofs.Common.{◌≡◌, ℕ, List, [], map, length, Option, Some, Result, Ok, Err, true, inr, refl, sym, subst}
use Rattle.serde_json.specs.Data.{Data, Items, array}
use Rattle.mig_lens.specs.declared.migrations.ColumnDef.{ColumnDef}
use Rattle.mig_json.specs.declared.faults.JsonFault.{JsonFault}
use Rattle.mig_json.specs.Demand.{Reads}
use Rattle.mig_json.specs.Kind as kind
use Rattle.mig_json.specs.Kind.{ValuesOf, Is, Has, AreItems, IsNewName, is_filled, needed, demands, item_demands, name_demands, element_path}
use Rattle.mig_json.specs.Table.{column, column_of, IsColumn}
use Rattle.mig_json.proofs.Loops.{made_of}

pub of_columns : (at : ℕ) (path : List ℕ) (fault : JsonFault) (o : Option Data) (ds : Items) (r : Result (List ColumnDef) JsonFault) → o ≡ Some (array ds) → is_filled ds ≡ true →
    Reads (item_demands (λ before e. demands (kind.object column) at (element_path path (length before)) e) [] ds) (λ xs. AreItems (λ before. IsColumn) [] ds xs) r →
    Reads (needed (demands (kind.many (kind.object column)) at path) fault o) (λ it. (xs : List (ValuesOf column)) × Has (Is (kind.many (kind.object column))) o xs × (it ≡ map column_of xs)) r
of_columns at path fault o ds (Ok it) e filled h =
    let made = made_of (Is (kind.object column)) column_of [] ds it h.1 in
    let P : Option Data → Type 0 = λ o. Reads (needed (demands (kind.many (kind.object column)) at path) fault o) (λ it. (xs : List (ValuesOf column)) × Has (Is (kind.many (kind.object column))) o xs × (it ≡ map column_of xs)) (Ok it) in
    subst P (sym e) ((refl, (filled, h.0)), (made.0, (ds, refl, filled, made.1), made.2))
of_columns at path fault o ds (Err f) e filled h =
    let P : Option Data → Type 0 = λ o. Reads (needed (demands (kind.many (kind.object column)) at path) fault o) (λ it. (xs : List (ValuesOf column)) × Has (Is (kind.many (kind.object column))) o xs × (it ≡ map column_of xs)) (Err f) in
    subst P (sym e) (λ n. inr (refl, inr (filled, h n)))

pub of_names : (at : ℕ) (path : List ℕ) (fault : JsonFault) (o : Option Data) (ds : Items) (r : Result (List (List ℕ)) JsonFault) → o ≡ Some (array ds) → is_filled ds ≡ true →
    Reads (item_demands (name_demands at path) [] ds) (λ xs. AreItems IsNewName [] ds xs) r → Reads (needed (demands kind.names at path) fault o) (λ xs. Has (Is kind.names) o xs) r
of_names at path fault o ds (Ok it) e filled h =
    let P : Option Data → Type 0 = λ o. Reads (needed (demands kind.names at path) fault o) (λ xs. Has (Is kind.names) o xs) (Ok it) in
    subst P (sym e) ((refl, (filled, h.0)), (ds, refl, filled, h.1))
of_names at path fault o ds (Err f) e filled h =
    let P : Option Data → Type 0 = λ o. Reads (needed (demands kind.names at path) fault o) (λ xs. Has (Is kind.names) o xs) (Err f) in
    subst P (sym e) (λ n. inr (refl, inr (filled, h n)))

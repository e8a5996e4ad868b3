-- Want of memory is the fault of no demand.
use Rattle.std.proofs.Common.{◌≡◌, ◌≢◌, ℕ, List, [], ◌∷◌, ◌++◌, length, Option, Some, None, Bool, true, false, cond, inl, inr, sym, ◌∙◌, codes}
use Rattle.std.specs.List.{AllByRecursion}
use Rattle.serde_json.specs.Data.{Data, Items, no_items, item, Members, no_members, member}
use Rattle.serde_json.specs.Find.{get}
use Rattle.mig_lens.specs.declared.faults.Member.{Member}
use Rattle.mig_json.specs.declared.faults.JsonFault.{JsonFault}
use Rattle.mig_json.specs.declared.faults.JsonFault.TheVariants.{TooLong, NoMemory}
use Rattle.mig_json.specs.Demand.{Demand, reads, FirstUnmet, fault_of, inside}
use Rattle.mig_json.specs.Kind as kind
use Rattle.mig_json.specs.Kind.{Kind, Fields, bad, is_text, text_of, items_of, members_of, needed, within, member_path, element_path, item_demands, name_demands, pairs_demands, each_demands, demands, field_demands}
use Rattle.mig_json.specs.Migration.{FaultsWantNothing}
use Rattle.mig_json.specs.Reading.{Asked, asked, form_demands, operation_demands, json_in, migration_demands, text_demands}

-- none of the demands has want of memory for its fault
abbrev WantNothing : List Demand → Type 0
WantNothing demands = AllByRecursion (λ demand. fault_of demand ≢ NoMemory) demands

first_is : (xs : List Demand) (f : JsonFault) → WantNothing xs → FirstUnmet xs f → f ≢ NoMemory
first_is [] f all unmet e = absurd unmet
first_is (x ∷ xs) f all (inl here) e = all.0 (sym here.1 ∙ e)
first_is (x ∷ xs) f all (inr later) e = first_is xs f all.1 later.1 e

want_append : (xs ys : List Demand) → WantNothing xs → WantNothing ys → WantNothing (xs ++ ys)
want_append [] ys h k = k
want_append (x ∷ xs) ys h k = (h.0, want_append xs ys h.1 k)

want_within : (demands : Data → List Demand) (o : Option Data) → ((d : Data) → WantNothing (demands d)) → WantNothing (within demands o)
want_within demands None all = tt
want_within demands (Some d) all = all d

want_items : (demands : List Data → Data → List Demand) (before : List Data) (ds : Items) → ((before : List Data) (d : Data) → WantNothing (demands before d)) → WantNothing (item_demands demands before ds)
want_items demands before no_items all = tt
want_items demands before (item d ds) all = want_append (demands before d) (item_demands demands (before ++ d ∷ []) ds) (all before d) (want_items demands (before ++ d ∷ []) ds all)

inside_is : (at : ℕ) (path : List ℕ) → inside at path ≢ NoMemory
inside_is at path e = absurd cc

bad_is : (place : Member) (at : ℕ) → bad place at ≢ NoMemory
bad_is place at e = absurd cc

want_pairs : (place : Member) (at : ℕ) (path : List ℕ) (ms : Members) → WantNothing (pairs_demands place at path ms)
want_pairs place at path no_members = tt
want_pairs place at path (member key d ms) = (inside_is at path, (inside_is at path, (bad_is place at, want_pairs place at path ms)))

want_each : (place : Member) (at : ℕ) (path : List ℕ) (d : Data) → WantNothing (each_demands place at path d)
want_each place at path d = (inside_is at path, want_pairs place at path (members_of d))

want_ways : (place : Member) (at : ℕ) (path : List ℕ) (d : Data) (b : Bool) → WantNothing (cond b (reads (text_of d) (bad place at) ∷ []) (each_demands place at path d))
want_ways place at path d true = (bad_is place at, tt)
want_ways place at path d false = want_each place at path d

want_name : (at : ℕ) (path : List ℕ) (before : List Data) (d : Data) → WantNothing (name_demands at path before d)
want_name at path before d = (inside_is at (element_path path (length before)), (inside_is at (element_path path (length before)), tt))

mutual
  of_kind : (kind : Kind) (at : ℕ) (path : List ℕ) (d : Data) → WantNothing (demands kind at path d)
  of_kind kind.name at path d = (inside_is at path, tt)
  of_kind kind.type at path d = (inside_is at path, ((λ e. absurd cc), tt))
  of_kind kind.flag at path d = (inside_is at path, tt)
  of_kind (kind.word text) at path d = (inside_is at path, tt)
  of_kind (kind.expression place) at path d = (inside_is at path, (bad_is place at, tt))
  of_kind (kind.literal place) at path d = (inside_is at path, (bad_is place at, tt))
  of_kind (kind.object fields) at path d = (inside_is at path, of_fields fields at path d)
  of_kind (kind.many one) at path d =
      (inside_is at path, want_items (λ before e. demands one at (element_path path (length before)) e) [] (items_of d) (λ before e. of_kind one at (element_path path (length before)) e))
  of_kind kind.names at path d = (inside_is at path, want_items (name_demands at path) [] (items_of d) (want_name at path))
  of_kind (kind.each place) at path d = want_each place at path d
  of_kind (kind.ways place) at path d = want_ways place at path d (is_text d)

  of_fields : (fields : Fields) (at : ℕ) (path : List ℕ) (d : Data) → WantNothing (field_demands fields at path d)
  of_fields kind.end at path d = tt
  of_fields (kind.must key one fields) at path d =
      want_append (needed (demands one at (member_path path key)) (inside at (member_path path key)) (get key d)) (field_demands fields at path d)
      (inside_is at (member_path path key), want_within (demands one at (member_path path key)) (get key d) (of_kind one at (member_path path key)))
      (of_fields fields at path d)
  of_fields (kind.may key one fields) at path d =
      want_append (within (demands one at (member_path path key)) (get key d)) (field_demands fields at path d)
      (want_within (demands one at (member_path path key)) (get key d) (of_kind one at (member_path path key)))
      (of_fields fields at path d)
  of_fields (kind.never key fields) at path d = (inside_is at (member_path path key), of_fields fields at path d)

of_form : (at : ℕ) (o : Option Asked) → WantNothing (form_demands at o)
of_form at None = tt
of_form at (Some it) = of_kind (kind.object _) at [] it.value

of_operation : (before : List Data) (d : Data) → WantNothing (operation_demands before d)
of_operation before d = (inside_is (length before) [], of_form (length before) (asked d))

of_migration : (d : Data) → WantNothing (migration_demands d)
unfolding migration_demands
of_migration d =
    ((λ e. absurd cc), ((λ e. absurd cc), ((λ e. absurd cc), want_within (λ d. item_demands operation_demands [] (items_of d)) (get (codes "operations") d) (λ d. want_items operation_demands [] (items_of d) of_operation))))

of_text : (text : List ℕ) → WantNothing (text_demands text)
unfolding text_demands
of_text text = ((λ e. absurd cc), ((λ e. absurd cc), want_within migration_demands (json_in text) of_migration))

pub faults_want_nothing : FaultsWantNothing
faults_want_nothing text f (inl unmet) = first_is (text_demands text) f (of_text text) unmet
faults_want_nothing text f (inr long) = told f long.is
  where
    told : {n : ℕ} (f : JsonFault) → f ≡ TooLong n → f ≢ NoMemory
    told f is e = absurd cc

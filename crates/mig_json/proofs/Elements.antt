-- The values of a slice, and the only member of a map.
use Rattle.std.proofs.Common.{◌≡◌, ℕ, List, [], ◌∷◌, map, true, false, Bool, ◌||◌, ◌==◌, not, length, sym, String, Global, string_bytes, Some, None, refl, ap}
use Rattle.std.specs.List.{list_any}
use Rattle.serde_json.specs.Data.{Data}
use Rattle.serde_json.specs.Find.{as_str}
use Rattle.serde_json.specs.View.{view, items_view, members_view}
use Rattle.serde_json.specs.declared.value.Value.{Value}
use Rattle.mig_json.specs.Kind.{is_word, is_new, is_filled}
use Rattle.mig_json.specs.Reading.{only_in}

abbrev pub Entries : Type 0
Entries = List (String Global × Value)

pub only_of_none : (es : Entries) → es ≡ [] → only_in (members_view es) ≡ None
only_of_none es e = ap (λ (es : Entries). only_in (members_view es)) e

pub only_of_one : (es : Entries) (e : String Global × Value) → es ≡ e ∷ [] → only_in (members_view es) ≡ Some (string_bytes e.0, view e.1)
only_of_one es e h = ap (λ (es : Entries). only_in (members_view es)) h

pub only_of_many : (es rest : Entries) (e f : String Global × Value) → es ≡ e ∷ f ∷ rest → only_in (members_view es) ≡ None
only_of_many es rest e f h = ap (λ (es : Entries). only_in (members_view es)) h

pub any_seen : (text : List ℕ) (vs : List Value) → list_any (λ e. is_word text e) (map view vs) ≡ list_any (λ v. is_word text (view v)) vs
any_seen text [] = refl
any_seen text (v ∷ vs) = ap (λ (b : Bool). is_word text (view v) || b) (any_seen text vs)

pub new_of : (d : Data) (text : List ℕ) (vs : List Value) → as_str d ≡ Some text → not (list_any (λ v. is_word text (view v)) vs) ≡ is_new (map view vs) d
new_of d text vs h = rw h (ap not (sym (any_seen text vs)))

pub filled_of : (vs : List Value) → (length vs == 0) ≡ false → is_filled (items_view vs) ≡ true
filled_of [] h = absurd cc
filled_of (v ∷ vs) h = refl

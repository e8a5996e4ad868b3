-- The members of an object, read one after the other.
use Rattle.std.proofs.Common.{◌≡◌, ℕ, List, [], ◌∷◌, ◌++◌, String, Global, string_bytes, refl, sym, ap, subst}
use Rattle.serde_json.specs.View.{view, members_view}
use Rattle.serde_json.specs.declared.value.Value.{Value}
use Rattle.sql_base.specs.declared.exprs.Expr.{Expr}
use Rattle.mig_lens.specs.declared.faults.Member.{Member}
use Rattle.mig_json.specs.declared.faults.JsonFault.{JsonFault}
use Rattle.mig_json.specs.Demand.{Demand, AreMet, FirstUnmet}
use Rattle.mig_json.specs.Kind.{pairs_demands, pair_demands, ArePairs, IsPair}
use Rattle.mig_json.proofs.Demands.{unmet_front, unmet_back, met_append}

abbrev pub Entry : Type 0
Entry = String Global × Value

module _ (place : Member) (at : ℕ) (path : List ℕ) where
  pairs_append : (es fs : List Entry) → pairs_demands place at path (members_view (es ++ fs)) ≡ pairs_demands place at path (members_view es) ++ pairs_demands place at path (members_view fs)
  pairs_append [] fs = refl
  pairs_append (e ∷ es) fs = ap (λ (ds : List Demand). pair_demands place at path (string_bytes e.0) (view e.1) ++ ds) (pairs_append es fs)

  are_append : (es fs : List Entry) (xs ys : List (List ℕ × Expr)) → ArePairs (members_view es) xs → ArePairs (members_view fs) ys → ArePairs (members_view (es ++ fs)) (xs ++ ys)
  are_append [] fs xs ys h k = let P : List (List ℕ × Expr) → Type 0 = λ zs. ArePairs (members_view fs) zs in subst P (ap (λ (zs : List (List ℕ × Expr)). zs ++ ys) (sym h)) k
  are_append (e ∷ es) fs xs ys h k = (h.0, h.1 ++ ys, h.2, are_append es fs h.1 ys h.3 k, ap (λ (zs : List (List ℕ × Expr)). zs ++ ys) h.4)

  -- these members were read
  pub record Done (es : List Entry) (xs : List (List ℕ × Expr)) : Type 0 where
    pub met : AreMet (pairs_demands place at path (members_view es))
    pub are : ArePairs (members_view es) xs

  pub none_done : Done [] []
  none_done = record { met = tt; are = refl }

  pub one_more : {es : List Entry} {xs : List (List ℕ × Expr)} (e : Entry) (x : List ℕ × Expr) → Done es xs → AreMet (pair_demands place at path (string_bytes e.0) (view e.1)) × IsPair (string_bytes e.0) (view e.1) x → Done (es ++ e ∷ []) (xs ++ x ∷ [])
  one_more {es} {xs} e x h got = record {
    met = subst AreMet (sym (pairs_append es (e ∷ []))) (met_append (pairs_demands place at path (members_view es)) (pairs_demands place at path (members_view (e ∷ []))) h.met got.0);
    are = are_append es (e ∷ []) xs (x ∷ []) h.are (x, [], got.1, refl, refl);
  }

  pub pair_fails : {es : List Entry} {xs : List (List ℕ × Expr)} (all left : List Entry) (e : Entry) (f : JsonFault) → all ≡ es ++ e ∷ left → Done es xs → FirstUnmet (pair_demands place at path (string_bytes e.0) (view e.1)) f → FirstUnmet (pairs_demands place at path (members_view all)) f
  pair_fails {es} all left e f is h unmet =
      let here = unmet_front (pair_demands place at path (string_bytes e.0) (view e.1)) (pairs_demands place at path (members_view left)) f unmet in
      let later = unmet_back (pairs_demands place at path (members_view es)) (pairs_demands place at path (members_view (e ∷ left))) f h.met here in
      let P : List Demand → Type 0 = λ ds. FirstUnmet ds f in
      let Q : List Entry → Type 0 = λ us. FirstUnmet (pairs_demands place at path (members_view us)) f in
      subst Q (sym is) (subst P (sym (pairs_append es (e ∷ left))) later)

-- What is lost with a version, column by column.
use Rattle.std.proofs.Common.{◌≡◌, ◌∙◌, inl, inr, ℕ, ◌+◌, ◌<◌, List, [], ◌∷◌, Option, refl, sym, ap, drop, get_or, length, slice_get, arith}
use Rattle.std.proofs.lemmas.List.{drop_all, drop_more}
use Rattle.std.proofs.lemmas.List.Sums.{sum_by-cons}
use Rattle.std.proofs.lemmas.Option.{slice_get_cases}
use Rattle.std.specs.List.{zip}
use Rattle.std.specs.Option.{option_map_or}
use Rattle.machine.specs.Migrate.{lost_value, lost_weight}
use Rattle.machine.specs.Words.{Cell, Value}

lost_weight_none : (cells : List Cell) → lost_weight cells [] ≡ 0
lost_weight_none [] = refl
lost_weight_none (cell ∷ cells) = refl

-- What a column loses, where it has a value.
abbrev pub lost_there : Cell → Option Value → ℕ
lost_there cell value = option_map_or (λ value. lost_value (cell, value)) value 0

-- The weight that is lost from a place on is that of the value there, and that from the next place on.
pub lost_weight_more : (cells : List Cell) (values : List Value) (at : ℕ) (cell : Cell) → at < length cells → cell ≡ get_or cells at cell →
    lost_weight (drop at cells) (drop at values) ≡ lost_there cell (slice_get values at) + lost_weight (drop (at + 1) cells) (drop (at + 1) values)
lost_weight_more cells values at cell within is =
    let e : drop at cells ≡ cell ∷ drop (at + 1) cells = drop_more cells at cell within ∙ ap (λ c. c ∷ drop (at + 1) cells) (sym is) in
    elim (slice_get_cases values at).1 [
      | inl has ↦
          let d : drop at values ≡ has.0 ∷ drop (at + 1) values = drop_more values at has.0 has.1 ∙ ap (λ v. v ∷ drop (at + 1) values) has.3 in
          rw e (rw d (rw has.2 (sum_by-cons lost_value (cell, has.0) (zip (drop (at + 1) cells) (drop (at + 1) values)))))
      | inr past ↦
          let d : drop at values ≡ [] = drop_all at values past.0 in
          let n : drop (at + 1) values ≡ [] = drop_all (at + 1) values (omega (arith, past.0)) in
          let none = lost_weight_none (drop at cells) in
          let more = lost_weight_none (drop (at + 1) cells) in
          rw d (rw n (rw past.1 (omega (arith, none, more))))
    ]

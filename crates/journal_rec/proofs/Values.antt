-- Values and rows, as they are written and read.
use Rattle.std.proofs.Common.{◌≡◌, ℕ, suc, ◌^◌, ◌<◌, ⊎_elim, true, false, cond, eqb, List, [], ◌∷◌, ◌++◌, length, Option, Some, None, refl, sym, ap, subst, ◌∙◌, append_assoc}
use Rattle.std.specs.Prelude.{IfSome}
use Rattle.std.specs.Int.{w16}
use Rattle.std.specs.List.{All}
use Rattle.std.proofs.lemmas.Bool.{eqb-true}
use Rattle.std.proofs.lemmas.Option.{same_Some, none-some, cond_some}
use Rattle.sql_base.specs.Text.{IsText}
use Rattle.sql_base.specs.declared.values.Value.{Value}
use Rattle.sql_base.specs.declared.values.Value.TheVariants.{Null, Int, Text, Bool as Truth}
use Rattle.journal_rec.specs.declared.records.RecordedRow.{RecordedRow}
use Rattle.journal_rec.specs.Body.{counted_bytes, int_bytes, value_bytes, values_bytes, rest_bytes, row_bytes, ValueFits, ValuesFit, RowFits, IsProperValue, IsProperRow}
use Rattle.journal_rec.specs.Reading.{◌>>=◌, bytes_at, int_at, counted_at, is_text, text_at, truth_at, int_value_at, value_at, stored_at, rest_at, row_at}
use Rattle.journal_rec.proofs.Forms.{IsBytes, bytes_behind, bind_some, chosen, Took, IsForm, wide16, bytes_form, int_form, counted_form}
use Rattle.journal_rec.proofs.Texts.{text_passes, passing_text}

abbrev ValueHas : Value → Type 0
ValueHas v = ValueFits v × IsProperValue v

-- behind the byte of its kind
behind_kind : {X : Type 0} (form : X → List ℕ) (Has : X → Type 0) (b kind : ℕ) (bs text : List ℕ) (x : X) (rest : List ℕ)
    → form x ≡ kind ∷ text → eqb b kind ≡ true → bs ≡ text ++ rest → Has x → Took form Has (b ∷ bs) x rest
behind_kind form Has b kind bs text x rest form_is kind_is parts has =
    record { parts = (λ i. eqb-true b kind kind_is i ∷ parts i) ∙ ap (λ (l : List ℕ). l ++ rest) (sym form_is); has = has }

text_takes : (b : ℕ) (bs : List ℕ) (v : Value) (rest : List ℕ) → IsBytes bs → eqb b 2 ≡ true → text_at bs ≡ Some (v, rest) → Took value_bytes ValueHas (b ∷ bs) v rest
unfolding text_at
text_takes b bs v rest all kind_is e =
    let a = bind_some (bytes_at w16 bs) (λ text. cond (is_text text.0) (Some (Text text.0, text.1)) None) (v, rest) e in
    let t = (bytes_form w16 (2 ^ 16) wide16).takes bs a.0.0 a.0.1 all a.1 in
    let g = cond_some (is_text a.0.0) (Text a.0.0, a.0.1) (v, rest) a.2 in
    subst (λ (p : Value × List ℕ). Took value_bytes ValueHas (b ∷ bs) p.0 p.1) g.1
    (behind_kind value_bytes ValueHas b 2 bs (counted_bytes w16 a.0.0) (Text a.0.0) a.0.1 refl kind_is t.parts (t.has, passing_text a.0.0 g.0))

truth_takes : (b : ℕ) (bs : List ℕ) (v : Value) (rest : List ℕ) → eqb b 3 ≡ true → truth_at bs ≡ Some (v, rest) → Took value_bytes ValueHas (b ∷ bs) v rest
unfolding truth_at
truth_takes b [] v rest kind_is e = absurd (none-some _ e)
truth_takes b (t ∷ bs) v rest kind_is e =
    ⊎_elim
    (λ no. subst (λ (p : Value × List ℕ). Took value_bytes ValueHas (b ∷ t ∷ bs) p.0 p.1) (same_Some (Truth false, bs) (v, rest) no.1)
    (behind_kind value_bytes ValueHas b 3 (t ∷ bs) (0 ∷ []) (Truth false) bs refl kind_is (ap (λ (k : ℕ). k ∷ bs) (eqb-true t 0 no.0)) (tt, tt)))
    (λ other. let g = cond_some (eqb t 1) (Truth true, bs) (v, rest) other.1 in
    subst (λ (p : Value × List ℕ). Took value_bytes ValueHas (b ∷ t ∷ bs) p.0 p.1) g.1
    (behind_kind value_bytes ValueHas b 3 (t ∷ bs) (1 ∷ []) (Truth true) bs refl kind_is (ap (λ (k : ℕ). k ∷ bs) (eqb-true t 1 g.0)) (tt, tt)))
    (chosen (eqb t 0) (Some (Truth false, bs)) (cond (eqb t 1) (Some (Truth true, bs)) None) (Some (v, rest)) e)

int_case : (b : ℕ) (bs : List ℕ) (v : Value) (rest : List ℕ) → IsBytes bs → eqb b 1 ≡ true → int_value_at bs ≡ Some (v, rest) → Took value_bytes ValueHas (b ∷ bs) v rest
int_case b bs v rest all kind_is e =
    let a = bind_some (int_at bs) (λ n. Some (Int n.0, n.1)) (v, rest) e in
    let t = int_form.takes bs a.0.0 a.0.1 all a.1 in
    subst (λ (p : Value × List ℕ). Took value_bytes ValueHas (b ∷ bs) p.0 p.1) (same_Some (Int a.0.0, a.0.1) (v, rest) a.2)
    (behind_kind value_bytes ValueHas b 1 bs (int_bytes a.0.0) (Int a.0.0) a.0.1 refl kind_is t.parts (tt, t.has))

value_takes : (bytes : List ℕ) (v : Value) (rest : List ℕ) → IsBytes bytes → value_at bytes ≡ Some (v, rest) → Took value_bytes ValueHas bytes v rest
unfolding value_at
value_takes [] v rest all e = absurd (none-some _ e)
value_takes (b ∷ bs) v rest all e =
    let tail : IsBytes bs = λ i. all (suc i) in
    let truth = cond (eqb b 3) (truth_at bs) None in
    let texts = cond (eqb b 2) (text_at bs) truth in
    let numbers = cond (eqb b 1) (int_value_at bs) texts in
    ⊎_elim
    (λ null. subst (λ (p : Value × List ℕ). Took value_bytes ValueHas (b ∷ bs) p.0 p.1) (same_Some (Null, bs) (v, rest) null.1)
    (behind_kind value_bytes ValueHas b 0 bs [] Null bs refl null.0 refl (tt, tt)))
    (λ more. ⊎_elim (λ number. int_case b bs v rest tail number.0 number.1)
    (λ others. ⊎_elim (λ text. text_takes b bs v rest tail text.0 text.1)
    (λ last. ⊎_elim (λ t. truth_takes b bs v rest t.0 t.1) (λ none. absurd (none-some _ none.1))
    (chosen (eqb b 3) (truth_at bs) None (Some (v, rest)) last.1))
    (chosen (eqb b 2) (text_at bs) truth (Some (v, rest)) others.1))
    (chosen (eqb b 1) (int_value_at bs) texts (Some (v, rest)) more.1))
    (chosen (eqb b 0) (Some (Null, bs)) numbers (Some (v, rest)) e)

text_again : (text rest : List ℕ) → length text < 2 ^ 16 → IsText text → text_at (counted_bytes w16 text ++ rest) ≡ Some (Text text, rest)
unfolding text_at
text_again text rest few is = rw ((bytes_form w16 (2 ^ 16) wide16).again text rest few, text_passes text is) refl

value_again : (v : Value) (rest : List ℕ) → ValueHas v → value_at (value_bytes v ++ rest) ≡ Some (v, rest)
unfolding value_at truth_at
value_again Null rest has = refl
value_again (Int n) rest has = rw (int_form.again n rest has.1) refl
value_again (Text text) rest has = text_again text rest has.0 has.1
value_again (Truth false) rest has = refl
value_again (Truth true) rest has = refl

value_form : IsForm value_bytes ValueHas value_at
value_form = record { takes = value_takes; again = value_again }

values_form : IsForm values_bytes (λ values. ValuesFit values × All IsProperValue values) (counted_at w16 value_at)
values_form = counted_form value_bytes ValueFits IsProperValue value_at value_form w16 (2 ^ 16) wide16

-- ---- rows

abbrev RestHas : Option (List Value) → Type 0
RestHas values = IfSome values ValuesFit × IfSome values (All IsProperValue)

rest_takes : (bytes : List ℕ) (values : Option (List Value)) (rest : List ℕ) → IsBytes bytes → rest_at bytes ≡ Some (values, rest) → Took rest_bytes RestHas bytes values rest
unfolding rest_at
rest_takes [] values rest all e = absurd (none-some _ e)
rest_takes (b ∷ bs) values rest all e =
    ⊎_elim
    (λ gone. subst (λ (p : Option (List Value) × List ℕ). Took rest_bytes RestHas (b ∷ bs) p.0 p.1) (same_Some (None, bs) (values, rest) gone.1)
    (behind_kind rest_bytes RestHas b 0 bs [] None bs refl gone.0 refl (tt, tt)))
    (λ more. ⊎_elim
    (λ there.
    let a = bind_some (counted_at w16 value_at bs) (λ row. Some (Some row.0, row.1)) (values, rest) there.1 in
    let t = values_form.takes bs a.0.0 a.0.1 (λ i. all (suc i)) a.1 in
    subst (λ (p : Option (List Value) × List ℕ). Took rest_bytes RestHas (b ∷ bs) p.0 p.1) (same_Some (Some a.0.0, a.0.1) (values, rest) a.2)
    (behind_kind rest_bytes RestHas b 1 bs (values_bytes a.0.0) (Some a.0.0) a.0.1 refl there.0 t.parts t.has))
    (λ none. absurd (none-some _ none.1))
    (chosen (eqb b 1) (stored_at bs) None (Some (values, rest)) more.1))
    (chosen (eqb b 0) (Some (None, bs)) (cond (eqb b 1) (stored_at bs) None) (Some (values, rest)) e)

rest_again : (values : Option (List Value)) (rest : List ℕ) → RestHas values → rest_at (rest_bytes values ++ rest) ≡ Some (values, rest)
unfolding rest_at
rest_again None rest has = refl
rest_again (Some values) rest has = rw (values_form.again values rest has) refl

row_takes : (bytes : List ℕ) (row : RecordedRow) (rest : List ℕ) → IsBytes bytes → row_at bytes ≡ Some (row, rest) → Took row_bytes (λ r. RowFits r × IsProperRow r) bytes row rest
unfolding row_at
row_takes bytes row rest all e =
    let a = bind_some (int_at bytes) (λ key. rest_at key.1 >>= λ values. Some (record { key = key.0; values = values.0 }, values.1)) (row, rest) e in
    let b = bind_some (rest_at a.0.1) (λ values. Some (record { key = a.0.0; values = values.0 }, values.1)) (row, rest) a.2 in
    let k = int_form.takes bytes a.0.0 a.0.1 all a.1 in
    let v = rest_takes a.0.1 b.0.0 b.0.1 (bytes_behind bytes (int_bytes a.0.0) a.0.1 k.parts all) b.1 in
    let made : RecordedRow × List ℕ = (record { key = a.0.0; values = b.0.0 }, b.0.1) in
    subst (λ (p : RecordedRow × List ℕ). Took row_bytes (λ r. RowFits r × IsProperRow r) bytes p.0 p.1) (same_Some made (row, rest) b.2)
    (record {
      parts = k.parts ∙ ap (λ (l : List ℕ). int_bytes a.0.0 ++ l) v.parts ∙ sym (append_assoc (int_bytes a.0.0) (rest_bytes b.0.0) b.0.1);
      has = (v.has.0, (k.has, v.has.1));
    })

row_again : (row : RecordedRow) (rest : List ℕ) → RowFits row × IsProperRow row → row_at (row_bytes row ++ rest) ≡ Some (row, rest)
unfolding row_at
row_again row rest has =
    ap row_at (append_assoc (int_bytes row.key) (rest_bytes row.values) rest)
    ∙ rw (int_form.again row.key (rest_bytes row.values ++ rest) has.1.0, rest_again row.values rest (has.0, has.1.1)) refl

pub row_form : IsForm row_bytes (λ row. RowFits row × IsProperRow row) row_at
row_form = record { takes = row_takes; again = row_again }

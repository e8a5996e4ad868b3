-- What is answered to placed tokens, by a machine that tells.
use Rattle.std.proofs.Common.{◌≡◌, ℕ, zero, ◌+◌, ◌<◌, ◌≤◌, List, [], ◌∷◌, ◌++◌, Bool, true, false, Option, Some, None, refl, sym, ap, ◌∙◌, subst, arith, take, drop, length, get_or, map, append_assoc, Result, Ok, Err, MatchResult, IfErr, take-append-drop, suc, ◌^◌, ◌≢◌}
use Rattle.std.specs.List.{AllByRecursion}
use Rattle.std.proofs.lemmas.List.{take_more, take_all, map-append}
use Rattle.sql_text.specs.declared.tokens.Placed.{Placed}
use Rattle.sql_text.specs.declared.tokens.Token.{Token}
use Rattle.sql_text.specs.declared.tokens.Token.TheVariants as t
use Rattle.sql_text.specs.Lexing.{lexed}
use Rattle.sql_parse.specs.declared.faults.ParseFault.{ParseFault}
use Rattle.sql_parse.specs.declared.faults.ParseFault.TheVariants as fault
use Rattle.sql_parse.specs.Viable.{CanBe}
use Rattle.sql_parse.specs.Reader.{Answers, fault_of}
use Rattle.sql_parse.specs.Reading.{kinds, IsWide, FirstFault, Refuses, Fails}
use Rattle.sql_parse.proofs.Runs.{runs, runs_last, Tells}

pub kinds_more : (ps : List Placed) (i : ℕ) (d : Placed) → i < length ps → kinds (take (i + 1) ps) ≡ kinds (take i ps) ++ (get_or ps i d).token ∷ []
kinds_more ps i d h = ap kinds (take_more ps i d h) ∙ map-append (λ p. p.token) (take i ps) (get_or ps i d ∷ [])

parted : (ps : List Placed) (i : ℕ) (d : Placed) → i < length ps → ps ≡ take i ps ++ get_or ps i d ∷ drop (i + 1) ps
parted ps i d h = sym (take-append-drop (i + 1) ps) ∙ ap (λ front. front ++ drop (i + 1) ps) (take_more ps i d h) ∙ append_assoc (take i ps) (get_or ps i d ∷ []) (drop (i + 1) ps)

pub place_fits : (ps : List Placed) (i : ℕ) (d : Placed) → AllByRecursion (λ at. at ≤ 65536) (map (λ p. p.at) ps) → i < length ps → (get_or ps i d).at ≤ 65536
place_fits [] i d small h = absurd (omega arith)
place_fits (p ∷ ps) zero d small h = small.0
place_fits (p ∷ ps) (suc i) d small h = place_fits ps i d small.1 (omega arith)

pub item_fits : (ps : List Placed) (i : ℕ) (x : Placed) → AllByRecursion (λ at. at ≤ 65536) (map (λ p. p.at) ps) → i < length ps → x ≡ get_or ps i x → x.at < 2 ^ 32
item_fits ps i x small h is = let fits : x.at ≤ 65536 = rw is (place_fits ps i x small h) in omega arith

pub small_places : (places : List ℕ) (most : ℕ) → most ≤ 65536 → AllByRecursion (λ at. at ≤ most) places → AllByRecursion (λ at. at ≤ 65536) places
small_places [] most h small = tt
small_places (at ∷ places) most h small = (omega (arith, small.0), small_places places most h small.1)

-- ---- the one answer

pub no_text : {X : Type 0} {IsWhole : List Token → X → Type 0} (ps : List Placed) (at : ℕ) (w : Bool) → FirstFault IsWhole ps at w → (a : X) → IsWhole (kinds ps) a → ⊥
no_text ps at w f a text =
    let x : Placed = record { at = at; token = f.token } in
    let parts : kinds ps ≡ (kinds f.front ++ f.token ∷ []) ++ kinds f.back = ap kinds f.parts ∙ map-append (λ p. p.token) f.front (x ∷ f.back) ∙ sym (append_assoc (kinds f.front) (f.token ∷ []) (kinds f.back)) in
    f.with_it (record { more = kinds f.back; tree = a; text = rw parts at text })

module _ {X : Type 0} {IsWhole : List Token → X → Type 0} (one_tree : (ts : List Token) (a b : X) → IsWhole ts a → IsWhole ts b → a ≡ b) (deepness : X → ℕ) where
  pub only : (ps : List Placed) (result : Result X ParseFault) → Answers IsWhole deepness ps result →
      (a : X) → IsWhole (kinds ps) a → deepness a ≤ 64 → MatchResult result (λ b. b ≡ a) (λ f. f ≡ fault.NoMemory)
  only ps (Ok b) given a reads small = one_tree (kinds ps) b a given.0.0 reads
  only ps (Err (fault.Syntax at)) given a reads small = absurd (no_text ps at false given.1 a reads)
  only ps (Err (fault.Wide at)) given a reads small = absurd (no_text ps at true given.1 a reads)
  only ps (Err fault.Deep) given a reads small =
      let same = one_tree (kinds ps) a given.1.0 reads given.1.1 in let deep : 64 < deepness a = rw same given.1.2 in absurd (omega arith)
  only ps (Err fault.NoMemory) given a reads small = refl

-- a fault that was answered is the first of the text
pub fails : {X : Type 0} (IsWhole : List Token → X → Type 0) (deepness : X → ℕ) (text : List ℕ) (result : Result X ParseFault) → Answers IsWhole deepness (lexed 0 0 text) result →
    IfErr result (λ f. f ≢ fault.NoMemory → Fails IsWhole deepness text f)
fails IsWhole deepness text (Ok a) given = tt
fails IsWhole deepness text (Err f) given = λ n. (n, given.1)

-- ---- the loop over the tokens

module _ {S X : Type 0} {IsWhole : List Token → X → Type 0} {step : S → Token → Option S} {start : S} {takes : S → Bool} (tells : Tells IsWhole step start takes) (deepness : X → ℕ) where
  small_fits : (ts : List Token) (r : S) → runs step (Some start) ts ≡ Some r → takes r ≡ true → CanBe IsWhole (ts ++ t.Int 0 ∷ [])
  small_fits ts r e h = let next = tells.number r h in tells.can (ts ++ t.Int 0 ∷ []) next.0 (runs_last step (Some start) ts (t.Int 0) r e ∙ next.1)

  none_fits : (ts : List Token) (r : S) → runs step (Some start) ts ≡ Some r → takes r ≡ false → CanBe IsWhole (ts ++ t.Int 0 ∷ []) → ⊥
  none_fits ts r e h w = tells.cannot (ts ++ t.Int 0 ∷ []) (runs_last step (Some start) ts (t.Int 0) r e ∙ tells.no_number r h) w

  -- a token that can't be gone through
  pub told : (ps front back : List Placed) (at : ℕ) (x : Token) (r : S) → ps ≡ front ++ record { at = at; token = x } ∷ back → runs step (Some start) (kinds front) ≡ Some r →
      step r x ≡ None → (b : Bool) → takes r ≡ b → Refuses IsWhole deepness ps (fault_of b x at)
  told ps front back at x r parts e n b is = by_token x parts n b is
    where
      told_of : (x : Token) → ps ≡ front ++ record { at = at; token = x } ∷ back → step r x ≡ None → (w : Bool) → (w ≡ true → IsWide IsWhole (kinds front) x) → (w ≡ false → IsWide IsWhole (kinds front) x → ⊥) → FirstFault IsWhole ps at w
      told_of x parts n w wide not_wide = record {
        front = front;
        token = x;
        back = back;
        parts = parts;
        before = tells.can (kinds front) r e;
        with_it = tells.cannot (kinds front ++ x ∷ []) (runs_last step (Some start) (kinds front) x r e ∙ n);
        is_wide = wide;
        not_wide = not_wide;
      }

      no_int : (x : Token) → ((m : ℕ) → x ≡ t.Int m → ⊥) → ps ≡ front ++ record { at = at; token = x } ∷ back → step r x ≡ None → FirstFault IsWhole ps at false
      no_int x other parts n = told_of x parts n false (λ c. absurd cc) (λ c w. other w.0 w.1)

      by_token : (x : Token) → ps ≡ front ++ record { at = at; token = x } ∷ back → step r x ≡ None → (b : Bool) → takes r ≡ b → Refuses IsWhole deepness ps (fault_of b x at)
      by_token (t.Int m) parts n true is = told_of (t.Int m) parts n true (λ c. (m, refl, small_fits (kinds front) r e is)) (λ c. absurd cc)
      by_token (t.Int m) parts n false is = told_of (t.Int m) parts n false (λ c. absurd cc) (λ c w. none_fits (kinds front) r e is w.2)
      by_token (t.Name name) parts n true is = no_int (t.Name name) (λ m c. absurd cc) parts n
      by_token (t.Name name) parts n false is = no_int (t.Name name) (λ m c. absurd cc) parts n
      by_token (t.Quoted name) parts n true is = no_int (t.Quoted name) (λ m c. absurd cc) parts n
      by_token (t.Quoted name) parts n false is = no_int (t.Quoted name) (λ m c. absurd cc) parts n
      by_token (t.Text text) parts n true is = no_int (t.Text text) (λ m c. absurd cc) parts n
      by_token (t.Text text) parts n false is = no_int (t.Text text) (λ m c. absurd cc) parts n
      by_token (t.Key key) parts n true is = no_int (t.Key key) (λ m c. absurd cc) parts n
      by_token (t.Key key) parts n false is = no_int (t.Key key) (λ m c. absurd cc) parts n
      by_token (t.Sign sign) parts n true is = no_int (t.Sign sign) (λ m c. absurd cc) parts n
      by_token (t.Sign sign) parts n false is = no_int (t.Sign sign) (λ m c. absurd cc) parts n
      by_token (t.Minus tight) parts n true is = no_int (t.Minus tight) (λ m c. absurd cc) parts n
      by_token (t.Minus tight) parts n false is = no_int (t.Minus tight) (λ m c. absurd cc) parts n
      by_token t.Bad parts n true is = no_int t.Bad (λ m c. absurd cc) parts n
      by_token t.Bad parts n false is = no_int t.Bad (λ m c. absurd cc) parts n
      by_token t.End parts n true is = no_int t.End (λ m c. absurd cc) parts n
      by_token t.End parts n false is = no_int t.End (λ m c. absurd cc) parts n

  refused : (ps : List Placed) (i : ℕ) (d : Placed) (r : S) → i < length ps → runs step (Some start) (kinds (take i ps)) ≡ Some r → step r (get_or ps i d).token ≡ None →
      Refuses IsWhole deepness ps (fault_of (takes r) (get_or ps i d).token (get_or ps i d).at)
  refused ps i d r h e n = told ps (take i ps) (drop (i + 1) ps) (get_or ps i d).at (get_or ps i d).token r (parted ps i d h) e n (takes r) refl

  refused_item : (ps : List Placed) (i : ℕ) (x : Placed) (r : S) → i < length ps → runs step (Some start) (kinds (take i ps)) ≡ Some r → x ≡ get_or ps i x →
      step r x.token ≡ None → Refuses IsWhole deepness ps (fault_of (takes r) x.token x.at)
  refused_item ps i x r h e is n =
      let none : step r (get_or ps i x).token ≡ None = ap (λ p. step r p.token) (sym is) ∙ n in
      let P : Placed → Type 0 = λ p. Refuses IsWhole deepness ps (fault_of (takes r) p.token p.at) in subst P (sym is) (refused ps i x r h e none)

  pub item_refused : (ps : List Placed) (i : ℕ) (x : Placed) (r : S) (result : Result X ParseFault) (f : ParseFault) → result ≡ Err f → i < length ps → runs step (Some start) (kinds (take i ps)) ≡ Some r → x ≡ get_or ps i x →
      (f ≢ fault.NoMemory → (step r x.token ≡ None) × (f ≡ fault_of (takes r) x.token x.at)) → Answers IsWhole deepness ps result
  item_refused ps i x r result f is_f h e is cause = rw is_f (tt, by_fault f cause)
    where
      of_cause : (f : ParseFault) → (step r x.token ≡ None) × (f ≡ fault_of (takes r) x.token x.at) → Refuses IsWhole deepness ps f
      of_cause f c = let P : ParseFault → Type 0 = λ g. Refuses IsWhole deepness ps g in subst P (sym c.1) (refused_item ps i x r h e is c.0)

      by_fault : (f : ParseFault) → (f ≢ fault.NoMemory → (step r x.token ≡ None) × (f ≡ fault_of (takes r) x.token x.at)) → Refuses IsWhole deepness ps f
      by_fault (fault.Syntax at) cause = of_cause (fault.Syntax at) (cause (λ c. absurd cc))
      by_fault (fault.Wide at) cause = of_cause (fault.Wide at) (cause (λ c. absurd cc))
      by_fault fault.Deep cause = of_cause fault.Deep (cause (λ c. absurd cc))
      by_fault fault.NoMemory cause = tt

pub item_more : {S : Type 0} (step : S → Token → Option S) (start : Option S) (ps : List Placed) (i : ℕ) (x : Placed) (r next : S) → i < length ps → runs step start (kinds (take i ps)) ≡ Some r → x ≡ get_or ps i x →
    step r x.token ≡ Some next → runs step start (kinds (take (i + 1) ps)) ≡ Some next
item_more step start ps i x r next h e is goes =
    ap (runs step start) (kinds_more ps i x h) ∙ runs_last step start (kinds (take i ps)) (get_or ps i x).token r e ∙ ap (λ p. step r p.token) (sym is) ∙ goes

-- ---- the end

pub all_read : {S : Type 0} (step : S → Token → Option S) (start : Option S) (ps : List Placed) (i : ℕ) (r : Option S) → length ps ≤ i → runs step start (kinds (take i ps)) ≡ r → runs step start (kinds ps) ≡ r
all_read step start ps i r h e = rw (take_all i ps h) at e

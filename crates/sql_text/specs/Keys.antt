-- The key words, which are reserved.
use Rattle.std.specs.Prelude.{ℕ, Bool, List, [], ◌∷◌, codes, Option, is_some}
use Rattle.std.specs.List.{find}
use Rattle.std.specs.Str.{str_eq_ignore_ascii_case}
use Rattle.sql_text.specs.declared.keys.Key.{Key}
use Rattle.sql_text.specs.declared.keys.Key.TheVariants as k

abbrev pub spelling : Key → List ℕ
spelling k.And = codes "AND"
spelling k.As = codes "AS"
spelling k.Case = codes "CASE"
spelling k.Cast = codes "CAST"
spelling k.Delete = codes "DELETE"
spelling k.Else = codes "ELSE"
spelling k.End = codes "END"
spelling k.False = codes "FALSE"
spelling k.From = codes "FROM"
spelling k.Insert = codes "INSERT"
spelling k.Into = codes "INTO"
spelling k.Is = codes "IS"
spelling k.Not = codes "NOT"
spelling k.Null = codes "NULL"
spelling k.Or = codes "OR"
spelling k.Select = codes "SELECT"
spelling k.Set = codes "SET"
spelling k.Then = codes "THEN"
spelling k.To = codes "TO"
spelling k.True = codes "TRUE"
spelling k.Update = codes "UPDATE"
spelling k.Values = codes "VALUES"
spelling k.When = codes "WHEN"
spelling k.Where = codes "WHERE"

abbrev pub keys : List Key
keys =
    k.And ∷ k.As ∷ k.Case ∷ k.Cast ∷ k.Delete ∷ k.Else ∷ k.End ∷ k.False ∷ k.From ∷ k.Insert ∷ k.Into ∷ k.Is
    ∷ k.Not ∷ k.Null ∷ k.Or ∷ k.Select ∷ k.Set ∷ k.Then ∷ k.To ∷ k.True ∷ k.Update ∷ k.Values ∷ k.When ∷ k.Where ∷ []

-- the key word that a word is, without regard to the case of ASCII letters
unfoldable pub key_of : List ℕ → Option Key
key_of word = find (λ key. str_eq_ignore_ascii_case word (spelling key)) keys

abbrev pub is_reserved : List ℕ → Bool
is_reserved word = is_some (key_of word)

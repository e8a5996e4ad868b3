use Rattle.std.proofs.Common.{◌≡◌, true, take, map}
use Rattle.std.specs.List.{list_all}
use Rattle.std.specs.Str.{is_utf8}
use Rattle.words.proofs.texts.texts_of.Given as goal

abbrev pub invariant-loop-word : goal.invariant-loop-word
invariant-loop-word l = record {
  same : map (λ text. text.now) l.texts.items ≡ map (λ word. word.now) (take l.word-index l.words);
  utf8 : list_all (λ word. is_utf8 word.now) (take l.word-index l.words) ≡ true;
}

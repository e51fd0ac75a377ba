-- The texts are those of the words before, which are UTF-8.
use Rattle.std.proofs.Common.{◌≡◌, map, take, drop}
use Rattle.std.specs.List.{list_all}
use Rattle.std.specs.Str.{is_utf8}
use Rattle.srv_words.proofs.read.texts_of.Given as goal

abbrev pub invariant-loop-word : goal.invariant-loop-word
invariant-loop-word l = record {
  texts : map (λ text. text.now) l.texts.items ≡ take l.word-index l.words;
  utf8 : list_all is_utf8 l.words ≡ list_all is_utf8 (drop l.word-index l.words);
}

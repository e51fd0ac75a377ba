-- The next word is UTF-8, or the words aren't.
use Rattle.std.proofs.Common.{◌∙◌, List, ℕ, Bor, map, ap, sym, subst}
use Rattle.std.specs.Str.{IsUtf8}
use Rattle.srv_words.proofs.TextLemmas.{texts_more, utf8_more, utf8_none}
use Rattle.srv_words.proofs.read.texts_of.Goals as goal

pub returns-in_default-clause-other : goal.returns-in_default-clause-other
returns-in_default-clause-other c =
    c.loop-word.invariant.utf8
    ∙ utf8_none c.args.words.now c.loop-word.word-index c.word-item.result c.loop-word-test.true c.word-item.is
    (λ is. c.in_default.ensures.cases.0 (subst IsUtf8 (sym c.as_slice.ensures) is))

pub loop-word-preserved : goal.loop-word-preserved
loop-word-preserved c =
    let words = c.args.words.now in
    let i = c.loop-word.word-index in
    let word = c.word-item.result in
    record {
      texts = ap (map (λ (t : Bor (List ℕ)). t.now)) c.in_ok-push.ensures.items
          ∙ texts_more c.loop-word.texts.items c.in-Ok.text words i word c.loop-word-test.true c.word-item.is
          (c.in-Ok.ensures.cases.0 ∙ c.as_slice.ensures) c.loop-word.invariant.texts;
      utf8 = c.loop-word.invariant.utf8
          ∙ utf8_more words i word c.loop-word-test.true c.word-item.is
          (subst IsUtf8 c.as_slice.ensures c.in-Ok.ensures.cases.1);
    }

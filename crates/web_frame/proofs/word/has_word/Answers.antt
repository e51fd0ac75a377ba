-- `any` over the parts of a value tests each of them.
use Rattle.std.proofs.Common.{rules, eqb}
use Rattle.std.proofs.lemmas.Iterator.Search.{any_from_yields_List}
use Rattle.std.proofs.lemmas.Iterator.Splits.{YieldsList-from_slice_split}
use Rattle.httparse.specs.Grammar.{trim_ows}
use Rattle.web_frame.specs.Said.{same_word, has_word}
use Rattle.web_frame.proofs.word.has_word.Goals as goal

pub returns : goal.returns
unfolding has_word
returns c = any_from_yields_List (λ part. same_word (trim_ows part) c.args.word.now) _ _ _ c.any.ensures.ran
    (YieldsList-from_slice_split _
    (λ b. eqb b 44) c.args.value.now c.split.ensures.rest c.split.ensures.done c.split.ensures.closure
    (search rules)) (search rules)

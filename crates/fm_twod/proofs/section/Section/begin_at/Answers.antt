-- Where there is no element nothing is written.
use Rattle.std.proofs.Common.{sym, ◌∙◌}
use Rattle.std.proofs.lemmas.Bool.{true≢false}
use Rattle.fm_twod.proofs.section.Section.begin_at.Goals as goal

pub put_index-requires-clause-element : goal.put_index-requires-clause-element
put_index-requires-clause-element c = c.has_element.ensures.within c.if-not-has_element.false

pub returns-then-not-has_element-clause-index : goal.returns-then-not-has_element-clause-index
returns-then-not-has_element-clause-index c = λ below.
    absurd (true≢false (sym (c.has_element.ensures.all below) ∙ c.if-not-has_element.true))

pub returns-clause-index : goal.returns-clause-index
returns-clause-index c = λ below. c.put_index.ensures

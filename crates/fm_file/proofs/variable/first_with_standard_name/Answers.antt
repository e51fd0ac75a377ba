-- The variable at which the search stops is the first that passes.
use Rattle.std.proofs.Common.{sym, ◌∙◌}
use Rattle.fm_model.specs.Variable.{has_standard_name}
use Rattle.fm_file.proofs.FindLemmas.{find-at}
use Rattle.fm_file.proofs.variable.first_with_standard_name.Goals as goal

pub returns-then-has_standard_name : goal.returns-then-has_standard_name
returns-then-has_standard_name c =
    let passes = sym c.has_standard_name.ensures ∙ c.if-has_standard_name.true in (
      c.loop-number-test.true,
      find-at (has_standard_name c.args.text.now) c.args.vars.now c.index-vars-number.result c.loop-number.number
          c.loop-number.invariant c.loop-number-test.true c.index-vars-number.is passes,
    )

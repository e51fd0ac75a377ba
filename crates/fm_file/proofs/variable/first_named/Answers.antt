-- The variable at which the search stops is the first of the name.
use Rattle.std.proofs.Common.{sym, ◌∙◌}
use Rattle.fm_file.specs.Named.{has_name}
use Rattle.fm_file.proofs.FindLemmas.{find-at}
use Rattle.fm_file.proofs.variable.first_named.Goals as goal

pub returns-then-has_name : goal.returns-then-has_name
returns-then-has_name c =
    let passes = sym c.has_name.ensures ∙ c.if-has_name.true in (
      c.loop-number-test.true,
      find-at (has_name c.args.name.now) c.args.vars.now c.index-vars-number.result c.loop-number.number
          c.loop-number.invariant c.loop-number-test.true c.index-vars-number.is passes,
    )

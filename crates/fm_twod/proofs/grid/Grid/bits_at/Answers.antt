-- A number of a part is one of its variable, or a run or an offset.
use Rattle.fm_twod.proofs.GridLemmas.{added-width, number-asked, var-width}
use Rattle.fm_twod.proofs.grid.Grid.bits_at.Goals as goal

pub var_bits-requires-clause-has : goal.var_bits-requires-clause-has
var_bits-requires-clause-has c =
    (number-asked c.args.self.now c.args.decl c.args.part c.args.index.now c.in-Some.var.now c.requires
    c.in-Some.ensures).0

pub var_bits-requires-clause-number : goal.var_bits-requires-clause-number
var_bits-requires-clause-number c =
    (number-asked c.args.self.now c.args.decl c.args.part c.args.index.now c.in-Some.var.now c.requires
    c.in-Some.ensures).1

pub returns-in-None-clause-width : goal.returns-in-None-clause-width
returns-in-None-clause-width c = λ array e.
    added-width c.args.self.now c.args.decl c.args.part c.added_bits.result array c.in-None.ensures
    c.added_bits.ensures.width e

pub returns-in-Some-clause-width : goal.returns-in-Some-clause-width
returns-in-Some-clause-width c = λ array e.
    var-width c.args.self.now c.args.decl c.args.part c.var_bits.result array c.in-Some.var.now c.in-Some.ensures
    c.var_bits.ensures.width e

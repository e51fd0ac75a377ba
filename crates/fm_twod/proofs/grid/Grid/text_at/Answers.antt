-- A text of a part is one of its variable.
use Rattle.fm_twod.proofs.GridLemmas.{text-asked}
use Rattle.fm_twod.proofs.grid.Grid.text_at.Goals as goal

pub var_text-requires-clause-has : goal.var_text-requires-clause-has
var_text-requires-clause-has c =
    (text-asked c.args.self.now c.args.decl c.args.part c.args.index.now c.in-Some.var.now c.requires
    c.in-Some.ensures).0

pub var_text-requires-clause-text : goal.var_text-requires-clause-text
var_text-requires-clause-text c =
    (text-asked c.args.self.now c.args.decl c.args.part c.args.index.now c.in-Some.var.now c.requires
    c.in-Some.ensures).1

-- What goes is part of what is held.
use Rattle.std.proofs.Common.{ap}
use Rattle.fm_model.specs.Collection.{tally}
use Rattle.fm_list.specs.Change.{gone}
use Rattle.fm_edition.specs.Amounts.{less}
use Rattle.fm_edition.proofs.TallyLemmas.{part_within}
use Rattle.fm_edition.proofs.counting.left_of.Goals as goal

pub tally_gone-gone-requires : goal.tally_gone-gone-requires
tally_gone-gone-requires c = part_within c.args.held (tally (gone c.args.files.now c.args.op.now)) c.requires.part
    c.requires.held

pub overflow_sub-result : goal.overflow_sub-result
overflow_sub-result c = rw c.tally_gone-gone.ensures c.requires.part.files

pub overflow_sub-result-2 : goal.overflow_sub-result-2
overflow_sub-result-2 c = rw c.tally_gone-gone.ensures c.requires.part.rows

pub overflow_sub-result-3 : goal.overflow_sub-result-3
overflow_sub-result-3 c = rw c.tally_gone-gone.ensures c.requires.part.size

pub returns : goal.returns
returns c = ap (less c.args.held) c.tally_gone-gone.ensures

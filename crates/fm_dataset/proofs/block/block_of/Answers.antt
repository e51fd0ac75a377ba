use Rattle.std.proofs.Common.{refl}
use Rattle.fm_dataset.proofs.BlockLemmas.{block_along, block_fixed}
use Rattle.fm_dataset.proofs.block.block_of.Goals as goal

pub returns-then-var : goal.returns-then-var
returns-then-var c =
    let there = rw c.first_of.ensures at c.row_at.ensures in
    block_along c.if-var.true there c.block_in_file.ensures

pub returns-else-var : goal.returns-else-var
returns-else-var c = block_fixed c.requires c.if-var.false c.as_slice.ensures refl

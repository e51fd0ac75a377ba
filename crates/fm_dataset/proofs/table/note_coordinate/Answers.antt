-- The variable is noted where it is the first one of its dimension.
use Rattle.std.proofs.Common.{arith}
use Rattle.fm_dataset.proofs.FirstLemmas.{first-held, first-none, first-noted}
use Rattle.fm_dataset.proofs.table.note_coordinate.Goals as goal
use Rattle.fm_dataset.proofs.table.note_coordinate.Goals.{else-id-numbers-via-then-id-numbers+else-numbers-id, else-id-numbers-via-else-id-numbers}

pub returns-then-numbers-id : goal.returns-then-numbers-id
returns-then-numbers-id c = first-noted c.args.proto.now c.args.number c.args.var.now c.args.numbers.now
    c.dim_of_coordinate-id.result c.requires.number c.requires.before c.dim_of_coordinate-id.ensures
    (omega (arith, c.if-id-numbers.true)) (omega (arith, c.if-numbers-id.true, c.len.ensures))

pub returns-else-id-numbers : goal.returns-else-id-numbers
returns-else-id-numbers c = elim c.else-id-numbers.branch [
  | else-id-numbers-via-then-id-numbers+else-numbers-id w ↦
      first-held c.args.proto.now c.args.number c.args.var.now c.args.numbers.now c.dim_of_coordinate-id.result
      c.requires.number c.requires.before c.dim_of_coordinate-id.ensures
      (omega (arith, w.if-numbers-id.false, w.len.ensures))
  | else-id-numbers-via-else-id-numbers w ↦
      first-none c.args.proto.now c.args.number c.args.var.now c.args.numbers.now c.dim_of_coordinate-id.result
      c.requires.number c.requires.before c.dim_of_coordinate-id.ensures (omega (arith, w.if-id-numbers.false))
]

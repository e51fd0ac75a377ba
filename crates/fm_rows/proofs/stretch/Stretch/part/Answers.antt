-- Rows from one index up to another.
use Rattle.fm_rows.proofs.stretch.Stretch.part.Goals as goal

pub invariant_of-result : goal.invariant_of-result
invariant_of-result c = record { order = c.requires.order; within = c.requires.within }

-- The numbers are those of the first coordinate variables among the variables so far.
use Rattle.fm_dataset.specs.Kept.{AreFirstOf}
use Rattle.fm_dataset.proofs.table.coordinate_numbers.Given as goal

abbrev pub invariant-loop-number : goal.invariant-loop-number
invariant-loop-number l = AreFirstOf l.proto l.number l.numbers-inside.items.items

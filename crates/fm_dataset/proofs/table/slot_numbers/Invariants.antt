use Rattle.std.proofs.Common.{◌≡◌, ℕ, ◌<◌, ◌≤◌, length, get_or}
use Rattle.fm_dataset.specs.Kept.{slot_number}
use Rattle.fm_dataset.proofs.table.slot_numbers.Given as goal

abbrev pub invariant-loop-var : goal.invariant-loop-var
invariant-loop-var l = (length l.numbers ≡ l.var-index) × (l.next ≡ slot_number l.proto l.var-index)
    × (l.next ≤ l.var-index)
    × ((k : ℕ) → k < l.var-index → get_or l.numbers k 0 ≡ slot_number l.proto k)

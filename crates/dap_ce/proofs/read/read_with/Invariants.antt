-- What is left of the text gives from here what all of it gives.
use Rattle.std.proofs.Common.{◌≡◌, drop, take}
use Rattle.dap_model.specs.ConstraintReading.{before_name, fresh, read_from}
use Rattle.dap_ce.specs.Phases.{state_of, Fits}
use Rattle.dap_ce.proofs.read.read_with.Given as goal

abbrev pub invariant-loop-at : goal.invariant-loop-at
invariant-loop-at l =
    (read_from (state_of l.reader (take l.at l.text)) l.at (drop l.at l.text)
    ≡ read_from (before_name fresh) 0 l.text)
    × Fits l.at l.reader.phase

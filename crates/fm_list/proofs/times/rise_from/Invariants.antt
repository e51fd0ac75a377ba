-- The times so far rise, so those that are left decide.
use Rattle.std.proofs.Common.{◌≡◌, drop}
use Rattle.fm_list.specs.Times.{rise_from}
use Rattle.fm_list.proofs.times.rise_from.Given as goal

abbrev pub invariant-loop-time : goal.invariant-loop-time
invariant-loop-time l = rise_from l.before (drop l.time-index l.times) ≡ rise_from l.last l.times

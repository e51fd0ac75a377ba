-- The valid times up to the end are a stretch.
use Rattle.std.proofs.Common.{◌-◌, length}
use Rattle.fm_edition.specs.Stretches.{IsEnd}
use Rattle.fm_edition.proofs.maps.stretches.end_from.Given as goal

abbrev pub invariant-loop-end : goal.invariant-loop-end
invariant-loop-end l = IsEnd l.times l.from l.end

abbrev pub decreases-loop-end : goal.decreases-loop-end
decreases-loop-end l = length l.times - l.end

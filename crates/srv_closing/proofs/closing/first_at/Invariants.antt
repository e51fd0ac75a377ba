-- The run didn't end at the first devices.
use Rattle.std.proofs.Common.{◌≡◌, drop}
use Rattle.srv_closing.specs.Closing.{first_from}
use Rattle.srv_closing.proofs.closing.first_at.Given as goal

abbrev pub invariant-loop-number : goal.invariant-loop-number
invariant-loop-number g l =
    first_from g.R.Reported.ends 0 l.reports ≡ first_from g.R.Reported.ends l.number (drop l.number l.reports)

-- A report whose line was written whole or in part.
use Rattle.std.proofs.Common.{◌≡◌, ℕ, List, Result, Ok, Err, inl, inr}
use Rattle.dev_traits.specs.Cause.{HasCause}
use Rattle.dev_traits.specs.Shown.{SinkShown}
use Rattle.srv_alone.specs.declared.end.End.{End}
use Rattle.srv_alone.specs.declared.end.End.TheVariants.{Done, SinkFault}
use Rattle.srv_alone.specs.Report.{Appends, HasNoLine, line_of, PutsLine, Reports}

-- a line that was put is written whole, or cut where the sink failed
PutsLine-put : {X E : Type 0} (line : List ℕ) (sink sink' : SinkShown) (result : Result X E)
    → Appends line sink.held sink'.held result → HasCause sink.faults sink'.faults result → PutsLine line sink sink'
PutsLine-put line sink sink' (Ok x) put cause = inl (record { put = put; faults = cause })
PutsLine-put line sink sink' (Err e) put cause =
    inr (record { count = put.0; within = put.1; put = put.2; faults = cause })

-- an end whose line was put is reported
pub Reports-put : {X E : Type 0} (end : End) (path : List ℕ) (sink sink' : SinkShown) (result : Result X E)
    → Appends (line_of end path) sink.held sink'.held result → HasCause sink.faults sink'.faults result
    → (HasNoLine end → sink' ≡ sink) → Reports end path sink sink'
Reports-put Done path sink sink' result put cause none = none tt
Reports-put SinkFault path sink sink' result put cause none = none tt
Reports-put end path sink sink' result put cause none =
    PutsLine-put (line_of end path) sink sink' result put cause

pub ruleset reports = (Reports-put)

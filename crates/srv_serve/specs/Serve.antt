-- A run of `serve`: it reads a prototype, opens doors, inboxes and a clock, has workers run over all of them at once,
-- and reports on them.
use Rattle.std.specs.Prelude.{◌≡◌, ◌⊎◌, ℕ, List, [], ◌∷◌}
use Rattle.fm_model.specs.declared.proto.Proto.{Proto}
use Rattle.dev_traits.specs.Opener.{OpenerShown}
use Rattle.srv_words.specs.declared.job.Serving.{Serving}
use Rattle.dev_traits.specs.declared.world.Devices.{Devices}
use Rattle.srv_workers.specs.declared.outcome.Outcome.{Outcome}
use Rattle.srv_workers.specs.Runs.{RanTogether}
use Rattle.srv_alone.specs.declared.end.End.{End}
use Rattle.srv_closing.specs.Closing.{EndsServing, first_end}
use Rattle.srv_open.specs.Devices.{AreAllOpened, asked_by, kept_for, OpensDevices, StopsAt, Wanted}
use Rattle.srv_alone.specs.Once.{EndsOpening, Opens}
use Rattle.srv_alone.specs.Report.{Reports}
use Rattle.srv_open.specs.Shows.{Shows}
use Rattle.srv_closing.specs.Stage.{LeavesDevices, LeavesDialer, Stage}
use Rattle.srv_serve.specs.Telling.{serving_line, TellsLines}

-- The run ended at the file of its prototype, so with status 3, 4, 5 or 10: nothing was opened.
pub record EndsUnopened {D I C : Type 0} (serving : Serving) (stage stage' : Stage D I C) (end : End) : Type 0 where
  pub ends : EndsOpening serving.site serving.proto stage.outside.files stage'.outside.files end
  pub leaves : LeavesDevices stage stage'
  pub reports : Reports end serving.proto stage.outside.sink stage'.outside.sink

-- the line that is told once all is open that the options of `serve` ask for
abbrev pub serving_lines : Serving → List (List ℕ)
serving_lines serving = serving_line serving.site.name (asked_by serving) ∷ []

-- All devices were opened, and the opener was told so by these lines.
pub record HasOpened {D I C L : Type 0} (show : Shows D I C L) (lines : List (List ℕ)) (wanted : Wanted)
    (opener opener' : OpenerShown D I C) (devices : Devices D I C) : Type 0 where
  pub opened : OpenerShown D I C
  pub told : TellsLines lines opened opener'
  pub opens : OpensDevices show wanted opener.held opened.held devices
  pub all : AreAllOpened wanted devices opener.faults opener'.faults

-- Devices were opened, but not all, or memory ran out before a worker ran, maybe after the opener was told that all
-- were opened: they are as they were opened.
pub record HasStopped {D I C L : Type 0} (show : Shows D I C L) (lines : List (List ℕ)) (wanted : Wanted)
    (opener opener' : OpenerShown D I C) (left : Devices D I C) (end : End) : Type 0 where
  pub opened : OpenerShown D I C
  pub told : (opener' ≡ opened) ⊎ TellsLines lines opened opener'
  pub opens : OpensDevices show wanted opener.held opened.held left
  pub stops : StopsAt wanted left opener.faults opener'.faults end

-- All devices were opened, the opener was told so, and workers ran over them and left them so.
pub record HasRun {D I C L : Type 0} (show : Shows D I C L) (serving : Serving) (proto : Proto)
    (opener opener' : OpenerShown D I C) (left : Devices D I C) (outcome : Outcome) : Type 0 where
  pub devices : Devices D I C
  pub opening : HasOpened show (serving_lines serving) (asked_by serving) opener opener' devices
  pub ran : RanTogether show.door show.link show.inbox show.clock proto (kept_for serving.keep) devices left outcome

-- Devices were opened, but no worker ran: so the status is 4, 6 or 8.
pub record EndsUnserved {D I C L : Type 0} (show : Shows D I C L) (lines : List (List ℕ)) (wanted : Wanted)
    (stage stage' : Stage D I C) (end : End) : Type 0 where
  pub stopped : HasStopped show lines wanted stage.opener stage'.opener stage'.devices end
  pub reports : Reports end [] stage.outside.sink stage'.outside.sink

-- Workers ran over all devices, and a line was written: the status is 0, 4, 6, 7 or 8.
pub record HasServed {D I C L : Type 0} (show : Shows D I C L) (serving : Serving) (proto : Proto)
    (stage stage' : Stage D I C) (end : End) : Type 0 where
  pub outcome : Outcome
  pub run : HasRun show serving proto stage.opener stage'.opener stage'.devices outcome
  pub ends : EndsServing outcome (first_end outcome) end stage.outside.sink stage'.outside.sink

-- A run that has its prototype went on so.
abbrev pub ServesDevices : {D I C L : Type 0} → Shows D I C L → Serving → Proto → Stage D I C → Stage D I C → End
    → Type 0
ServesDevices show serving proto stage stage' end =
    EndsUnserved show (serving_lines serving) (asked_by serving) stage stage' end
    ⊎ HasServed show serving proto stage stage' end

-- The prototype was read, and the run went on with it.
pub record GoesOn {D I C L : Type 0} (show : Shows D I C L) (serving : Serving) (stage stage' : Stage D I C) (end : End)
    : Type 0 where
  pub proto : Proto
  pub reads : Opens serving.site serving.proto stage.outside.files proto
  pub files : stage'.outside.files ≡ stage.outside.files
  pub serves : ServesDevices show serving proto stage stage' end

-- A run of `serve` ended so; neither the link of the outside nor the dialer was used.
pub record RunsServe {D I C L : Type 0} (show : Shows D I C L) (serving : Serving) (end : End)
    (stage stage' : Stage D I C) : Type 0 where
  pub runs : EndsUnopened serving stage stage' end ⊎ GoesOn show serving stage stage' end
  pub unused : stage'.outside.link ≡ stage.outside.link
  pub undialled : LeavesDialer stage stage'

-- A run of `many`: it reads a prototype for each collection, opens doors, an inbox for each collection and, where runs
-- are kept for a time, a clock for each, has workers run over all of them at once, and reports on them.
use Rattle.std.specs.Prelude.{◌≡◌, ◌⊎◌, ℕ, List, [], ◌∷◌, length, map, take, slice_get, IsSomeAnd}
use Rattle.std.specs.List.{AllZip}
use Rattle.fm_model.specs.declared.proto.Proto.{Proto}
use Rattle.dev_traits.specs.Opener.{OpenerShown}
use Rattle.dev_traits.specs.Shown.{FilesShown}
use Rattle.dev_traits.specs.declared.world.Devices.{Devices}
use Rattle.srv_words.specs.declared.job.ServingMany.{ServingMany}
use Rattle.srv_words.specs.declared.job.Spec.{Spec}
use Rattle.srv_workers.specs.declared.outcome.Outcomes.{Outcomes}
use Rattle.srv_workers.specs.Several.{RanSeveral}
use Rattle.srv_alone.specs.declared.end.End.{End}
use Rattle.srv_alone.specs.Once.{EndsOpening, Opens}
use Rattle.srv_alone.specs.Report.{Reports}
use Rattle.srv_closing.specs.Closing.{EndsWith, first_end_of}
use Rattle.srv_open.specs.Devices.{clocks_for, kept_for, Wanted}
use Rattle.srv_closing.specs.Lines.{many_lines}
use Rattle.srv_serve.specs.Serve.{EndsUnserved, HasOpened}
use Rattle.srv_open.specs.Shows.{Shows}
use Rattle.srv_closing.specs.Stage.{LeavesDevices, LeavesDialer, Stage}
use Rattle.srv_serve.specs.Telling.{folders_text, open_line}

-- the devices that the options of `many` ask for
abbrev pub asked_by : ServingMany → Wanted
asked_by serving = record {
  listen = serving.listen;
  connections = serving.connections;
  workers = serving.workers;
  inboxes = map (λ (spec : Spec). spec.inbox) serving.specs;
  clocks = clocks_for (length serving.specs) serving.keep;
  ticks = serving.ticks;
}

-- the line of one of the collections that is open
abbrev pub spec_line : ServingMany → Spec → List ℕ
spec_line serving spec =
    open_line spec.site.name serving.listen serving.workers (folders_text (spec.inbox ∷ []))

-- the lines that are told once all is open that the options of `many` ask for: one for each collection
abbrev pub serving_lines : ServingMany → List (List ℕ)
serving_lines serving = map (λ (spec : Spec). spec_line serving spec) serving.specs

-- A file was read as the prototype of each of these collections.
abbrev pub OpensEach : List Spec → FilesShown → List Proto → Type 0
OpensEach specs files protos =
    AllZip (λ (spec : Spec) (proto : Proto). Opens spec.site spec.proto files proto) specs protos

-- The file of the prototype of a collection ended a run so.
abbrev pub EndsAt : Spec → FilesShown → FilesShown → End → Type 0
EndsAt spec files files' end = EndsOpening spec.site spec.proto files files' end

-- The run ended at the file of the prototype of a collection, and the line was written that names it.
pub record EndsAtSpec {D I C : Type 0} (spec : Spec) (stage stage' : Stage D I C) (end : End) : Type 0 where
  pub ends : EndsAt spec stage.outside.files stage'.outside.files end
  pub reports : Reports end spec.proto stage.outside.sink stage'.outside.sink

-- The prototypes of the collections before one of them were read, and the run ended at the file of its prototype, so
-- with status 3, 4, 5 or 10: nothing was opened.
pub record EndsUnopened {D I C : Type 0} (serving : ServingMany) (stage stage' : Stage D I C) (end : End)
    : Type 0 where
  pub protos : List Proto
  pub reads : OpensEach (take (length protos) serving.specs) stage.outside.files protos
  pub at : IsSomeAnd (slice_get serving.specs (length protos)) (λ spec. EndsAtSpec spec stage stage' end)
  pub leaves : LeavesDevices stage stage'

-- All devices were opened, the opener was told so, and workers ran over them and left them so.
pub record HasRun {D I C L : Type 0} (show : Shows D I C L) (serving : ServingMany) (protos : List Proto)
    (opener opener' : OpenerShown D I C) (left : Devices D I C) (outcomes : Outcomes) : Type 0 where
  pub devices : Devices D I C
  pub opening : HasOpened show (serving_lines serving) (asked_by serving) opener opener' devices
  pub ran : RanSeveral show.door show.link show.inbox show.clock protos (kept_for serving.keep) devices left outcomes

-- Workers ran over all devices, and a line for each collection was written: the status is 0, 4, 6, 7 or 8.
pub record HasServed {D I C L : Type 0} (show : Shows D I C L) (serving : ServingMany) (protos : List Proto)
    (stage stage' : Stage D I C) (end : End) : Type 0 where
  pub outcomes : Outcomes
  pub run : HasRun show serving protos stage.opener stage'.opener stage'.devices outcomes
  pub ends : EndsWith (many_lines serving.specs outcomes)
      (first_end_of outcomes.doors outcomes.inboxes outcomes.clocks) end stage.outside.sink stage'.outside.sink

-- A run that has its prototypes went on so.
abbrev pub ServesDevices : {D I C L : Type 0} → Shows D I C L → ServingMany → List Proto → Stage D I C → Stage D I C
    → End → Type 0
ServesDevices show serving protos stage stage' end =
    EndsUnserved show (serving_lines serving) (asked_by serving) stage stage' end
    ⊎ HasServed show serving protos stage stage' end

-- The prototypes were read, and the run went on with them: devices were opened, but no worker ran, or workers ran over
-- all.
pub record GoesOn {D I C L : Type 0} (show : Shows D I C L) (serving : ServingMany) (stage stage' : Stage D I C)
    (end : End) : Type 0 where
  pub protos : List Proto
  pub reads : OpensEach serving.specs stage.outside.files protos
  pub files : stage'.outside.files ≡ stage.outside.files
  pub serves : ServesDevices show serving protos stage stage' end

-- A run of `many` ended so; neither the link of the outside nor the dialer was used.
pub record RunsMany {D I C L : Type 0} (show : Shows D I C L) (serving : ServingMany) (end : End)
    (stage stage' : Stage D I C) : Type 0 where
  pub runs : EndsUnopened serving stage stage' end ⊎ GoesOn show serving stage stage' end
  pub unused : stage'.outside.link ≡ stage.outside.link
  pub undialled : LeavesDialer stage stage'

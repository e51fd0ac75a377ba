-- A run of the program, by its words, its world and its status.
use Rattle.std.specs.Prelude.{◌≡◌, ◌⊎◌, ◌≤◌, ℕ, Bool, true, false, if◌then◌else◌, List, [], ⊤, Option, Some, None, Result, Ok, Err}
use Rattle.dev_traits.specs.Cause.{one_more}
use Rattle.dev_traits.specs.World.{WorldShown}
use Rattle.srv_words.specs.declared.job.Command.{Command}
use Rattle.srv_words.specs.declared.job.Command.TheVariants as commands
use Rattle.srv_words.specs.declared.job.Job.{Job}
use Rattle.srv_words.specs.declared.job.Job.TheVariants.{Once, Twod, Extract, Pull, Check, Load, Serve, Many}
use Rattle.srv_words.specs.Jobs.{command_of}
use Rattle.srv_alone.specs.declared.end.End.{End}
use Rattle.srv_alone.specs.declared.end.End.TheVariants.{BadWords, NoMemory, DoorFault, InboxFault}
use Rattle.srv_alone.specs.Check.{ChecksFile}
use Rattle.srv_serve.specs.Devices.{asked_by, HasFailedAt, StopsAtDoor, StopsAtInbox}
use Rattle.srv_alone.specs.Load.{EndsLoad}
use Rattle.srv_alone.specs.Once.{RunsOnce}
use Rattle.srv_alone.specs.Report.{Reports, status_of}
use Rattle.srv_pull.specs.Pull.{HasFailedLink, RunsPull}
use Rattle.srv_views.specs.Extract.{RunsExtract}
use Rattle.srv_views.specs.Views.{RunsTwod}
use Rattle.srv_serve.specs.Many as many
use Rattle.srv_serve.specs.Many.{RunsMany}
use Rattle.srv_serve.specs.Serve.{RunsServe}
use Rattle.srv_serve.specs.Shows.{Shows}
use Rattle.srv_serve.specs.Stage.{LeavesDevices, LeavesDialer, Says, Stage}

-- A run of `check` ended so; the link wasn't used.
pub record RunsCheck (path : List ℕ) (end : End) (world world' : WorldShown) : Type 0 where
  pub checks : ChecksFile path end world.files world'.files world.sink world'.sink
  pub unused : world'.link ≡ world.link

-- A run of `load` ended so; no file was read, and the link wasn't used.
pub record RunsLoad (seed files : ℕ) (end : End) (world world' : WorldShown) : Type 0 where
  pub ends : EndsLoad seed files end world.sink world'.sink
  pub unread : world'.files ≡ world.files
  pub unused : world'.link ≡ world.link

-- A run of `pull` ended so; no file was read, and the link of the outside wasn't used.
pub record PullsAlone {D I C : Type 0} (address target : List ℕ) (end : End) (stage stage' : Stage D I C) : Type 0 where
  pub pulls : RunsPull (λ link. link) address target end stage.dial stage'.dial stage.outside.sink stage'.outside.sink
  pub unread : stage'.outside.files ≡ stage.outside.files
  pub unused : stage'.outside.link ≡ stage.outside.link

-- A run left the opener, the devices and the dialer as before.
abbrev pub LeavesRest : {D I C : Type 0} → Stage D I C → Stage D I C → Type 0
LeavesRest stage stage' = LeavesDevices stage stage' × LeavesDialer stage stage'

-- A run for a job ended so. Without a job only the line that says so was written. No job but `serve` and `many` touches
-- the opener and the devices, and none but `pull` the dialer.
abbrev pub DoesJob : {D I C L : Type 0} → Shows D I C L → Option Job → End → Stage D I C → Stage D I C → Type 0
DoesJob show None end stage stage' = (end ≡ BadWords) × Says BadWords stage stage'
DoesJob show (Some (Once stepping)) end stage stage' =
    RunsOnce stepping.site stepping.proto stepping.steps end stage.outside stage'.outside × LeavesRest stage stage'
DoesJob show (Some (Check path)) end stage stage' =
    RunsCheck path end stage.outside stage'.outside × LeavesRest stage stage'
DoesJob show (Some (Load seed files)) end stage stage' =
    RunsLoad seed files end stage.outside stage'.outside × LeavesRest stage stage'
DoesJob show (Some (Serve serving)) end stage stage' = RunsServe show serving end stage stage'
DoesJob show (Some (Twod stepping with_values constraint)) end stage stage' =
    RunsTwod stepping (record { with_values = with_values; constraint = constraint }) end
    stage.outside stage'.outside × LeavesRest stage stage'
DoesJob show (Some (Extract stepping view constraint version)) end stage stage' =
    RunsExtract stepping (record { view = view; constraint = constraint; version = version }) end
    stage.outside stage'.outside × LeavesRest stage stage'
DoesJob show (Some (Pull address target)) end stage stage' =
    PullsAlone address target end stage stage' × LeavesDevices stage stage'
DoesJob show (Some (Many serving)) end stage stage' = RunsMany show serving end stage stage'

-- Memory ran out before the words were read, and only the line that says so was written.
abbrev pub LacksMemory : {D I C : Type 0} → End → Stage D I C → Stage D I C → Type 0
LacksMemory end stage stage' = (end ≡ NoMemory) × Says NoMemory stage stage'

-- A run for a job ended so, or memory ran out before the words were read.
abbrev pub RunsTo : {D I C L : Type 0} → Shows D I C L → Option Job → End → Stage D I C → Stage D I C → Type 0
RunsTo show job end stage stage' = DoesJob show job end stage stage' ⊎ LacksMemory end stage stage'

-- The same, with its status.
pub record Runs {D I C L : Type 0} (show : Shows D I C L) (job : Option Job) (status : ℕ) (stage stage' : Stage D I C)
    : Type 0 where
  pub end : End
  pub status_is : status ≡ status_of end
  pub does : RunsTo show job end stage stage'

-- whether these are the same command
abbrev pub is_same : Command → Command → Bool
is_same commands.Once commands.Once = true
is_same commands.Check commands.Check = true
is_same commands.Load commands.Load = true
is_same commands.Serve commands.Serve = true
is_same commands.Twod commands.Twod = true
is_same commands.Extract commands.Extract = true
is_same commands.Pull commands.Pull = true
is_same commands.Many commands.Many = true
is_same command other = false

-- the job, where it is of this command
abbrev pub only : Command → Option Job → Option Job
only command None = None
only command (Some job) = if is_same command (command_of job) then Some job else None

-- a command that waits for nobody
abbrev pub IsAloneCommand : Command → Type 0
IsAloneCommand commands.Serve = ⊥
IsAloneCommand commands.Many = ⊥
IsAloneCommand command = ⊤

-- a job that waits for nobody
abbrev pub IsAlone : Job → Type 0
IsAlone job = IsAloneCommand (command_of job)

-- a job that uses the link
abbrev pub UsesLink : Option Job → Type 0
UsesLink (Some (Once stepping)) = ⊤
UsesLink (Some (Twod stepping with_values constraint)) = ⊤
UsesLink (Some (Extract stepping view constraint version)) = ⊤
UsesLink job = ⊥

-- a job that reads files
abbrev pub UsesFiles : Option Job → Type 0
UsesFiles None = ⊥
UsesFiles (Some (Load seed files)) = ⊥
UsesFiles (Some (Pull address target)) = ⊥
UsesFiles job = ⊤

-- a job that dials
abbrev pub UsesDialer : Option Job → Type 0
UsesDialer (Some (Pull address target)) = ⊤
UsesDialer job = ⊥

-- There is this job, or a run ends so without one: there is none, or memory ran out.
abbrev pub IsJobOrEnd : Option Job → Result Job End → Type 0
IsJobOrEnd job (Ok found) = job ≡ Some found
IsJobOrEnd job (Err BadWords) = job ≡ None
IsJobOrEnd job (Err NoMemory) = ⊤
IsJobOrEnd job (Err end) = ⊥

-- The door of this number wasn't opened, since a call of the opener failed. No job but `serve` and `many` opens one.
abbrev pub LacksDoor : {D I C : Type 0} → Option Job → Stage D I C → Stage D I C → ℕ → Type 0
LacksDoor (Some (Serve serving)) stage stage' number =
    StopsAtDoor (asked_by serving) stage'.devices stage.opener.faults stage'.opener.faults number
LacksDoor (Some (Many serving)) stage stage' number =
    StopsAtDoor (many.asked_by serving) stage'.devices stage.opener.faults stage'.opener.faults number
LacksDoor job stage stage' number = ⊥

-- All doors were opened, and the inbox of this number wasn't, since a call of the opener failed.
abbrev pub LacksInbox : {D I C : Type 0} → Option Job → Stage D I C → Stage D I C → ℕ → Type 0
LacksInbox (Some (Serve serving)) stage stage' number =
    StopsAtInbox (asked_by serving) stage'.devices stage.opener.faults stage'.opener.faults number
LacksInbox (Some (Many serving)) stage stage' number =
    StopsAtInbox (many.asked_by serving) stage'.devices stage.opener.faults stage'.opener.faults number
LacksInbox job stage stage' number = ⊥

-- The line names a door. It wasn't opened, or one of its calls failed.
pub record BlamesDoor {D I C L : Type 0} (show : Shows D I C L) (job : Option Job) (stage stage' : Stage D I C)
    : Type 0 where
  pub number : ℕ
  pub told : Reports (DoorFault number) [] stage.outside.sink stage'.outside.sink
  pub why : LacksDoor job stage stage' number
      ⊎ HasFailedAt (λ door. (show.door door).faults) stage'.devices.doors number

-- The line names an inbox. It wasn't opened, or one of its calls failed.
pub record BlamesInbox {D I C L : Type 0} (show : Shows D I C L) (job : Option Job) (stage stage' : Stage D I C)
    : Type 0 where
  pub number : ℕ
  pub told : Reports (InboxFault number) [] stage.outside.sink stage'.outside.sink
  pub why : LacksInbox job stage stage' number
      ⊎ HasFailedAt (λ inbox. (show.inbox inbox).faults) stage'.devices.inboxes number

-- Calls of the link failed. A run of `pull` uses another link: a call of the dialer failed, or of the link that it
-- gave.
abbrev pub BlamesLink : {D I C : Type 0} → Option Job → Stage D I C → Stage D I C → Type 0
BlamesLink (Some (Pull address target)) stage stage' = HasFailedLink (λ link. link) stage.dial stage'.dial
BlamesLink job stage stage' = one_more stage.outside.link.faults ≤ stage'.outside.link.faults

-- Summary: when the words are refused, and which device a status blames. Memory may run out before the words are read.
pub record Blames {D I C L : Type 0} (show : Shows D I C L) (job : Option Job) (status : ℕ) (stage stage' : Stage D I C)
    : Type 0 where
  pub bad_words : status ≡ 2 → job ≡ None
  pub refused : job ≡ None → (status ≡ 2) ⊎ (status ≡ 4)
  pub file_fault : status ≡ 5 → stage'.outside.files.faults ≡ one_more stage.outside.files.faults
  pub door_fault : status ≡ 6 → BlamesDoor show job stage stage'
  pub sink_fault : status ≡ 7 → stage'.outside.sink.faults ≡ one_more stage.outside.sink.faults
  pub inbox_fault : status ≡ 8 → BlamesInbox show job stage stage'
  pub link_fault : status ≡ 9 → BlamesLink job stage stage'

-- A run for a job ended with this status, which blames what failed.
pub record Ends {D I C L : Type 0} (show : Shows D I C L) (job : Option Job) (status : ℕ)
    (stage stage' : Stage D I C) : Type 0 where
  pub runs : Runs show job status stage stage'
  pub blames : Blames show job status stage stage'

-- Workers: their parts, and what they have seen and counted of each desk.
use Rattle.std.specs.Prelude.{◌≡◌, ℕ, ◌<◌, List, [], ◌∷◌, ◌++◌, All, Option, Some, None}
use Rattle.std.specs.List.{filter_map}
use Rattle.fm_model.specs.declared.op.Op.{Op}
use Rattle.srv_door.specs.declared.door_report.DoorReport.{DoorReport}
use Rattle.srv_ingest.specs.declared.report.ExpireReport.{ExpireReport}
use Rattle.srv_ingest.specs.declared.report.IngestReport.{IngestReport}
use Rattle.srv_workers.specs.declared.worker.Worker.{Worker}
use Rattle.srv_workers.specs.declared.worker.Worker.TheVariants.{Serve, TakeIn, LetGo}
use Rattle.srv_workers.specs.Desks.{counted_at, IsNew, IsUnseen, Means}

-- the door of a worker
abbrev pub door_of : {D I C E H : Type 0} → Worker D I C E H → Option D
door_of (Serve door number eyes report) = Some door
door_of worker = None

-- the inbox of a worker
abbrev pub inbox_of : {D I C E H : Type 0} → Worker D I C E H → Option I
inbox_of (TakeIn inbox hand report) = Some inbox
inbox_of worker = None

-- the clock of a worker
abbrev pub clock_of : {D I C E H : Type 0} → Worker D I C E H → Option C
clock_of (LetGo clock hand report) = Some clock
clock_of worker = None

-- what a worker publishes with
abbrev pub hand_of : {D I C E H : Type 0} → Worker D I C E H → Option H
hand_of (Serve door number eyes report) = None
hand_of (TakeIn inbox hand report) = Some hand
hand_of (LetGo clock hand report) = Some hand

-- what an inbox's worker publishes with
abbrev pub inbox_hand : {D I C E H : Type 0} → Worker D I C E H → Option H
inbox_hand (TakeIn inbox hand report) = Some hand
inbox_hand worker = None

-- what a clock's worker publishes with
abbrev pub clock_hand : {D I C E H : Type 0} → Worker D I C E H → Option H
clock_hand (LetGo clock hand report) = Some hand
clock_hand worker = None

-- the report of a door
abbrev pub door_told : {D I C E H : Type 0} → Worker D I C E H → Option DoorReport
door_told (Serve door number eyes report) = Some report
door_told worker = None

-- the report of an inbox
abbrev pub inbox_told : {D I C E H : Type 0} → Worker D I C E H → Option IngestReport
inbox_told (TakeIn inbox hand report) = Some report
inbox_told worker = None

-- the report of a clock
abbrev pub clock_told : {D I C E H : Type 0} → Worker D I C E H → Option ExpireReport
clock_told (LetGo clock hand report) = Some report
clock_told worker = None

-- whether a worker looks at the desk of a number
abbrev pub LooksAt : {D I C E H : Type 0} → Means E H → Worker D I C E H → ℕ → Type 0
LooksAt means (Serve door given eyes report) number = number < means.them.count
LooksAt means (TakeIn inbox hand report) number = number ≡ (means.publisher hand).desk
LooksAt means (LetGo clock hand report) number = number ≡ (means.publisher hand).desk

-- the operations that a worker has seen of a desk that it looks at
abbrev pub seen_by : {D I C E H : Type 0} → Means E H → Worker D I C E H → ℕ → List Op
seen_by means (Serve door given eyes report) number = (means.views eyes).seen number
seen_by means (TakeIn inbox hand report) number = (means.publisher hand).pass.seen
seen_by means (LetGo clock hand report) number = (means.publisher hand).pass.seen

-- what the shares of these hands have counted at the desk of a number
abbrev pub counted_with : {E H : Type 0} → Means E H → ℕ → List H → List ℕ
counted_with means number [] = []
counted_with means number (hand ∷ hands) =
    counted_at number (means.publisher hand) ++ counted_with means number hands

-- what the shares of workers have counted there
abbrev pub counted_by : {D I C E H : Type 0} → Means E H → ℕ → List (Worker D I C E H) → List ℕ
counted_by means number staff = counted_with means number (filter_map hand_of staff)

-- a worker has seen nothing and published nothing
abbrev pub IsFirst : {D I C E H : Type 0} → Means E H → Worker D I C E H → Type 0
IsFirst means (Serve door number eyes report) = IsUnseen (means.views eyes)
IsFirst means (TakeIn inbox hand report) = IsNew means.them (means.publisher hand)
IsFirst means (LetGo clock hand report) = IsNew means.them (means.publisher hand)

-- workers for these devices, with these hands for inboxes and for clocks, were put behind others
pub record Adds {D I C E H : Type 0} (means : Means E H) (before after : List (Worker D I C E H)) (doors : List D)
    (inboxes : List I) (clocks : List C) (at_inboxes at_clocks : List H) : Type 0 where
  pub doors_are : filter_map door_of after ≡ filter_map door_of before ++ doors
  pub inboxes_are : filter_map inbox_of after ≡ filter_map inbox_of before ++ inboxes
  pub clocks_are : filter_map clock_of after ≡ filter_map clock_of before ++ clocks
  pub at_inboxes_are : filter_map inbox_hand after ≡ filter_map inbox_hand before ++ at_inboxes
  pub at_clocks_are : filter_map clock_hand after ≡ filter_map clock_hand before ++ at_clocks
  pub first : All (IsFirst means) before → All (IsFirst means) after

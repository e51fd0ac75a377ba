-- The runs of each kind of device, from workers before and after their work.
use Rattle.std.proofs.Common.{◌≡◌, ℕ, List, map, Option, Some, None, IfSome, option_map, refl}
use Rattle.std.specs.List.{AllZip, filter_map}
use Rattle.fm_model.specs.declared.op.Op.{Op}
use Rattle.srv_door.specs.declared.door_report.DoorReport.{DoorReport}
use Rattle.srv_ingest.specs.declared.report.ExpireReport.{ExpireReport}
use Rattle.srv_ingest.specs.declared.report.IngestReport.{IngestReport}
use Rattle.srv_workers.specs.declared.worker.Worker.{Worker}
use Rattle.srv_workers.specs.declared.worker.Worker.TheVariants.{Serve, TakeIn, LetGo}
use Rattle.srv_workers.specs.Course.{Begins}
use Rattle.srv_workers.specs.Desks.{Means}
use Rattle.srv_workers.specs.Does.{Does, Shows}
use Rattle.srv_workers.specs.Over.{AreDeskRuns, DeskRun, IsClockRunAt, IsDoorRunAt, IsInboxRunAt}
use Rattle.srv_workers.specs.Pairs.{pick}
use Rattle.srv_workers.specs.Workers.{clock_hand, clock_of, clock_told, door_of, door_told, inbox_hand, inbox_of, inbox_told, IsFirst}
use Rattle.srv_workers.proofs.PairLemmas.{pick-all, pick-first, pick-second}

-- a worker before and after its work makes a run of this device, or there is no such device
pub record IsPick {X K R : Type 0} (Is : DeskRun X K R → Type 0) (made : Option (DeskRun X K R)) (came left : Option X)
    (told : Option R) : Type 0 where
  pub came_is : option_map (λ (run : DeskRun X K R). run.came) made ≡ came
  pub left_is : option_map (λ (run : DeskRun X K R). run.left) made ≡ left
  pub told_is : option_map (λ (run : DeskRun X K R). run.report) made ≡ told
  pub each : IfSome made Is

-- there is no device of the kind
no-pick : {X K R : Type 0} (Is : DeskRun X K R → Type 0) → IsPick Is None None None None
no-pick Is = record { came_is = refl; left_is = refl; told_is = refl; each = tt }

-- what is made of each worker before and after its work
unfoldable pub runs-are : {W X K R : Type 0} (Is : DeskRun X K R → Type 0) (Both : W → W → Type 0)
    (made : W → W → Option (DeskRun X K R)) (of_it : W → Option X) (told : W → Option R) (before after : List W)
    → AllZip Both before after
    → ((w w' : W) → Both w w' → IsPick Is (made w w') (of_it w) (of_it w') (told w'))
    → AreDeskRuns Is (filter_map of_it before) (filter_map of_it after) (filter_map told after)
runs-are {W} {X} {K} {R} Is Both made of_it told before after each picked = record {
  runs = pick made before after;
  came = pick-first Both made (λ (run : DeskRun X K R). run.came) of_it before after each
      (λ w w' both. (picked w w' both).came_is);
  left = pick-second Both made (λ (run : DeskRun X K R). run.left) of_it before after each
      (λ w w' both. (picked w w' both).left_is);
  told = pick-second Both made (λ (run : DeskRun X K R). run.report) told before after each
      (λ w w' both. (picked w w' both).told_is);
  each = pick-all Both made Is before after each (λ w w' both. (picked w w' both).each);
}

-- the run of a door
abbrev pub door_run : {D I C E H : Type 0} → Worker D I C E H → Worker D I C E H → Option (DeskRun D E DoorReport)
door_run (Serve came n eyes r) (Serve left n' eyes' report) =
    Some (record { came = came; left = left; first = eyes; last = eyes'; report = report })
door_run worker worker' = None

-- the run of an inbox
abbrev pub inbox_run : {D I C E H : Type 0} → Worker D I C E H → Worker D I C E H → Option (DeskRun I H IngestReport)
inbox_run (TakeIn came hand r) (TakeIn left hand' report) =
    Some (record { came = came; left = left; first = hand; last = hand'; report = report })
inbox_run worker worker' = None

-- the run of a clock
abbrev pub clock_run : {D I C E H : Type 0} → Worker D I C E H → Worker D I C E H → Option (DeskRun C H ExpireReport)
clock_run (LetGo came hand r) (LetGo left hand' report) =
    Some (record { came = came; left = left; first = hand; last = hand'; report = report })
clock_run worker worker' = None

-- a worker that had seen nothing did its task, and what it then knew begins the logs
pub record IsFirstWork {D I C L E H : Type 0} (shown : Shows D I C L) (keep : ℕ) (means : Means E H)
    (log : ℕ → List Op) (worker worker' : Worker D I C E H) : Type 0 where
  pub worked : Does shown keep means worker worker'
  pub first : IsFirst means worker
  pub begins : Begins means log worker'

-- the run of a door is picked where the worker has one
door-pick : {D I C L E H : Type 0} (shown : Shows D I C L) (keep : ℕ) (means : Means E H) (log : ℕ → List Op)
    (w w' : Worker D I C E H) → IsFirstWork shown keep means log w w'
    → IsPick (IsDoorRunAt shown means log) (door_run w w') (door_of w) (door_of w') (door_told w')
door-pick shown keep means log (Serve d n e r) (Serve d' n' e' r') is = record {
  came_is = refl;
  left_is = refl;
  told_is = refl;
  each = record { new = is.first; serves = is.worked; begins = is.begins };
}
door-pick shown keep means log (TakeIn i h r) (TakeIn i' h' r') is = no-pick (IsDoorRunAt shown means log)
door-pick shown keep means log (LetGo c h r) (LetGo c' h' r') is = no-pick (IsDoorRunAt shown means log)
door-pick shown keep means log (Serve d n e r) (TakeIn i h r') is = absurd is.worked
door-pick shown keep means log (Serve d n e r) (LetGo c h r') is = absurd is.worked
door-pick shown keep means log (TakeIn i h r) (Serve d n e r') is = absurd is.worked
door-pick shown keep means log (TakeIn i h r) (LetGo c h' r') is = absurd is.worked
door-pick shown keep means log (LetGo c h r) (Serve d n e r') is = absurd is.worked
door-pick shown keep means log (LetGo c h r) (TakeIn i h' r') is = absurd is.worked

-- the run of an inbox
pub inbox-pick : {D I C L E H : Type 0} (shown : Shows D I C L) (keep : ℕ) (means : Means E H) (log : ℕ → List Op)
    (w w' : Worker D I C E H) → IsFirstWork shown keep means log w w'
    → IsPick (IsInboxRunAt shown means log) (inbox_run w w') (inbox_of w) (inbox_of w') (inbox_told w')
inbox-pick shown keep means log (TakeIn i h r) (TakeIn i' h' r') is = record {
  came_is = refl;
  left_is = refl;
  told_is = refl;
  each = record { new = is.first; takes = is.worked; begins = is.begins (means.publisher h').desk refl };
}
inbox-pick shown keep means log (Serve d n e r) (Serve d' n' e' r') is = no-pick (IsInboxRunAt shown means log)
inbox-pick shown keep means log (LetGo c h r) (LetGo c' h' r') is = no-pick (IsInboxRunAt shown means log)
inbox-pick shown keep means log (Serve d n e r) (TakeIn i h r') is = absurd is.worked
inbox-pick shown keep means log (Serve d n e r) (LetGo c h r') is = absurd is.worked
inbox-pick shown keep means log (TakeIn i h r) (Serve d n e r') is = absurd is.worked
inbox-pick shown keep means log (TakeIn i h r) (LetGo c h' r') is = absurd is.worked
inbox-pick shown keep means log (LetGo c h r) (Serve d n e r') is = absurd is.worked
inbox-pick shown keep means log (LetGo c h r) (TakeIn i h' r') is = absurd is.worked

-- the run of a clock
pub clock-pick : {D I C L E H : Type 0} (shown : Shows D I C L) (keep : ℕ) (means : Means E H) (log : ℕ → List Op)
    (w w' : Worker D I C E H) → IsFirstWork shown keep means log w w'
    → IsPick (IsClockRunAt shown keep means log) (clock_run w w') (clock_of w) (clock_of w') (clock_told w')
clock-pick shown keep means log (LetGo c h r) (LetGo c' h' r') is = record {
  came_is = refl;
  left_is = refl;
  told_is = refl;
  each = record { new = is.first; lets = is.worked; begins = is.begins (means.publisher h').desk refl };
}
clock-pick shown keep means log (Serve d n e r) (Serve d' n' e' r') is = no-pick (IsClockRunAt shown keep means log)
clock-pick shown keep means log (TakeIn i h r) (TakeIn i' h' r') is = no-pick (IsClockRunAt shown keep means log)
clock-pick shown keep means log (Serve d n e r) (TakeIn i h r') is = absurd is.worked
clock-pick shown keep means log (Serve d n e r) (LetGo c h r') is = absurd is.worked
clock-pick shown keep means log (TakeIn i h r) (Serve d n e r') is = absurd is.worked
clock-pick shown keep means log (TakeIn i h r) (LetGo c h' r') is = absurd is.worked
clock-pick shown keep means log (LetGo c h r) (Serve d n e r') is = absurd is.worked
clock-pick shown keep means log (LetGo c h r) (TakeIn i h' r') is = absurd is.worked

-- the runs of doors
pub door-runs : {D I C L E H : Type 0} (shown : Shows D I C L) (keep : ℕ) (means : Means E H) (log : ℕ → List Op)
    (before after : List (Worker D I C E H)) → AllZip (IsFirstWork shown keep means log) before after
    → AreDeskRuns (IsDoorRunAt shown means log) (filter_map door_of before) (filter_map door_of after)
    (filter_map door_told after)
door-runs shown keep means log before after each =
    runs-are (IsDoorRunAt shown means log) (IsFirstWork shown keep means log) door_run door_of door_told before after
    each (door-pick shown keep means log)

-- the runs of inboxes
unfoldable pub inbox-runs : {D I C L E H : Type 0} (shown : Shows D I C L) (keep : ℕ) (means : Means E H)
    (log : ℕ → List Op) (before after : List (Worker D I C E H))
    → AllZip (IsFirstWork shown keep means log) before after
    → AreDeskRuns (IsInboxRunAt shown means log) (filter_map inbox_of before) (filter_map inbox_of after)
    (filter_map inbox_told after)
inbox-runs shown keep means log before after each =
    runs-are (IsInboxRunAt shown means log) (IsFirstWork shown keep means log) inbox_run inbox_of inbox_told before
    after each (inbox-pick shown keep means log)

-- the runs of clocks
unfoldable pub clock-runs : {D I C L E H : Type 0} (shown : Shows D I C L) (keep : ℕ) (means : Means E H)
    (log : ℕ → List Op) (before after : List (Worker D I C E H))
    → AllZip (IsFirstWork shown keep means log) before after
    → AreDeskRuns (IsClockRunAt shown keep means log) (filter_map clock_of before) (filter_map clock_of after)
    (filter_map clock_told after)
clock-runs shown keep means log before after each =
    runs-are (IsClockRunAt shown keep means log) (IsFirstWork shown keep means log) clock_run clock_of clock_told
    before after each (clock-pick shown keep means log)

-- the hand that an inbox's worker had at first
inbox-first : {D I C L E H : Type 0} (shown : Shows D I C L) (keep : ℕ) (means : Means E H) (log : ℕ → List Op)
    (w w' : Worker D I C E H) → IsFirstWork shown keep means log w w'
    → option_map (λ (run : DeskRun I H IngestReport). run.first) (inbox_run w w') ≡ inbox_hand w
inbox-first shown keep means log (TakeIn i h r) (TakeIn i' h' r') is = refl
inbox-first shown keep means log (TakeIn i h r) (Serve d n e r') is = absurd is.worked
inbox-first shown keep means log (TakeIn i h r) (LetGo c h' r') is = absurd is.worked
inbox-first shown keep means log (Serve d n e r) w' is = refl
inbox-first shown keep means log (LetGo c h r) w' is = refl

pub inbox-hands : {D I C L E H : Type 0} (shown : Shows D I C L) (keep : ℕ) (means : Means E H) (log : ℕ → List Op)
    (before after : List (Worker D I C E H)) → AllZip (IsFirstWork shown keep means log) before after
    → map (λ (run : DeskRun I H IngestReport). run.first) (pick inbox_run before after) ≡ filter_map inbox_hand before
inbox-hands {D} {I} {C} {L} {E} {H} shown keep means log before after each =
    pick-first (IsFirstWork shown keep means log) inbox_run (λ (run : DeskRun I H IngestReport). run.first) inbox_hand
    before after each (inbox-first shown keep means log)

-- the hand that a clock's worker had at first
clock-first : {D I C L E H : Type 0} (shown : Shows D I C L) (keep : ℕ) (means : Means E H) (log : ℕ → List Op)
    (w w' : Worker D I C E H) → IsFirstWork shown keep means log w w'
    → option_map (λ (run : DeskRun C H ExpireReport). run.first) (clock_run w w') ≡ clock_hand w
clock-first shown keep means log (LetGo c h r) (LetGo c' h' r') is = refl
clock-first shown keep means log (LetGo c h r) (Serve d n e r') is = absurd is.worked
clock-first shown keep means log (LetGo c h r) (TakeIn i h' r') is = absurd is.worked
clock-first shown keep means log (Serve d n e r) w' is = refl
clock-first shown keep means log (TakeIn i h r) w' is = refl

pub clock-hands : {D I C L E H : Type 0} (shown : Shows D I C L) (keep : ℕ) (means : Means E H) (log : ℕ → List Op)
    (before after : List (Worker D I C E H)) → AllZip (IsFirstWork shown keep means log) before after
    → map (λ (run : DeskRun C H ExpireReport). run.first) (pick clock_run before after) ≡ filter_map clock_hand before
clock-hands {D} {I} {C} {L} {E} {H} shown keep means log before after each =
    pick-first (IsFirstWork shown keep means log) clock_run (λ (run : DeskRun C H ExpireReport). run.first) clock_hand
    before after each (clock-first shown keep means log)

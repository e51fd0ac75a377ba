-- Tasks that are done: from the workers that were hired to what they leave.
use Rattle.std.proofs.Common.{◌≡◌, ℕ, ◌+◌, List, [], ◌∷◌, length, sum, All, Option, refl, sym, ap, ap₂, ◌∙◌, arith}
use Rattle.std.proofs.lemmas.List.{length-map}
use Rattle.std.proofs.lemmas.List.Elements.{All-head, All-tail}
use Rattle.std.proofs.lemmas.List.Sums.{sum_by-append}
use Rattle.std.specs.List.{AllZip, cons_option, filter_map}
use Rattle.fm_model.specs.declared.op.Op.{Op}
use Rattle.srv_workers.specs.declared.given.Given.{Given}
use Rattle.srv_workers.specs.declared.worker.Worker.{Worker}
use Rattle.srv_workers.specs.declared.worker.Worker.TheVariants.{Serve, TakeIn, LetGo}
use Rattle.srv_workers.specs.Course.{Begins, Keeps}
use Rattle.srv_workers.specs.Desks.{counted_at, Means}
use Rattle.srv_workers.specs.Does.{Does, Shows}
use Rattle.srv_workers.specs.Done.{AreDone, HaveWorked, IsHired}
use Rattle.srv_workers.specs.Over.{AreDeskRuns, counted_in, DeskRun, IsClockRunAt, IsDoorRunAt, IsInboxRunAt}
use Rattle.srv_workers.specs.Pairs.{pick}
use Rattle.srv_workers.specs.Workers.{clock_of, clock_told, counted_by, counted_with, door_of, door_told, inbox_of, inbox_told, IsFirst}
use Rattle.srv_workers.proofs.CountLemmas.{counted-apart, counted-kept, counted-worked}
use Rattle.srv_workers.proofs.RunLemmas.{clock_run, clock-hands, clock-runs, door-runs, inbox_run, inbox-hands, inbox-runs, IsFirstWork, runs-are}
use Rattle.dev_traits.specs.declared.world.Devices.{Devices}

-- workers that had seen nothing and did their tasks
first-work : {D I C L E H : Type 0} (shown : Shows D I C L) (keep : ℕ) (means : Means E H) (log : ℕ → List Op)
    (before after : List (Worker D I C E H)) → AllZip (Does shown keep means) before after
    → All (IsFirst means) before → All (Begins means log) after
    → AllZip (IsFirstWork shown keep means log) before after
first-work shown keep means log [] [] worked first begin = tt
first-work shown keep means log [] (w ∷ ws) worked first begin = absurd worked
first-work shown keep means log (v ∷ vs) [] worked first begin = absurd worked
first-work shown keep means log (v ∷ vs) (w ∷ ws) worked first begin = (
  record {
    worked = worked.0;
    first = All-head (IsFirst means) v vs first;
    begins = All-head (Begins means log) w ws begin;
  },
  first-work shown keep means log vs ws worked.1 (All-tail (IsFirst means) v vs first)
      (All-tail (Begins means log) w ws begin),
)

-- what is made of workers that kept what they have
made-kept : {D I C E H X : Type 0} (means : Means E H) (made : Worker D I C E H → Option X)
    (vs ws : List (Worker D I C E H)) → ((v w : Worker D I C E H) → Keeps means v w → made w ≡ made v)
    → AllZip (Keeps means) vs ws → filter_map made ws ≡ filter_map made vs
made-kept means made [] [] same kept = refl
made-kept means made [] (w ∷ ws) same kept = absurd kept
made-kept means made (v ∷ vs) [] same kept = absurd kept
made-kept {X = X} means made (v ∷ vs) (w ∷ ws) same kept =
    ap₂ (λ (o : Option X) (l : List X). cons_option o l) (same v w kept.0) (made-kept means made vs ws same kept.1)

-- runs of equal lists
runs-equal : {X K R : Type 0} (Is : DeskRun X K R → Type 0) (before before' after after' : List X)
    (reports reports' : List R) → before ≡ before' → after' ≡ after → reports' ≡ reports
    → AreDeskRuns Is before after reports → AreDeskRuns Is before' after' reports'
runs-equal Is before before' after after' reports reports' one two three runs = record {
  runs = runs.runs;
  came = runs.came ∙ one;
  left = runs.left ∙ sym two;
  told = runs.told ∙ sym three;
  each = runs.each;
}

-- the shares of workers count as those of their runs
counted-all : {D I C L E H : Type 0} (shown : Shows D I C L) (keep : ℕ) (means : Means E H) (log : ℕ → List Op)
    (number : ℕ) (vs ws : List (Worker D I C E H)) → AllZip (IsFirstWork shown keep means log) vs ws
    → sum (counted_by means number ws) ≡ sum (counted_in means number (pick inbox_run vs ws))
    + sum (counted_in means number (pick clock_run vs ws))
counted-all shown keep means log number [] [] each = refl
counted-all shown keep means log number [] (w ∷ ws) each = absurd each
counted-all shown keep means log number (v ∷ vs) [] each = absurd each
counted-all shown keep means log number (Serve d n e r ∷ vs) (Serve d' n' e' r' ∷ ws) each =
    counted-all shown keep means log number vs ws each.1
counted-all shown keep means log number (TakeIn i h r ∷ vs) (TakeIn i' h' r' ∷ ws) each = omega (
  arith,
  sum_by-append (λ (n : ℕ). n) (counted_at number (means.publisher h')) (counted_by means number ws),
  sum_by-append (λ (n : ℕ). n) (counted_at number (means.publisher h'))
      (counted_in means number (pick inbox_run vs ws)),
  counted-all shown keep means log number vs ws each.1,
)
counted-all shown keep means log number (LetGo c h r ∷ vs) (LetGo c' h' r' ∷ ws) each = omega (
  arith,
  sum_by-append (λ (n : ℕ). n) (counted_at number (means.publisher h')) (counted_by means number ws),
  sum_by-append (λ (n : ℕ). n) (counted_at number (means.publisher h'))
      (counted_in means number (pick clock_run vs ws)),
  counted-all shown keep means log number vs ws each.1,
)
counted-all shown keep means log number (Serve d n e r ∷ vs) (TakeIn i h r' ∷ ws) each = absurd each.0.worked
counted-all shown keep means log number (Serve d n e r ∷ vs) (LetGo c h r' ∷ ws) each = absurd each.0.worked
counted-all shown keep means log number (TakeIn i h r ∷ vs) (Serve d n e r' ∷ ws) each = absurd each.0.worked
counted-all shown keep means log number (TakeIn i h r ∷ vs) (LetGo c h' r' ∷ ws) each = absurd each.0.worked
counted-all shown keep means log number (LetGo c h r ∷ vs) (Serve d n e r' ∷ ws) each = absurd each.0.worked
counted-all shown keep means log number (LetGo c h r ∷ vs) (TakeIn i h' r' ∷ ws) each = absurd each.0.worked

-- the tasks of hired workers are done once all have worked
pub AreDone-is : {D I C L E H : Type 0} (shown : Shows D I C L) (keep : ℕ) (means : Means E H) (log : ℕ → List Op)
    (devices : Devices D I C) (given : Given E H) (before after : List (Worker D I C E H))
    → IsHired means devices given before → HaveWorked shown keep means log before after
    → AreDone shown keep means log devices given after
unfolding runs-equal runs-are inbox-runs clock-runs
AreDone-is {D} {I} {C} {L} {E} {H} shown keep means log devices given before after hired worked = record {
  doors = runs-equal (IsDoorRunAt shown means log) (filter_map door_of before) devices.doors
      (filter_map door_of worked.middle) (filter_map door_of after) (filter_map door_told worked.middle)
      (filter_map door_told after) hired.adds.doors_are (made-kept means door_of worked.middle after
      (λ v w kept. kept.door) worked.kept) (made-kept means door_told worked.middle after (λ v w kept. kept.door_told)
      worked.kept) (door-runs shown keep means log before worked.middle each);
  inboxes = runs-equal (IsInboxRunAt shown means log) (filter_map inbox_of before) devices.inboxes
      (filter_map inbox_of worked.middle) (filter_map inbox_of after) (filter_map inbox_told worked.middle)
      (filter_map inbox_told after) hired.adds.inboxes_are (made-kept means inbox_of worked.middle after
      (λ v w kept. kept.inbox) worked.kept) (made-kept means inbox_told worked.middle after
      (λ v w kept. kept.inbox_told) worked.kept) (inbox-runs shown keep means log before worked.middle each);
  clocks = runs-equal (IsClockRunAt shown keep means log) (filter_map clock_of before) devices.clocks
      (filter_map clock_of worked.middle) (filter_map clock_of after) (filter_map clock_told worked.middle)
      (filter_map clock_told after) hired.adds.clocks_are (made-kept means clock_of worked.middle after
      (λ v w kept. kept.clock) worked.kept) (made-kept means clock_told worked.middle after
      (λ v w kept. kept.clock_told) worked.kept) (clock-runs shown keep means log before worked.middle each);
  at_inboxes_are = inbox-hands shown keep means log before worked.middle each ∙ hired.adds.at_inboxes_are;
  at_clocks_are = clock-hands shown keep means log before worked.middle each ∙ hired.adds.at_clocks_are;
  counted = λ number. ap (λ (l : List ℕ). sum l) (counted-kept means number worked.middle after worked.kept)
      ∙ counted-all shown keep means log number before worked.middle each;
}
  where
    each : AllZip (IsFirstWork shown keep means log) before worked.middle
    each = first-work shown keep means log before worked.middle worked.worked hired.first worked.begin

-- as many shares at each desk as there were hands
pub counted-done : {D I C L E H : Type 0} (shown : Shows D I C L) (keep : ℕ) (means : Means E H) (log : ℕ → List Op)
    (devices : Devices D I C) (given : Given E H) (before after : List (Worker D I C E H)) (number : ℕ)
    → IsHired means devices given before → HaveWorked shown keep means log before after
    → length (counted_by means number after) ≡ length (counted_with means number given.at_inboxes)
    + length (counted_with means number given.at_clocks)
counted-done {H = H} shown keep means log devices given before after number hired worked =
    ap (λ (l : List ℕ). length l) (counted-kept means number worked.middle after worked.kept)
    ∙ counted-worked shown keep means number before worked.middle worked.worked
    ∙ counted-apart means number before
    ∙ ap₂ (λ (l m : List H). length (counted_with means number l) + length (counted_with means number m))
    hired.adds.at_inboxes_are hired.adds.at_clocks_are

-- as many devices as before
pub runs-count : {X K R : Type 0} (Is : DeskRun X K R → Type 0) (before after : List X) (reports : List R)
    → AreDeskRuns Is before after reports → length after ≡ length before
runs-count {X} Is before after reports runs =
    sym (ap (λ (l : List X). length l) runs.left) ∙ length-map runs.runs (λ run. run.left)
    ∙ sym (length-map runs.runs (λ run. run.came)) ∙ ap (λ (l : List X). length l) runs.came

-- as many reports
pub told-count : {X K R : Type 0} (Is : DeskRun X K R → Type 0) (before after : List X) (reports : List R)
    → AreDeskRuns Is before after reports → length reports ≡ length before
told-count {X} {K} {R} Is before after reports runs =
    sym (ap (λ (l : List R). length l) runs.told) ∙ length-map runs.runs (λ run. run.report)
    ∙ sym (length-map runs.runs (λ run. run.came)) ∙ ap (λ (l : List X). length l) runs.came

-- A run over several desks, in the terms of their collections.
use Rattle.std.proofs.Common.{◌≡◌, ℕ, zero, suc, ◌+◌, ◌≤◌, List, [], ◌∷◌, ◌++◌, drop, length, map, sum, All, Bool, Option, Some, None, refl, sym, ap, subst, ◌∙◌, arith}
use Rattle.std.specs.Prelude.{if◌then◌else◌, slice_get}
use Rattle.std.proofs.lemmas.Bool.{eq-eqb, ne_eqb}
use Rattle.std.proofs.lemmas.List.Elements.{All-head, All-map, All-tail, All-weaker}
use Rattle.std.proofs.lemmas.List.Sums.{sum_by-append}
use Rattle.fm_model.specs.declared.op.Op.{Op}
use Rattle.dev_traits.specs.Shown.{LinkShown}
use Rattle.dev_traits.specs.Clock.{Moments}
use Rattle.dev_traits.specs.Door.{DoorShown}
use Rattle.dev_traits.specs.Inbox.{InboxShown}
use Rattle.dev_traits.specs.declared.world.Devices.{Devices}
use Rattle.pub_look.specs.History.{Continues}
use Rattle.dap_reply.specs.Collections.{Views}
use Rattle.srv_ingest.specs.declared.report.ExpireReport.{ExpireReport}
use Rattle.srv_ingest.specs.declared.report.IngestReport.{IngestReport}
use Rattle.srv_ingest.specs.Expires.{AllSettledWith}
use Rattle.srv_ingest.specs.Ingests.{SettledWith}
use Rattle.srv_many.specs.Several.{nth}
use Rattle.srv_workers.specs.declared.given.Given.{Given}
use Rattle.srv_workers.specs.declared.outcome.Outcomes.{Outcomes}
use Rattle.srv_workers.specs.Desks.{Means, Publisher}
use Rattle.srv_workers.specs.Does.{Shows, shows}
use Rattle.srv_workers.specs.Given.{each_of, new_at}
use Rattle.srv_workers.specs.Over.{AreDeskRuns, counted_in, DeskRun, IsClockRunAt, IsDoorRunAt, IsInboxRunAt, RanOver}
use Rattle.srv_workers.specs.Runs.{IsClockRun, IsInboxRun, Run}
use Rattle.srv_workers.specs.Several.{AreRunsInOrder, EachInOrder, gone_by, IsDoorRunOver, RanAmong, taken_by}
use Rattle.srv_workers.proofs.AloneLemmas.{run_of, same-map}
use Rattle.srv_workers.proofs.EachLemmas.{length-never}

-- a run at desks, with what was seen of them
abbrev viewed : {X E R : Type 0} → (E → Views) → DeskRun X E R → DeskRun X Views R
viewed views run =
    record { came = run.came; left = run.left; first = views run.first; last = views run.last; report = run.report }

-- the runs of doors
doors-viewed : {X E R : Type 0} (views : E → Views) (Is : DeskRun X E R → Type 0) (IsSo : DeskRun X Views R → Type 0)
    (before after : List X) (reports : List R) → ((run : DeskRun X E R) → Is run → IsSo (viewed views run))
    → AreDeskRuns Is before after reports → AreDeskRuns IsSo before after reports
doors-viewed {X} {E} {R} views Is IsSo before after reports so runs = record {
  runs = map (viewed views) runs.runs;
  came = same-map (viewed views) (λ (run : DeskRun X Views R). run.came) (λ (run : DeskRun X E R). run.came) runs.runs
      (λ run. refl) ∙ runs.came;
  left = same-map (viewed views) (λ (run : DeskRun X Views R). run.left) (λ (run : DeskRun X E R). run.left) runs.runs
      (λ run. refl) ∙ runs.left;
  told = same-map (viewed views) (λ (run : DeskRun X Views R). run.report) (λ (run : DeskRun X E R). run.report)
      runs.runs (λ run. refl) ∙ runs.told;
  each = All-map IsSo (viewed views) runs.runs
      (All-weaker Is (λ (run : DeskRun X E R). IsSo (viewed views run)) so runs.runs runs.each);
}

-- the hands of runs, one at each number
abbrev AreOnce : {X H R : Type 0} → (H → Publisher) → ℕ → (ℕ → Publisher) → List (DeskRun X H R) → Type 0
AreOnce {X} {H} {R} publisher count made runs =
    map publisher (map (λ (run : DeskRun X H R). run.first) runs) ≡ each_of 1 count made

-- the hand of the first run is the first, and those of the others follow
once-first : {X H R : Type 0} (publisher : H → Publisher) (count : ℕ) (made : ℕ → Publisher) (run : DeskRun X H R)
    (runs : List (DeskRun X H R)) → AreOnce publisher (suc count) made (run ∷ runs) → publisher run.first ≡ made 0
once-first publisher count made run runs are = ap (λ (l : List Publisher). nth (made 0) l 0) are

once-others : {X H R : Type 0} (publisher : H → Publisher) (count : ℕ) (made : ℕ → Publisher) (run : DeskRun X H R)
    (runs : List (DeskRun X H R)) → AreOnce publisher (suc count) made (run ∷ runs)
    → AreOnce publisher count (λ (n : ℕ). made (suc n)) runs
once-others publisher count made run runs are = ap (λ (l : List Publisher). drop 1 l) are

-- what holds of each run by the hand that it had
in-order : {X H R : Type 0} (publisher : H → Publisher) (Is : DeskRun X H R → Type 0) (IsAt : ℕ → Run X R → Type 0)
    (count : ℕ) (made : ℕ → Publisher) (runs : List (DeskRun X H R))
    → ((number : ℕ) (run : DeskRun X H R) → Is run → publisher run.first ≡ made number
    → IsAt number (run_of (λ (hand : H). (publisher hand).pass) run)) → AreOnce publisher count made runs
    → All Is runs → EachInOrder IsAt (map (run_of (λ (hand : H). (publisher hand).pass)) runs)
in-order publisher Is IsAt count made [] so are all = tt
in-order publisher Is IsAt zero made (run ∷ runs) so are all =
    absurd (omega (arith, ap (λ (l : List Publisher). length l) are))
in-order publisher Is IsAt (suc count) made (run ∷ runs) so are all = (
  so 0 run (All-head Is run runs all) (once-first publisher count made run runs are),
  in-order publisher Is (λ number. IsAt (suc number)) count (λ (n : ℕ). made (suc n)) runs
      (λ number. so (suc number)) (once-others publisher count made run runs are) (All-tail Is run runs all),
)

-- there is no run where there is no hand
no-run : {X H R : Type 0} (publisher : H → Publisher) (count : ℕ) (made : ℕ → Publisher)
    (runs : List (DeskRun X H R))
    → map publisher (map (λ (run : DeskRun X H R). run.first) runs) ≡ each_of 0 count made → runs ≡ []
no-run publisher count made [] are = refl
no-run publisher count made (run ∷ runs) are =
    absurd (omega (arith, ap (λ (l : List Publisher). length l) are, length-never count made))

-- no share of these runs counts at a desk that none of them is at
none-there : {X E H R : Type 0} (means : Means E H) (Is : DeskRun X H R → Type 0)
    (same : (run : DeskRun X H R) → Is run → (means.publisher run.last).desk ≡ (means.publisher run.first).desk)
    (number count : ℕ) (made : ℕ → Publisher) (runs : List (DeskRun X H R))
    → ((n : ℕ) → (made n).desk ≡ number → ⊥) → AreOnce means.publisher count made runs → All Is runs
    → sum (counted_in means number runs) ≡ 0
none-there means Is same number count made [] differs are all = refl
none-there means Is same number zero made (run ∷ runs) differs are all =
    absurd (omega (arith, ap (λ (l : List Publisher). length l) are))
none-there {X} {E} {H} {R} means Is same number (suc count) made (run ∷ runs) differs are all =
    ap (λ (b : Bool). sum ((if b then (means.publisher run.last).share ∷ [] else []) ++ counted_in means number runs))
    (ne_eqb (means.publisher run.last).desk number (λ is. differs 0 (sym at ∙ is)))
    ∙ none-there means Is same number count (λ (n : ℕ). made (suc n)) runs (λ n. differs (suc n))
    (once-others means.publisher count made run runs are) (All-tail Is run runs all)
  where
    at : (means.publisher run.last).desk ≡ (made 0).desk
    at = same run (All-head Is run runs all) ∙ ap (λ (p : Publisher). p.desk)
        (once-first means.publisher count made run runs are)

-- at each desk the share of one run counts, and its report tells that
one-there : {X E H R : Type 0} (means : Means E H) (Is : DeskRun X H R → Type 0) (by : Option R → ℕ)
    (same : (run : DeskRun X H R) → Is run → (means.publisher run.last).desk ≡ (means.publisher run.first).desk)
    (counts : (run : DeskRun X H R) → Is run → (means.publisher run.last).share ≡ by (Some run.report))
    (first number count : ℕ) (made : ℕ → Publisher) (runs : List (DeskRun X H R)) → by None ≡ 0
    → ((n : ℕ) → (made n).desk ≡ first + n) → AreOnce means.publisher count made runs → All Is runs
    → sum (counted_in means (first + number) runs)
    ≡ by (slice_get (map (λ (run : DeskRun X H R). run.report) runs) number)
one-there means Is by same counts first number count made [] none desks are all = sym none
one-there means Is by same counts first number zero made (run ∷ runs) none desks are all =
    absurd (omega (arith, ap (λ (l : List Publisher). length l) are))
one-there means Is by same counts first zero (suc count) made (run ∷ runs) none desks are all =
    ap (λ (b : Bool). sum ((if b then (means.publisher run.last).share ∷ [] else [])
    ++ counted_in means (first + 0) runs)) (eq-eqb (means.publisher run.last).desk (first + 0) (at ∙ desks 0))
    ∙ sum_by-append (λ (n : ℕ). n) ((means.publisher run.last).share ∷ []) (counted_in means (first + 0) runs)
    ∙ omega (
      arith,
      counts run (All-head Is run runs all),
      none-there means Is same (first + 0) count (λ (n : ℕ). made (suc n)) runs
          (λ n is. omega (arith, is, desks (suc n))) (once-others means.publisher count made run runs are)
          (All-tail Is run runs all),
    )
  where
    at : (means.publisher run.last).desk ≡ (made 0).desk
    at = same run (All-head Is run runs all) ∙ ap (λ (p : Publisher). p.desk)
        (once-first means.publisher count made run runs are)
one-there means Is by same counts first (suc number) (suc count) made (run ∷ runs) none desks are all =
    ap (λ (b : Bool). sum ((if b then (means.publisher run.last).share ∷ [] else [])
    ++ counted_in means (first + suc number) runs)) (ne_eqb (means.publisher run.last).desk (first + suc number)
    (λ is. omega (arith, at, desks 0, is)))
    ∙ ap (λ (k : ℕ). sum (counted_in means k runs)) next
    ∙ one-there means Is by same counts (suc first) number count (λ (n : ℕ). made (suc n)) runs none
    (λ n. omega (arith, desks (suc n))) (once-others means.publisher count made run runs are)
    (All-tail Is run runs all)
  where
    at : (means.publisher run.last).desk ≡ (made 0).desk
    at = same run (All-head Is run runs all) ∙ ap (λ (p : Publisher). p.desk)
        (once-first means.publisher count made run runs are)

    next : first + suc number ≡ suc first + number
    next = omega arith

-- an inbox of the collection of a number
inbox-at : {D I C L E H : Type 0} (door : D → DoorShown L) (link : L → LinkShown) (inbox : I → InboxShown)
    (clock : C → Option Moments) (means : Means E H) (log : ℕ → List Op) (number : ℕ)
    (run : DeskRun I H IngestReport) → IsInboxRunAt (shows door link inbox clock) means log run
    → means.publisher run.first ≡ new_at means.them number
    → IsInboxRun inbox (means.them.proto number) (log number)
    (run_of (λ (hand : H). (means.publisher hand).pass) run)
inbox-at door link inbox clock means log number run is new = record {
  settles = subst (λ (p : Publisher). SettledWith (means.them.proto p.desk) (inbox run.came).held
      (inbox run.left).held p.pass (means.publisher run.last).pass run.report) new is.takes.settles;
  ends = is.takes.ends;
  begins = subst (λ (n : ℕ). Continues (means.publisher run.last).pass.seen (log n))
      (is.takes.same_desk ∙ ap (λ (p : Publisher). p.desk) new) is.begins;
}

-- a clock of the collection of a number
clock-at : {D I C L E H : Type 0} (door : D → DoorShown L) (link : L → LinkShown) (inbox : I → InboxShown)
    (clock : C → Option Moments) (keep : ℕ) (means : Means E H) (log : ℕ → List Op) (number : ℕ)
    (run : DeskRun C H ExpireReport) → IsClockRunAt (shows door link inbox clock) keep means log run
    → means.publisher run.first ≡ new_at means.them number
    → IsClockRun clock (means.them.proto number) keep (log number)
    (run_of (λ (hand : H). (means.publisher hand).pass) run)
clock-at door link inbox clock keep means log number run is new = record {
  settles = subst (λ (p : Publisher). AllSettledWith keep (means.them.proto p.desk).site.epoch (clock run.came)
      (clock run.left) p.pass (means.publisher run.last).pass run.report) new is.lets.settles;
  begins = subst (λ (n : ℕ). Continues (means.publisher run.last).pass.seen (log n))
      (is.lets.same_desk ∙ ap (λ (p : Publisher). p.desk) new) is.begins;
}

-- the runs of inboxes or of clocks, each at the desk of its number
runs-in-order : {X E H R : Type 0} (means : Means E H) (Is : DeskRun X H R → Type 0) (IsAt : ℕ → Run X R → Type 0)
    (before after : List X) (reports : List R) (times : ℕ) (runs : AreDeskRuns Is before after reports) → times ≤ 1
    → ((number : ℕ) (run : DeskRun X H R) → Is run → means.publisher run.first ≡ new_at means.them number
    → IsAt number (run_of (λ (hand : H). (means.publisher hand).pass) run))
    → map means.publisher (map (λ (run : DeskRun X H R). run.first) runs.runs)
    ≡ each_of times means.them.count (new_at means.them) → AreRunsInOrder IsAt before after reports
runs-in-order {X} {E} {H} {R} means Is IsAt before after reports times runs few so are = record {
  runs = map by runs.runs;
  came = same-map by (λ (run : Run X R). run.came) (λ (run : DeskRun X H R). run.came) runs.runs (λ run. refl)
      ∙ runs.came;
  left = same-map by (λ (run : Run X R). run.left) (λ (run : DeskRun X H R). run.left) runs.runs (λ run. refl)
      ∙ runs.left;
  told = same-map by (λ (run : Run X R). run.report) (λ (run : DeskRun X H R). run.report) runs.runs (λ run. refl)
      ∙ runs.told;
  each = each times runs.runs few are runs.each;
}
  where
    by : DeskRun X H R → Run X R
    by = run_of (λ (hand : H). (means.publisher hand).pass)

    each : (k : ℕ) (those : List (DeskRun X H R)) → k ≤ 1
        → map means.publisher (map (λ (run : DeskRun X H R). run.first) those)
        ≡ each_of k means.them.count (new_at means.them) → All Is those → EachInOrder IsAt (map by those)
    each zero those most is all =
        subst (λ (l : List (DeskRun X H R)). EachInOrder IsAt (map by l))
        (sym (no-run means.publisher means.them.count (new_at means.them) those is)) tt
    each (suc zero) those most is all =
        in-order means.publisher Is IsAt means.them.count (new_at means.them) those so is all
    each (suc (suc k)) those most is all = absurd (omega (arith, most))

-- what the shares of runs count at the desk of a number, the report of that number tells
told-in-order : {X E H R : Type 0} (means : Means E H) (Is : DeskRun X H R → Type 0) (by : Option R → ℕ)
    (before after : List X) (reports : List R) (times number : ℕ) (runs : AreDeskRuns Is before after reports)
    → times ≤ 1 → by None ≡ 0
    → ((run : DeskRun X H R) → Is run → (means.publisher run.last).desk ≡ (means.publisher run.first).desk)
    → ((run : DeskRun X H R) → Is run → (means.publisher run.last).share ≡ by (Some run.report))
    → map means.publisher (map (λ (run : DeskRun X H R). run.first) runs.runs)
    ≡ each_of times means.them.count (new_at means.them)
    → by (slice_get reports number) ≡ sum (counted_in means number runs.runs)
told-in-order {X} {E} {H} {R} means Is by before after reports times number runs few none same counts are =
    ap (λ (l : List R). by (slice_get l number)) (sym runs.told) ∙ sym (told times runs.runs few are runs.each)
  where
    start : 0 + number ≡ number
    start = omega arith

    told : (k : ℕ) (those : List (DeskRun X H R)) → k ≤ 1
        → map means.publisher (map (λ (run : DeskRun X H R). run.first) those)
        ≡ each_of k means.them.count (new_at means.them) → All Is those
        → sum (counted_in means number those) ≡ by (slice_get (map (λ (run : DeskRun X H R). run.report) those) number)
    told zero those most is all =
        subst (λ (l : List (DeskRun X H R)). sum (counted_in means number l)
        ≡ by (slice_get (map (λ (run : DeskRun X H R). run.report) l) number))
        (sym (no-run means.publisher means.them.count (new_at means.them) those is)) (sym none)
    told (suc zero) those most is all =
        ap (λ (k : ℕ). sum (counted_in means k those)) (sym start)
        ∙ one-there means Is by same counts 0 number means.them.count (new_at means.them) those none
        (λ n. omega arith) is all
    told (suc (suc k)) those most is all = absurd (omega (arith, most))

-- a run over several desks is one over their collections
pub RanAmong-is : {D I C L E H : Type 0} (door : D → DoorShown L) (link : L → LinkShown) (inbox : I → InboxShown)
    (clock : C → Option Moments) (keep : ℕ) (means : Means E H) (clocks : ℕ) (given : Given E H)
    (before after : Devices D I C) (outcomes : Outcomes) → clocks ≤ 1
    → map means.publisher given.at_inboxes ≡ each_of 1 means.them.count (new_at means.them)
    → map means.publisher given.at_clocks ≡ each_of clocks means.them.count (new_at means.them)
    → RanOver (shows door link inbox clock) keep means given before after outcomes
    → RanAmong door link inbox clock means.them keep before after outcomes
RanAmong-is {D} {I} {C} {L} {E} {H} door link inbox clock keep means clocks given before after outcomes few taken gone
    ran = record {
      log = ran.log;
      sound = ran.sound;
      doors = doors-viewed means.views (IsDoorRunAt shown means ran.log)
          (IsDoorRunOver door link means.them ran.log) before.doors after.doors outcomes.doors
          (λ run is. record { new = is.new; serves = is.serves; begins = is.begins }) ran.doors;
      inboxes = runs-in-order means (IsInboxRunAt shown means ran.log)
          (λ number. IsInboxRun inbox (means.them.proto number) (ran.log number)) before.inboxes after.inboxes
          outcomes.inboxes 1 ran.inboxes (omega arith) (inbox-at door link inbox clock means ran.log) at-inboxes;
      clocks = runs-in-order means (IsClockRunAt shown keep means ran.log)
          (λ number. IsClockRun clock (means.them.proto number) keep (ran.log number)) before.clocks after.clocks
          outcomes.clocks clocks ran.clocks few (clock-at door link inbox clock keep means ran.log) at-clocks;
      closed = ran.closed;
      told = λ number below. omega (
        arith,
        ran.told number below,
        told-in-order means (IsInboxRunAt shown means ran.log) taken_by before.inboxes after.inboxes outcomes.inboxes
            1 number ran.inboxes (omega arith) refl (λ run is. is.takes.same_desk)
            (λ run is. omega (arith, is.takes.counted, is.new.share_is)) at-inboxes,
        told-in-order means (IsClockRunAt shown keep means ran.log) gone_by before.clocks after.clocks outcomes.clocks
            clocks number ran.clocks few refl (λ run is. is.lets.same_desk)
            (λ run is. omega (arith, is.lets.counted, is.new.share_is)) at-clocks,
      );
    }
  where
    shown : Shows D I C L
    shown = shows door link inbox clock

    at-inboxes : map means.publisher (map (λ (run : DeskRun I H IngestReport). run.first) ran.inboxes.runs)
        ≡ each_of 1 means.them.count (new_at means.them)
    at-inboxes = ap (λ (l : List H). map means.publisher l) ran.at_inboxes_are ∙ taken

    at-clocks : map means.publisher (map (λ (run : DeskRun C H ExpireReport). run.first) ran.clocks.runs)
        ≡ each_of clocks means.them.count (new_at means.them)
    at-clocks = ap (λ (l : List H). map means.publisher l) ran.at_clocks_are ∙ gone

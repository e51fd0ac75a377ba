-- The clocks of a run of `serve` after it, where they show their moments.
use Rattle.std.proofs.Common.{◌≡◌, ℕ, List, [], ◌∷◌, drop, length, map, All, Option, Some, None, IsSomeAnd, refl, sym, ap, subst, ◌∙◌}
use Rattle.std.proofs.lemmas.List.Elements.{All-cons, All-drop, All-head, All-nil, All-tail}
use Rattle.std.specs.Prelude.{IfSome, IsSome}
use Rattle.dev_traits.specs.Clock.{Moments}
use Rattle.dev_traits.specs.Opener.{after_clock, clock_asked, next_clock, OpenerShown, Stock}
use Rattle.fm_model.specs.declared.proto.Proto.{Proto}
use Rattle.srv_ingest.specs.declared.report.ExpireReport.{ExpireReport}
use Rattle.srv_ingest.specs.Expires.{AreAll, SettledMoment}
use Rattle.srv_words.specs.declared.job.Serving.{Serving}
use Rattle.dev_traits.specs.declared.world.Devices.{Devices}
use Rattle.srv_workers.specs.declared.outcome.Outcome.{Outcome}
use Rattle.srv_workers.specs.Runs.{IsClockRun, Run}
use Rattle.srv_serve.specs.Devices.{asked_by, kept_for, OpensDevices, Wanted}
use Rattle.srv_serve.specs.Opening.{after_doors, after_inboxes, OpensClocks}
use Rattle.srv_serve.specs.Serve.{HasRun}
use Rattle.srv_serve.specs.Shows.{Shows}
use Rattle.srv_laws.specs.WellServed.{ShowsClocks}

-- a clock shows its moments
abbrev pub HasMoments : {C : Type 0} → (C → Option Moments) → C → Type 0
HasMoments show clock = IsSome (show clock)

-- a clock that was asked for ticks shows its moments, where it did before
asked-shown : (ticks : ℕ) (clock : Option Moments) → IsSome clock → IsSome (clock_asked ticks clock)
asked-shown ticks (Some moments) some = refl
asked-shown ticks None some = absurd cc

-- the next clock of an opener shows its moments, where all do
next-shown : {C : Type 0} (show : C → Option Moments) (clocks : List C) (ticks : ℕ) → All (HasMoments show) clocks
    → IsSome (next_clock show clocks ticks)
next-shown show [] ticks all = refl
next-shown show (clock ∷ more) ticks all =
    asked-shown ticks (show clock) (All-head (HasMoments show) clock more all)

-- opened clocks show their moments
opened-shown : {D I C : Type 0} (show : C → Option Moments) (ticks : ℕ) (opener opener' : Option (Stock D I C))
    (clocks : List C) (stock : Stock D I C) → OpensClocks show ticks opener opener' clocks → opener ≡ Some stock
    → All (HasMoments show) stock.clocks → All (HasMoments show) clocks
opened-shown show ticks opener opener' [] stock opens is all = All-nil (HasMoments show)
opened-shown {D} {I} {C} show ticks opener opener' (clock ∷ clocks) stock opens is all =
    let next : show clock ≡ next_clock show stock.clocks ticks =
    subst (λ (o : Option (Stock D I C)). IfSome o (λ stock. show clock ≡ next_clock show stock.clocks ticks)) is
    opens.0 in
    All-cons (HasMoments show) clock clocks
    (subst (λ (o : Option Moments). IsSome o) (sym next) (next-shown show stock.clocks ticks all))
    (opened-shown show ticks (after_clock opener) opener' clocks (record stock { clocks = drop 1 stock.clocks })
    opens.1 (ap after_clock is) (All-drop (HasMoments show) 1 stock.clocks all))

-- the clocks that were opened for a run show their moments
pub opens-shown : {D I C L : Type 0} (show : Shows D I C L) (wanted : Wanted) (opener opener' : Option (Stock D I C))
    (devices : Devices D I C) (stock : Stock D I C) → OpensDevices show wanted opener opener' devices
    → opener ≡ Some stock → All (HasMoments show.clock) stock.clocks → All (HasMoments show.clock) devices.clocks
opens-shown {D} {I} {C} show wanted opener opener' devices stock opens is all =
    let doors = length devices.doors in
    let inboxes = length devices.inboxes in
    let left : Stock D I C = record {
      doors = drop doors stock.doors;
      inboxes = drop inboxes stock.inboxes;
      clocks = stock.clocks;
      lines = stock.lines;
    } in
    let there : opens.after_inboxes ≡ Some left =
    opens.inboxes.left ∙ ap (after_inboxes inboxes) (opens.doors.left ∙ ap (after_doors doors) is) in
    opened-shown show.clock wanted.ticks opens.after_inboxes opener' devices.clocks left opens.clocks there all

-- a clock that a worker took to its end has no moment left
pub clock-used : (came left : Option Moments) (settled : List SettledMoment) → IsSome came
    → IfSome came (λ moments. IsSomeAnd left (λ moments'. AreAll moments moments' settled))
    → IsSomeAnd left (λ moments. moments.left ≡ [])
clock-used None left settled some all = absurd cc
clock-used (Some moments) None settled some all = absurd all
clock-used (Some moments) (Some moments') settled some all = all.none_left

-- where a fact of what came gives one of what was left, all that was left has it
pub all-through : {T X : Type 0} (came left : T → X) (Is : T → Type 0) (P Z : X → Type 0) (runs : List T)
    → All Is runs → ((run : T) → Is run → P (came run) → Z (left run)) → All P (map came runs) → All Z (map left runs)
all-through came left Is P Z [] each so all = All-nil Z
all-through {T} {X} came left Is P Z (run ∷ runs) each so all =
    let others : List X = map came runs in
    All-cons Z (left run) (map left runs) (so run (All-head Is run runs each) (All-head P (came run) others all))
    (all-through came left Is P Z runs (All-tail Is run runs each) so (All-tail P (came run) others all))

-- the clocks of a run have no moment left
pub clocks-used : {D I C L : Type 0} (show : Shows D I C L) (serving : Serving) (proto : Proto)
    (opener opener' : OpenerShown D I C) (left : Devices D I C) (outcome : Outcome)
    → HasRun show serving proto opener opener' left outcome → ShowsClocks show opener
    → All (λ clock. IsSomeAnd (show.clock clock) (λ moments. moments.left ≡ [])) left.clocks
clocks-used {D} {I} {C} show serving proto opener opener' left outcome run shown =
    let opening = run.opening in
    let opened = opens-shown show (asked_by serving) opener.held opening.opened.held run.devices shown.stock
    opening.opens shown.held_is shown.each in
    let are = run.ran.clocks in
    let keep = kept_for serving.keep in
    let Used : C → Type 0 = λ clock. IsSomeAnd (show.clock clock) (λ moments. moments.left ≡ []) in
    subst (λ (xs : List C). All Used xs) are.left
    (all-through (λ (r : Run C ExpireReport). r.came) (λ (r : Run C ExpireReport). r.left)
    (IsClockRun show.clock proto keep run.ran.log) (HasMoments show.clock) Used are.runs are.each
    (λ it is some. clock-used (show.clock it.came) (show.clock it.left) is.settles.settled some is.settles.all)
    (subst (λ (xs : List C). All (HasMoments show.clock) xs) (sym are.came) opened))

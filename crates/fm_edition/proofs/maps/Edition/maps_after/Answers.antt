-- Each map has what an operation leaves, and so have the rows.
use Rattle.std.proofs.Common.{◌≡◌, false, refl, sym, ap, subst, ◌∙◌}
use Rattle.std.specs.Option.{option_map}
use Rattle.fm_model.specs.Rising.{Rises}
use Rattle.fm_list.specs.declared.by.By.TheVariants.{Run, Time, Name}
use Rattle.fm_list.specs.Change.{changed, gone}
use Rattle.fm_edition.specs.declared.maps.index.Index.{Index}
use Rattle.fm_edition.specs.Held.{Held}
use Rattle.fm_edition.specs.Indexes.{instants, page_rows, rows_at, touches, IsBest}
use Rattle.fm_edition.specs.Log.{CanFollow}
use Rattle.fm_edition.proofs.IndexLemmas.{entries_timed-after, AreMaps-after, HaveGone-parts, IsDone}
use Rattle.fm_edition.proofs.KeyLemmas.{Rises-instants}
use Rattle.fm_edition.proofs.maps.Edition.maps_after.Goals as goal

pub map_after-requires-clause-ordered : goal.map_after-requires-clause-ordered
map_after-requires-clause-ordered c = c.self.invariant.maps.of_runs.ordered

pub map_after-requires-clause-gone : goal.map_after-requires-clause-gone
map_after-requires-clause-gone c =
    let went = c.args.exchange.now.went.now in
    let op = c.args.exchange.now.op.now in
    HaveGone-parts Run c.self.inside.files went op c.self.inside.index.by_run c.self.invariant.maps.of_runs
    (subst (λ (h : Held). went ≡ gone h.files op) (sym c.self.view_is) c.requires.went)

pub after_change-requires-clause-rise : goal.after_change-requires-clause-rise
after_change-requires-clause-rise c = subst Rises (sym (c.as_slice.ensures ∙ c.in_ok-times.ensures))
    (Rises-instants Time c.args.changed.now)

pub after_change-requires-clause-ordered : goal.after_change-requires-clause-ordered
after_change-requires-clause-ordered c = c.self.invariant.maps.of_times.ordered

pub after_change-requires-clause-gone : goal.after_change-requires-clause-gone
after_change-requires-clause-gone c =
    let went = c.args.exchange.now.went.now in
    let op = c.args.exchange.now.op.now in
    HaveGone-parts Time c.self.inside.files went op c.self.inside.index.by_time c.self.invariant.maps.of_times
    (subst (λ (h : Held). went ≡ gone h.files op) (sym c.self.view_is) c.requires.went)

pub map_after-requires-2-clause-ordered : goal.map_after-requires-2-clause-ordered
map_after-requires-2-clause-ordered c = c.self.invariant.maps.of_names.ordered

pub map_after-requires-2-clause-gone : goal.map_after-requires-2-clause-gone
map_after-requires-2-clause-gone c =
    let went = c.args.exchange.now.went.now in
    let op = c.args.exchange.now.op.now in
    HaveGone-parts Name c.self.inside.files went op c.self.inside.index.by_name c.self.invariant.maps.of_names
    (subst (λ (h : Held). went ≡ gone h.files op) (sym c.self.view_is) c.requires.went)

pub best_after-requires-clause-best : goal.best_after-requires-clause-best
best_after-requires-clause-best c = c.self.invariant.maps.of_best.paged.ordered

pub best_after-requires-clause-timed : goal.best_after-requires-clause-timed
best_after-requires-clause-timed c =
    let op = c.args.exchange.now.op.now in
    let held : Held = record { proto = c.self.inside.proto; files = c.self.inside.files } in
    let can = subst (λ (h : Held). CanFollow h.proto h.files op) (sym c.self.view_is) c.requires.can in
    let changed_is = subst (λ (h : Held). c.args.changed.now ≡ changed h.files op) (sym c.self.view_is)
    c.requires.changed in
    let touched : c.as_slice.result.now ≡ instants Time (changed held.files op) = c.as_slice.ensures
    ∙ c.in_ok-times.ensures ∙ ap (instants Time) changed_is in
    let times : IsDone Time held.files op c.self.inside.index.by_time c.in_ok-by_time.by_time = record {
      ordered = c.in_ok-by_time.ensures.ordered;
      set = rw (← touched) c.in_ok-by_time.ensures.set;
    } in
    entries_timed-after held op c.self.inside.index.by_time c.in_ok-by_time.by_time c.self.invariant.sound can
    c.self.invariant.maps.of_times times

pub best_after-requires-clause-same : goal.best_after-requires-clause-same
unfolding rows_at
best_after-requires-clause-same c number none =
    let untouched = subst (λ l. touches l number ≡ false) (c.as_slice-2.ensures ∙ sym c.as_slice.ensures) none in
    c.self.invariant.maps.of_best.paged.shown number
    ∙ ap (option_map page_rows) (sym (c.in_ok-by_time.ensures.same number untouched))

pub returns : goal.returns
returns c =
    let op = c.args.exchange.now.op.now in
    let held : Held = record { proto = c.self.inside.proto; files = c.self.inside.files } in
    let index = c.self.inside.index in
    let next : Index = record {
      by_run = c.in_ok-by_run.by_run;
      by_time = c.in_ok-by_time.by_time;
      by_name = c.in_ok-by_name.by_name;
      best = c.in_ok-best.best;
    } in
    let changed_is : c.args.changed.now ≡ changed held.files op =
    subst (λ (h : Held). c.args.changed.now ≡ changed h.files op) (sym c.self.view_is) c.requires.changed in
    let touched : c.as_slice.result.now ≡ instants Time (changed held.files op) = c.as_slice.ensures
    ∙ c.in_ok-times.ensures ∙ ap (instants Time) changed_is in
    let runs : IsDone Run held.files op index.by_run next.by_run = record {
      ordered = c.in_ok-by_run.ensures.ordered;
      set = rw (← changed_is) c.in_ok-by_run.ensures.set;
    } in
    let times : IsDone Time held.files op index.by_time next.by_time = record {
      ordered = c.in_ok-by_time.ensures.ordered;
      set = rw (← touched) c.in_ok-by_time.ensures.set;
    } in
    let names : IsDone Name held.files op index.by_name next.by_name = record {
      ordered = c.in_ok-by_name.ensures.ordered;
      set = rw (← changed_is) c.in_ok-by_name.ensures.set;
    } in
    rw (← c.self.view_is) (AreMaps-after held.files op index next c.self.invariant.maps runs times names
    (subst (IsBest next.by_time) (sym c.in_ok-best.ensures)
    (record { paged = c.in_ok-pages.ensures; whole = refl })))

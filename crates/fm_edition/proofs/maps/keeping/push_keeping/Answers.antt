-- One more stretch keeps the least offset, or the rows before it are added.
use Rattle.std.proofs.Common.{◌≡◌, ◌≤◌, ◌++◌, OnOk, List, get_or, ap, sym, ◌∙◌, subst, take, drop, length, arith}
use Rattle.std.specs.Prelude.{filter}
use Rattle.std.proofs.lemmas.List.{length-map, take_all}
use Rattle.fm_model.specs.declared.row.Row.{Row}
use Rattle.fm_edition.specs.Least.{keeps_least, lies_after, row_time}
use Rattle.fm_edition.proofs.EarlyLemmas.{no_time}
use Rattle.fm_edition.proofs.KeepLemmas.{passed_none, timed_row}
use Rattle.fm_edition.proofs.StretchLemmas.{passed_all, rows_keep}
use Rattle.fm_edition.proofs.maps.keeping.push_keeping.Goals as goal

pub loop-at-preserved-then-lies_after : goal.loop-at-preserved-then-lies_after
loop-at-preserved-then-lies_after c =
    let so = c.loop-at.invariant in
    let rows = c.args.kept.now.rows in
    let times = c.args.kept.now.oldest in
    let end = c.end_of-at.ensures in
    let within : c.end_of-at.result ≤ length rows =
    omega (arith, end.within, ap length c.requires, length-map rows row_time) in
    let own = timed_row rows times c.loop-at.at no_time c.requires (omega (arith, end.some, end.within)) in
    let keeps = ap (λ l. lies_after c.args.least (get_or l c.loop-at.at no_time)) (sym c.oldest-times.ensures)
    ∙ sym c.lies_after.ensures ∙ c.if-lies_after.true in
    record {
      order = omega (arith, so.order, end.some);
      within = within;
      so_far = passed_all (keeps_least c.args.least) c.loop-at.rows c.args.rows.now rows c.loop-at.from c.loop-at.at
          c.end_of-at.result own.1.item so.order (omega (arith, end.some)) within
          (rows_keep c.args.least rows times c.loop-at.at c.end_of-at.result own.1.item c.requires end keeps) so.so_far;
    }

pub push_between-requires-clause-order : goal.push_between-requires-clause-order
push_between-requires-clause-order c = c.loop-at.invariant.order

pub push_between-requires-clause-within : goal.push_between-requires-clause-within
push_between-requires-clause-within c = c.loop-at.invariant.within

pub loop-at-preserved : goal.loop-at-preserved
loop-at-preserved c =
    let own = timed_row c.args.kept.now.rows c.oldest-times.result.now c.loop-at.at no_time
    (c.oldest-times.ensures ∙ c.requires) c.loop-at-test.true in
    record {
      order = omega arith;
      within = omega (arith, own.0);
      so_far = passed_none (keeps_least c.args.least) c.loop-at.rows c.push_between.new.rows c.args.rows.now
          c.args.kept.now.rows c.loop-at.from c.loop-at.at own.1.item own.0 own.1.is
          (ap (lies_after c.args.least) own.1.makes ∙ sym c.lies_after.ensures ∙ c.if-lies_after.false)
          c.in_ok-push_between.ensures c.loop-at.invariant.so_far;
    }

pub push_between-requires-2-clause-order : goal.push_between-requires-2-clause-order
push_between-requires-2-clause-order c = c.loop-at.invariant.order

pub push_between-requires-2-clause-within : goal.push_between-requires-2-clause-within
push_between-requires-2-clause-within c = c.loop-at.invariant.within

pub returns : goal.returns
returns c =
    let rows = c.args.kept.now.rows in
    let are = c.oldest-times.ensures ∙ c.requires in
    let all : take c.loop-at.at rows ≡ rows =
    take_all c.loop-at.at rows (omega (arith, c.loop-at-test.false, ap length are, length-map rows row_time)) in
    let whole : c.loop-at.rows ++ drop c.loop-at.from (take c.loop-at.at rows)
    ≡ c.args.rows.now ++ filter (keeps_least c.args.least) rows =
    c.loop-at.invariant.so_far ∙ ap (λ (l : List Row). c.args.rows.now ++ filter (keeps_least c.args.least) l) all in
    subst (λ (l : List Row). OnOk c.push_between-2.result (c.push_between-2.new.rows ≡ l)) whole
    c.push_between-2.ensures

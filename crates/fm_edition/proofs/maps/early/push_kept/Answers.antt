-- One more row, and one more least run.
use Rattle.std.proofs.Common.{◌+◌, ◌++◌, ℤ, List, drop, rules, refl, SFits, w64}
use Rattle.std.specs.List.{filter_map}
use Rattle.std.proofs.lemmas.Int.{to_z-of_z}
use Rattle.fm_model.specs.declared.loaded.Loaded.{Loaded}
use Rattle.fm_edition.specs.Indexes.{kept_row, oldest_runs, with_oldest, IsTimed}
use Rattle.fm_edition.proofs.WalkLemmas.{all_first, all_rest, mapped_taken, one_taken}
use Rattle.fm_edition.proofs.maps.early.push_kept.Goals as goal

pub push_best-requires : goal.push_best-requires
push_best-requires c =
    let a : SFits w64 c.entry-valid.result.0 = search rules in
    let page = c.args.page.now.entries in
    simp to_z-of_z (all_first IsTimed (c.entry-valid.result.0, c.entry-valid.result.1) (drop (c.loop-at.at + 1) page)
    (drop c.loop-at.at page) c.entry-valid.ensures c.loop-at.invariant.timed)

pub loop-at-preserved : goal.loop-at-preserved
loop-at-preserved c =
    let a : SFits w64 c.entry-valid.result.0 = search rules in
    let b : SFits w64 c.oldest-run.result = search rules in
    let page = c.args.page.now.entries in
    let here = drop c.loop-at.at page in
    let rest = drop (c.loop-at.at + 1) page in
    let entry : ℤ × List Loaded = (c.entry-valid.result.0, c.entry-valid.result.1) in
    let pushed = simp to_z-of_z at c.in_ok-push_best.ensures in
    let added = simp to_z-of_z at c.in_ok-push.ensures.ok in
    record {
      timed = all_rest IsTimed entry rest here c.entry-valid.ensures c.loop-at.invariant.timed;
      made = rw pushed (one_taken kept_row c.loop-at.rows (kept_row entry) entry rest here
          (c.args.rows.now ++ filter_map kept_row page) c.entry-valid.ensures c.loop-at.invariant.made refl);
      runs = rw (added, c.oldest-run.ensures) (mapped_taken with_oldest c.loop-at.oldest
          (c.args.oldest.now ++ oldest_runs page) entry rest here c.entry-valid.ensures c.loop-at.invariant.runs);
    }

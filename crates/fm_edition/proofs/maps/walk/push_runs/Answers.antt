-- One more run.
use Rattle.std.proofs.Common.{◌+◌, ◌++◌, drop, rules, SFits, w64}
use Rattle.std.specs.Prelude.{map}
use Rattle.std.proofs.lemmas.Int.{to_z-of_z}
use Rattle.fm_edition.specs.Latest.{entry_of}
use Rattle.fm_edition.proofs.WalkLemmas.{made_taken}
use Rattle.fm_edition.proofs.maps.walk.push_runs.Goals as goal

pub loop-at-preserved : goal.loop-at-preserved
loop-at-preserved c =
    let a : SFits w64 c.entry-run.result.0 = search rules in
    let page = c.args.page.now.entries in
    rw c.in_ok-push.ensures.ok (made_taken entry_of c.loop-at.runs (map entry_of c.args.runs.now ++ page) _
    (c.entry-run.result.0, c.entry-run.result.1) (drop (c.loop-at.at + 1) page) (drop c.loop-at.at page)
    c.entry-run.ensures c.loop-at.invariant (simp to_z-of_z))

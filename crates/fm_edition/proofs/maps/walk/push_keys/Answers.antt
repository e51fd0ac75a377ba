-- One more key.
use Rattle.std.proofs.Common.{◌+◌, ◌++◌, drop, rules, SFits, w64}
use Rattle.std.specs.Map.{keys_of}
use Rattle.std.proofs.lemmas.Int.{to_z-of_z}
use Rattle.fm_edition.proofs.WalkLemmas.{key_taken}
use Rattle.fm_edition.proofs.maps.walk.push_keys.Goals as goal

pub loop-at-preserved : goal.loop-at-preserved
loop-at-preserved c =
    let a : SFits w64 c.entry-key.result.0 = search rules in
    let page = c.args.page.now.entries in
    let pushed = simp to_z-of_z at c.in_ok-push.ensures.ok in
    rw pushed (key_taken c.loop-at.keys (c.args.keys.now ++ keys_of page) c.entry-key.result.0 c.entry-key.result.1
    (drop (c.loop-at.at + 1) page) (drop c.loop-at.at page) c.entry-key.ensures c.loop-at.invariant)

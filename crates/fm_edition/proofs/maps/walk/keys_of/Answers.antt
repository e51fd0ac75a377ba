-- One more page.
use Rattle.std.proofs.Common.{◌≡◌, ◌++◌, subst}
use Rattle.std.specs.Map.{keys_of}
use Rattle.fm_edition.specs.Indexes.{entries_in, entries_of}
use Rattle.fm_edition.proofs.WalkLemmas.{keys_taken}
use Rattle.fm_edition.proofs.maps.walk.keys_of.Goals as goal

pub loop-page-preserved : goal.loop-page-preserved
loop-page-preserved c =
    let all = keys_of (entries_of c.args.pages.now) in
    let page = c.in-Some.page.now.entries in
    let rest = c.next.new.self in
    let sum : c.loop-page.keys ++ keys_of (page ++ entries_in rest) ≡ all =
    subst (λ l. c.loop-page.keys ++ keys_of (entries_in l) ≡ all) c.in-Some.ensures.steps c.loop-page.invariant in
    rw (c.in_ok-push_keys.ensures, c.get.ensures) (keys_taken c.loop-page.keys all page (entries_in rest) sum)

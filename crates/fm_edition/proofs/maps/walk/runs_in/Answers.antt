-- One more page.
use Rattle.std.proofs.Common.{◌≡◌, ◌++◌, ◌∙◌, subst}
use Rattle.std.specs.Prelude.{map}
use Rattle.std.proofs.lemmas.List.{append_assoc}
use Rattle.fm_edition.specs.Indexes.{entries_in, entries_of}
use Rattle.fm_edition.specs.Latest.{entry_of}
use Rattle.fm_edition.proofs.maps.walk.runs_in.Goals as goal

pub loop-page-preserved : goal.loop-page-preserved
loop-page-preserved c =
    let page = c.in-Some.page.now.entries in
    let rest = entries_in c.next.new.self in
    let sum : map entry_of c.loop-page.runs ++ (page ++ rest) ≡ entries_of c.args.pages.now =
    subst (λ l. map entry_of c.loop-page.runs ++ entries_in l ≡ entries_of c.args.pages.now) c.in-Some.ensures.steps
    c.loop-page.invariant in
    rw (c.in_ok-push_runs.ensures, c.get.ensures) (append_assoc (map entry_of c.loop-page.runs) page rest ∙ sum)

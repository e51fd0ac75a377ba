-- One more page's rows.
use Rattle.std.proofs.Common.{◌≡◌, ◌++◌, ◌∙◌, refl, subst}
use Rattle.std.proofs.lemmas.List.{append_assoc}
use Rattle.fm_edition.specs.Indexes.{kept_rows}
use Rattle.fm_edition.proofs.maps.best.kept_rows.Goals as goal

pub loop-kept-init : goal.loop-kept-init
loop-kept-init c =
    let is : c.into_iter-kept-iterator.result ≡ c.args.best.now.entries =
    c.into_iter-kept-iterator.ensures.into_iter_gives.0 in
    rw (is, c.new-rows.ensures) refl

pub loop-kept-preserved : goal.loop-kept-preserved
loop-kept-preserved c =
    let page = c.in-Some.kept.now.rows in
    let rest = kept_rows c.next.new.self in
    let sum : c.loop-kept.rows ++ (page ++ rest) ≡ kept_rows c.args.best.now.entries =
    subst (λ l. c.loop-kept.rows ++ kept_rows l ≡ kept_rows c.args.best.now.entries) c.in-Some.ensures.steps
    c.loop-kept.invariant in
    rw (c.in_ok-push.ensures.ok, c.in_ok-share.ensures, c.get.ensures)
    (append_assoc c.loop-kept.rows page rest ∙ sum)

-- One more page's rows keep the least offset.
use Rattle.std.proofs.Common.{◌≡◌, subst, sym, true}
use Rattle.std.proofs.lemmas.List.Elements.{All-append}
use Rattle.fm_model.specs.declared.row.Row.{Row}
use Rattle.fm_edition.specs.Indexes.{kept_rows}
use Rattle.fm_edition.specs.Kept.{KeptRows}
use Rattle.fm_edition.specs.Least.{keeps_least, KeepLeast}
use Rattle.fm_edition.proofs.maps.best.all_keep.Goals as goal

pub loop-kept-init : goal.loop-kept-init
loop-kept-init c =
    let is : c.into_iter-kept-iterator.result ≡ c.args.best.now.entries =
    c.into_iter-kept-iterator.ensures.into_iter_gives.0 in
    λ keep. subst (λ l. KeepLeast c.args.least (kept_rows l)) is keep

pub loop-kept-preserved : goal.loop-kept-preserved
loop-kept-preserved c = λ keep.
    let own = subst (λ (kept : KeptRows). KeepLeast c.args.least kept.rows) c.get.ensures
    (c.keeps.ensures c.if-not-keeps.false) in
    let all = All-append (λ (row : Row). keeps_least c.args.least row ≡ true) c.in-Some.kept.now.rows
    (kept_rows c.next.new.self) own keep in
    c.loop-kept.invariant (subst (λ l. KeepLeast c.args.least (kept_rows l)) (sym c.in-Some.ensures.steps) all)

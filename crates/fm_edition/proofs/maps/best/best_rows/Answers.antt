-- Where the kept rows keep the least offset, they are the rows.
use Rattle.std.proofs.Common.{◌≡◌, IfOk, List, subst, ◌∙◌}
use Rattle.fm_model.specs.declared.row.Row.{Row}
use Rattle.fm_edition.specs.Indexes.{entries_of}
use Rattle.fm_edition.specs.Least.{KeepLeast}
use Rattle.fm_edition.proofs.BestLemmas.{kept-from_pages}
use Rattle.fm_edition.proofs.LeastLemmas.{from_kept}
use Rattle.fm_edition.proofs.maps.best.best_rows.Goals as goal

pub returns-then-all_keep : goal.returns-then-all_keep
returns-then-all_keep c =
    let best = c.args.best.now in
    let kept = kept-from_pages c.args.pages.now best.pages c.requires.files.times.ordered c.requires.best.paged in
    let same = from_kept c.args.least (entries_of c.args.pages.now)
    (subst (KeepLeast c.args.least) kept (c.all_keep.ensures c.if-all_keep.true)) in
    subst (λ (rows : List Row). IfOk c.share.result (λ made. made ≡ rows)) (c.requires.best.whole ∙ kept ∙ same)
    c.share.ensures

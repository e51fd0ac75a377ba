-- Kept rows that keep the least offset are as many as those with it; so are the valid times that lie that far after the
-- least run of their files.
use Rattle.std.proofs.Common.{length, ap, ◌∙◌, subst}
use Rattle.std.specs.Prelude.{filter}
use Rattle.fm_edition.specs.Kept.{KeptRows}
use Rattle.fm_edition.specs.Least.{lies_after, KeepLeast}
use Rattle.fm_edition.proofs.EarlyLemmas.{count-early}
use Rattle.fm_edition.proofs.LeastLemmas.{from_kept}
use Rattle.fm_edition.proofs.maps.best.count_from.Goals as goal

pub returns-then-keeps : goal.returns-then-keeps
returns-then-keeps c = λ page is timed.
    let rows_are = ap (λ (kept : KeptRows). kept.rows) is in
    let same = from_kept c.args.least page.entries
    (subst (KeepLeast c.args.least) rows_are (c.keeps.ensures c.if-keeps.true)) in
    c.len.ensures ∙ ap length (rows_are ∙ same)

pub returns : goal.returns
returns c = λ page is timed.
    c.count_early.ensures
    ∙ ap (λ (kept : KeptRows). length (filter (lies_after c.args.least) kept.oldest)) is
    ∙ count-early c.args.least page.entries timed

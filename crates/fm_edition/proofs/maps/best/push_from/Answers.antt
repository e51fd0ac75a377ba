-- Kept rows that keep the least offset are those with it; so are those of them that do, where each valid time is that
-- of one file.
use Rattle.std.proofs.Common.{OnOk, ◌≡◌, ◌++◌, List, ap, sym, ◌∙◌, subst}
use Rattle.std.specs.Prelude.{filter}
use Rattle.std.specs.List.{filter_map}
use Rattle.fm_model.specs.declared.row.Row.{Row}
use Rattle.fm_edition.specs.Indexes.{best_of_entry}
use Rattle.fm_edition.specs.Kept.{KeptRows}
use Rattle.fm_edition.specs.Least.{keeps_least, KeepLeast}
use Rattle.fm_edition.proofs.AloneLemmas.{from_alone, times_alone}
use Rattle.fm_edition.proofs.LeastLemmas.{from_kept}
use Rattle.fm_edition.proofs.maps.best.push_from.Goals as goal

pub returns-then-keeps-clause-made : goal.returns-then-keeps-clause-made
returns-then-keeps-clause-made c =
    let rows_are = ap (λ (kept : KeptRows). kept.rows) c.requires.kept in
    let same = from_kept c.args.least c.args.page.now.entries
    (subst (KeepLeast c.args.least) rows_are (c.keeps.ensures c.if-keeps.true)) in
    subst (λ (rows : List Row). OnOk c.push.result (c.push.new.self ≡ c.args.rows.now ++ rows))
    (c.in_ok-share.ensures ∙ rows_are ∙ same) c.push.ensures.ok

pub returns-then-is_alone-clause-made : goal.returns-then-is_alone-clause-made
returns-then-is_alone-clause-made c =
    let rows_are = ap (λ (kept : KeptRows). kept.rows) c.requires.kept in
    let alone = ap (λ (kept : KeptRows). kept.alone) (sym c.requires.kept) ∙ sym c.is_alone.ensures
    ∙ c.if-is_alone.true in
    subst (λ (rows : List Row). OnOk c.push_keeping.result (c.push_keeping.new.rows ≡ c.args.rows.now ++ rows))
    (ap (filter (keeps_least c.args.least)) rows_are ∙ from_alone c.args.least c.args.page.now alone)
    c.push_keeping.ensures

pub push_keeping-requires : goal.push_keeping-requires
push_keeping-requires c =
    let alone = ap (λ (kept : KeptRows). kept.alone) (sym c.requires.kept) ∙ sym c.is_alone.ensures
    ∙ c.if-is_alone.true in
    rw c.requires.kept (times_alone c.args.page.now.entries c.requires.timed alone)

pub push_early-requires-clause-oldest : goal.push_early-requires-clause-oldest
push_early-requires-clause-oldest c = c.oldest.ensures ∙ ap (λ (kept : KeptRows). kept.oldest) c.requires.kept

pub returns-clause-made : goal.returns-clause-made
returns-clause-made c =
    let own = filter_map (best_of_entry c.args.least) c.args.page.now.entries in
    subst (λ (rows : List Row). OnOk c.push-2.result (c.push-2.new.self ≡ c.args.rows.now ++ rows))
    (c.in_ok-new.ensures ∙ c.in_ok-push_early.ensures.made ∙ ap (λ l. l ++ own) c.in_ok-items.ensures.items)
    c.push-2.ensures.ok

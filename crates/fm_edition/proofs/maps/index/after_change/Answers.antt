-- The added file is found by its own instants.
use Rattle.std.proofs.Common.{ap, subst, sym, ◌∙◌}
use Rattle.fm_list.specs.Selected.{AreOwn}
use Rattle.fm_edition.specs.Indexes.{instants}
use Rattle.fm_edition.proofs.KeyLemmas.{AreOwn-instants}
use Rattle.fm_edition.proofs.maps.index.after_change.Goals as goal

pub pages_after-requires-clause-own : goal.pages_after-requires-clause-own
pages_after-requires-clause-own c = subst (AreOwn c.args.by c.args.exchange.now.op.now)
    (sym (c.as_slice.ensures ∙ c.in_ok-own.ensures ∙ ap (instants c.args.by) c.requires.added))
    (AreOwn-instants c.args.by c.args.exchange.now.op.now)

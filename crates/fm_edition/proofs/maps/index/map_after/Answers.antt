-- The instants that are touched are those of the files.
use Rattle.std.proofs.Common.{subst, sym, ◌∙◌}
use Rattle.fm_model.specs.Rising.{Rises}
use Rattle.fm_edition.proofs.KeyLemmas.{Rises-instants}
use Rattle.fm_edition.proofs.maps.index.map_after.Goals as goal

pub after_change-requires-clause-rise : goal.after_change-requires-clause-rise
after_change-requires-clause-rise c = subst Rises (sym (c.as_slice.ensures ∙ c.in_ok-touched.ensures))
    (Rises-instants c.args.by c.args.changed.now)

pub returns : goal.returns
returns c = rw (← (c.as_slice.ensures ∙ c.in_ok-touched.ensures)) c.after_change.ensures

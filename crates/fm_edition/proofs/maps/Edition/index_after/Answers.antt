-- What goes and what comes are the files that change.
use Rattle.std.proofs.Common.{◌≡◌, ◌++◌, ap, arith, length, take, ◌∙◌}
use Rattle.std.proofs.lemmas.List.{length-append, take_all, take-append-le}
use Rattle.fm_list.specs.Change.{added, changed}
use Rattle.fm_edition.proofs.maps.Edition.index_after.Goals as goal

pub split_at-requires : goal.split_at-requires
split_at-requires c =
    let all = ap length (c.as_slice.ensures ∙ c.in_ok-changed.ensures) in
    omega (arith, all, length-append c.args.gone (added c.args.op.now), c.len-count.ensures)

pub maps_after-requires-clause-went : goal.maps_after-requires-clause-went
maps_after-requires-clause-went c =
    let more = added c.args.op.now in
    let count : c.len-count.result ≡ length c.args.gone = c.len-count.ensures in
    c.split_at.ensures.front
    ∙ ap (take c.len-count.result) (c.as_slice.ensures ∙ c.in_ok-changed.ensures)
    ∙ take-append-le c.len-count.result c.args.gone more (omega (arith, count))
    ∙ take_all c.len-count.result c.args.gone (omega (arith, count)) ∙ c.requires.gone

pub maps_after-requires-clause-changed : goal.maps_after-requires-clause-changed
unfolding changed
maps_after-requires-clause-changed c = c.as_slice-2.ensures ∙ c.in_ok-changed.ensures
    ∙ ap (λ l. l ++ added c.args.op.now) c.requires.gone

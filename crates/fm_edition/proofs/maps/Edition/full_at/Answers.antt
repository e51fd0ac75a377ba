-- What a put takes out stands near its name.
use Rattle.std.proofs.Common.{ap, ◌∙◌}
use Rattle.fm_model.specs.declared.full.Tally.{Tally}
use Rattle.fm_model.specs.Collection.{full_at, full_of, tally}
use Rattle.fm_list.specs.Change.{gone}
use Rattle.fm_edition.specs.Amounts.{less, with_added}
use Rattle.fm_edition.specs.Held.{Held}
use Rattle.fm_edition.proofs.TallyLemmas.{full-near, IsPartOf-near}
use Rattle.fm_edition.proofs.maps.Edition.full_at.Goals as goal

pub full_after-requires-clause-held : goal.full_after-requires-clause-held
full_after-requires-clause-held c = rw c.self.invariant.counted c.self.invariant.sound.within

pub full_after-requires-clause-part : goal.full_after-requires-clause-part
full_after-requires-clause-part c = rw c.self.invariant.counted
    (IsPartOf-near c.self.inside.files c.near.result c.args.op.now
    (c.near.ensures c.self.inside.files c.self.invariant.maps.of_names))

pub returns : goal.returns
returns c =
    let op = c.args.op.now in
    let files = c.self.inside.files in
    let near = c.near.result in
    c.full_after.ensures
    ∙ ap (λ (t : Tally). full_of (with_added op (less t (tally (gone near op))))) c.self.invariant.counted
    ∙ full-near files near op c.self.invariant.sound.within (c.near.ensures files c.self.invariant.maps.of_names)
    ∙ ap (λ (h : Held). full_at h.files op) c.self.view_is

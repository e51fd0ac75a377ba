-- What an operation leaves is an edition where it can be done.
use Rattle.std.proofs.Common.{◌≡◌, sym, ap, subst, ◌∙◌}
use Rattle.fm_model.specs.declared.full.Tally.{Tally}
use Rattle.fm_model.specs.Collection.{after_op, tally, IsWithin}
use Rattle.fm_model.proofs.FullLemmas.{full_at-none}
use Rattle.fm_list.specs.Change.{gone}
use Rattle.fm_edition.specs.Amounts.{less, with_added}
use Rattle.fm_edition.specs.Held.{Held}
use Rattle.fm_edition.specs.Indexes.{AreMaps}
use Rattle.fm_edition.specs.Log.{CanFollow}
use Rattle.fm_edition.proofs.GoneLemmas.{gone-gone}
use Rattle.fm_edition.proofs.IndexLemmas.{IsIndexed-after}
use Rattle.fm_edition.proofs.TallyLemmas.{tally-after, IsPartOf-gone}
use Rattle.fm_edition.proofs.maps.Edition.follow.Goals as goal

pub tally_after-tally-requires-clause-held : goal.tally_after-tally-requires-clause-held
tally_after-tally-requires-clause-held c = rw c.self.invariant.counted c.self.invariant.sound.within

pub tally_after-tally-requires-clause-part : goal.tally_after-tally-requires-clause-part
tally_after-tally-requires-clause-part c =
    let op = c.args.op.now in
    let files = c.self.inside.files in
    let gone_is : c.of.result ≡ gone files op = (c.of.ensures ∙ c.as_slice.ensures)
    ∙ subst (λ (h : Held). c.args.gone ≡ gone h.files op) (sym c.self.view_is) c.requires.gone in
    rw (c.self.invariant.counted, gone_is, gone-gone files op) (IsPartOf-gone files op)

pub tally_after-tally-requires-clause-within : goal.tally_after-tally-requires-clause-within
tally_after-tally-requires-clause-within c =
    let op = c.args.op.now in
    let files = c.self.inside.files in
    let gone_is : c.of.result ≡ gone files op = (c.of.ensures ∙ c.as_slice.ensures)
    ∙ subst (λ (h : Held). c.args.gone ≡ gone h.files op) (sym c.self.view_is) c.requires.gone in
    let can = subst (λ (h : Held). CanFollow h.proto h.files op) (sym c.self.view_is) c.requires.can in
    let within : IsWithin (with_added op (less (tally files) (tally (gone files op)))) =
    subst IsWithin (tally-after files op) ((full_at-none files op).0 can.within) in
    rw (c.self.invariant.counted, gone_is, gone-gone files op) within

pub after-requires : goal.after-requires
after-requires c = c.as_slice-2.ensures ∙ subst (λ (h : Held). c.args.gone ≡ gone h.files c.args.op.now)
    (sym c.self.view_is) c.requires.gone

pub invariant_of-result : goal.invariant_of-result
invariant_of-result c =
    let op = c.args.op.now in
    let held : Held = record { proto = c.self.inside.proto; files = c.self.inside.files } in
    let can : CanFollow held.proto held.files op = subst (λ (h : Held). CanFollow h.proto h.files op)
    (sym c.self.view_is) c.requires.can in
    let gone_is : c.of.result ≡ gone held.files op = (c.of.ensures ∙ c.as_slice.ensures)
    ∙ subst (λ (h : Held). c.args.gone ≡ gone h.files op) (sym c.self.view_is) c.requires.gone in
    let count : c.tally_after-tally.result ≡ tally (after_op held.files op) = c.tally_after-tally.ensures
    ∙ ap (λ (t : Tally). with_added op (less t (tally (gone c.of.result op)))) c.self.invariant.counted
    ∙ ap (λ l. with_added op (less (tally held.files) (tally (gone l op)))) gone_is
    ∙ ap (λ l. with_added op (less (tally held.files) (tally l))) (gone-gone held.files op)
    ∙ sym (tally-after held.files op) in
    let maps = subst (λ (h : Held). AreMaps (after_op h.files op) c.in_ok-index.index) (sym c.self.view_is)
    c.in_ok-index.ensures in
    rw (c.in_ok-proto.ensures, c.in_ok-files.ensures)
    (IsIndexed-after held op c.self.inside.tally c.tally_after-tally.result c.self.inside.index c.in_ok-index.index
    c.self.invariant can count maps)

-- What a put or a retraction takes out stands near its name.
use Rattle.std.proofs.Common.{◌≡◌, ap, subst, ◌∙◌}
use Rattle.std.specs.Prelude.{IfOk}
use Rattle.fm_list.specs.Change.{gone}
use Rattle.fm_edition.specs.Held.{Held}
use Rattle.fm_edition.proofs.NameLemmas.{gone-near_put, gone-near_retract}
use Rattle.fm_edition.proofs.maps.Edition.gone.Goals as goal

pub returns-in-Put : goal.returns-in-Put
returns-in-Put c =
    let near = c.near.ensures c.self.inside.files c.self.invariant.maps.of_names in
    subst (λ l. IfOk c.gone.result (λ g. g ≡ l))
    (gone-near_put c.self.inside.files c.near.result c.args.op.now _ c.in-Put.is near
    ∙ ap (λ (h : Held). gone h.files c.args.op.now) c.self.view_is) c.gone.ensures

pub returns-in-Retract : goal.returns-in-Retract
returns-in-Retract c =
    let near = c.near-in-Retract.ensures c.self.inside.files c.self.invariant.maps.of_names in
    subst (λ l. IfOk c.gone-in-Retract.result (λ g. g ≡ l))
    (gone-near_retract c.self.inside.files c.near-in-Retract.result c.args.op.now _ c.in-Retract.is near
    ∙ ap (λ (h : Held). gone h.files c.args.op.now) c.self.view_is) c.gone-in-Retract.ensures

pub returns-in-Expire : goal.returns-in-Expire
returns-in-Expire c =
    subst (λ l. IfOk c.gone-in-Expire.result (λ g. g ≡ l))
    (ap (λ l. gone l c.args.op.now) c.all.ensures ∙ ap (λ (h : Held). gone h.files c.args.op.now) c.self.view_is)
    c.gone-in-Expire.ensures

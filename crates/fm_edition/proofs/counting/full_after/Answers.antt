-- Only a put may pass a limit.
use Rattle.std.proofs.Common.{◌≡◌, ◌≤◌, None, sym, ap, subst, ◌∙◌, arith}
use Rattle.fm_model.specs.declared.full.Tally.{Tally}
use Rattle.fm_model.specs.declared.full.Which.TheVariants.{Size}
use Rattle.fm_model.specs.declared.limit.TheConstants.{MAX_BYTES}
use Rattle.fm_model.specs.declared.loaded.Loaded.{Loaded}
use Rattle.fm_model.specs.declared.op.Op.TheVariants.{Put}
use Rattle.fm_model.specs.Collection.{full_of, tally}
use Rattle.fm_list.specs.Change.{gone}
use Rattle.fm_edition.specs.Amounts.{less, with_added}
use Rattle.fm_edition.proofs.TallyLemmas.{full_of-within, less_within}
use Rattle.fm_edition.proofs.counting.full_after.Goals as goal

pub full_with-requires : goal.full_with-requires
full_with-requires c = let most : c.args.held.size ≤ MAX_BYTES = c.requires.held Size in rw c.left_of-left.ensures
    (omega (arith, most))

pub returns-in-Put : goal.returns-in-Put
returns-in-Put c =
    let part = tally (gone c.args.near.now c.args.op.now) in
    subst (λ o. c.full_with.result ≡ full_of (with_added o (less c.args.held part))) (sym c.in-Put.is)
    (c.full_with.ensures ∙ ap (λ (f : Loaded). full_of (with_added (Put f) c.left_of-left.result)) c.get.ensures
    ∙ ap (λ (t : Tally). full_of (with_added (Put c.in-Put.file) t)) c.left_of-left.ensures)

pub returns-in-Expire : goal.returns-in-Expire
returns-in-Expire c =
    let part = tally (gone c.args.near.now c.args.op.now) in
    subst (λ o. None ≡ full_of (with_added o (less c.args.held part))) (sym c.in-Expire.is)
    (sym (full_of-within (less c.args.held part) (less_within c.args.held part c.requires.held)))

pub returns-in-Retract : goal.returns-in-Retract
returns-in-Retract c =
    let part = tally (gone c.args.near.now c.args.op.now) in
    subst (λ o. None ≡ full_of (with_added o (less c.args.held part))) (sym c.in-Retract.is)
    (sym (full_of-within (less c.args.held part) (less_within c.args.held part c.requires.held)))

-- The sums are within the limits.
use Rattle.std.proofs.Common.{◌≡◌, sym, ap, subst, ◌∙◌}
use Rattle.fm_model.specs.declared.full.Tally.{Tally}
use Rattle.fm_model.specs.declared.loaded.Loaded.{Loaded}
use Rattle.fm_model.specs.declared.op.Op.TheVariants.{Put}
use Rattle.fm_model.specs.Collection.{tally}
use Rattle.fm_list.specs.Change.{gone}
use Rattle.fm_edition.specs.Amounts.{less, with_added}
use Rattle.fm_edition.proofs.TallyLemmas.{HasRoom-put}
use Rattle.fm_edition.proofs.counting.tally_after.Goals as goal

pub with_file-requires-clause-files : goal.with_file-requires-clause-files
with_file-requires-clause-files c =
    let op = c.args.op.now in
    let room = HasRoom-put c.in-Put.file op (less c.args.held (tally (gone c.args.near.now op))) c.in-Put.is
    c.requires.within in
    rw c.left_of-left.ensures room.files

pub with_file-requires-clause-rows : goal.with_file-requires-clause-rows
with_file-requires-clause-rows c =
    let op = c.args.op.now in
    let room = HasRoom-put c.in-Put.file op (less c.args.held (tally (gone c.args.near.now op))) c.in-Put.is
    c.requires.within in
    rw (c.left_of-left.ensures, c.get.ensures) room.rows

pub with_file-requires-clause-size : goal.with_file-requires-clause-size
with_file-requires-clause-size c =
    let op = c.args.op.now in
    let room = HasRoom-put c.in-Put.file op (less c.args.held (tally (gone c.args.near.now op))) c.in-Put.is
    c.requires.within in
    rw (c.left_of-left.ensures, c.get.ensures) room.size

pub returns-in-Put : goal.returns-in-Put
returns-in-Put c =
    let left = less c.args.held (tally (gone c.args.near.now c.args.op.now)) in
    subst (λ o. c.with_file.result ≡ with_added o left) (sym c.in-Put.is)
    (c.with_file.ensures ∙ ap (λ (f : Loaded). with_added (Put f) c.left_of-left.result) c.get.ensures
    ∙ ap (λ (t : Tally). with_added (Put c.in-Put.file) t) c.left_of-left.ensures)

pub returns-in-Expire : goal.returns-in-Expire
returns-in-Expire c =
    let left = less c.args.held (tally (gone c.args.near.now c.args.op.now)) in
    subst (λ o. c.left_of-left.result ≡ with_added o left) (sym c.in-Expire.is) c.left_of-left.ensures

pub returns-in-Retract : goal.returns-in-Retract
returns-in-Retract c =
    let left = less c.args.held (tally (gone c.args.near.now c.args.op.now)) in
    subst (λ o. c.left_of-left.result ≡ with_added o left) (sym c.in-Retract.is) c.left_of-left.ensures

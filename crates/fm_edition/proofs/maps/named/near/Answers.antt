-- The files of the name's code have what goes.
use Rattle.std.proofs.Common.{ap, sym, subst, ◌∙◌}
use Rattle.fm_model.specs.declared.loaded.Loaded.{Loaded}
use Rattle.fm_model.specs.declared.op.Op.TheVariants.{Put, Retract}
use Rattle.fm_list.specs.declared.by.By.TheVariants.{Name}
use Rattle.fm_list.specs.Change.{gone}
use Rattle.fm_list.specs.Code.{code_of}
use Rattle.fm_list.specs.Selected.{part}
use Rattle.fm_edition.specs.Pieces.{IsNear}
use Rattle.fm_edition.proofs.NameLemmas.{gone-put, gone-retract}
use Rattle.fm_edition.proofs.maps.named.near.Goals as goal

pub returns-in-Put : goal.returns-in-Put
returns-in-Put c files are =
    let file = c.in-Put.file in
    let name_is = c.as_slice.ensures ∙ ap (λ (f : Loaded). f.name) c.get.ensures in
    subst (λ o. IsNear files o c.files_named.result) (sym c.in-Put.is)
    (ap (λ l. gone l (Put file)) (c.files_named.ensures files are ∙ ap (λ n. part Name files (code_of n)) name_is)
    ∙ gone-put files file)

pub returns-in-Expire : goal.returns-in-Expire
returns-in-Expire c files are = rw c.in-Expire.is c.of.ensures

pub returns-in-Retract : goal.returns-in-Retract
returns-in-Retract c files are =
    let name = c.in-Retract.name in
    subst (λ o. IsNear files o c.files_named-in-Retract.result) (sym c.in-Retract.is)
    (ap (λ l. gone l (Retract name)) (c.files_named-in-Retract.ensures files are
    ∙ ap (λ n. part Name files (code_of n)) c.as_slice-in-Retract.ensures) ∙ gone-retract files name)

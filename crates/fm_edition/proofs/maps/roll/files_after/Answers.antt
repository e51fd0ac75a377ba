-- What an operation leaves, and what it adds.
use Rattle.std.proofs.Common.{◌≡◌, ◌++◌, sym, ap, subst, ◌∙◌}
use Rattle.std.specs.Prelude.{IfOk}
use Rattle.fm_model.specs.Collection.{after_op}
use Rattle.fm_list.specs.Change.{added}
use Rattle.fm_edition.proofs.ChangeLemmas.{after_op-is}
use Rattle.fm_edition.proofs.maps.roll.files_after.Goals as goal

pub returns : goal.returns
returns c =
    let files = c.args.files.now in
    let op = c.args.op.now in
    let all : c.in_ok-kept.field-0 ++ added op ≡ after_op files op =
    ap (λ l. l ++ added op) c.in_ok-kept.ensures ∙ sym (after_op-is files op) in
    subst (λ l. IfOk c.changed.result (λ next. next ≡ l)) all c.changed.ensures

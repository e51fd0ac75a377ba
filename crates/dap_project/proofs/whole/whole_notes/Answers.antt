-- A note for one declaration more.
use Rattle.std.proofs.Common.{◌++◌, ◌∷◌, [], List, ap, ap₂, length, ◌∙◌, arith}
use Rattle.std.proofs.lemmas.List.{length-append}
use Rattle.dap_project.specs.Full.{full_notes}
use Rattle.dap_project.specs.Notes.{note_for}
use Rattle.dap_project.specs.declared.note.Note.{Note}
use Rattle.dap_project.proofs.FullLemmas.{push-full_notes}
use Rattle.dap_project.proofs.IndexLemmas.{map_up_to}
use Rattle.dap_project.proofs.whole.whole_notes.Goals as goal

pub loop-decl-preserved : goal.loop-decl-preserved
loop-decl-preserved c =
    let decls = c.args.decls.now in
    let at = c.loop-decl.decl-index in
    let decl = c.decl-item.result in
    let note = c.in_ok-whole_note.field-0 in (
      ap (full_notes decls) c.in_ok-push.ensures.ok
          ∙ push-full_notes decls c.loop-decl.notes at decl note c.loop-decl-test.true c.loop-decl.invariant.1
          c.decl-item.is
          ∙ ap₂ (λ (l : List Note) (n : Note). l ++ n ∷ []) c.loop-decl.invariant.0 c.in_ok-whole_note.ensures
          ∙ map_up_to (note_for []) decls at decl c.loop-decl-test.true c.decl-item.is,
      omega (
        arith,
        c.loop-decl.invariant.1,
        ap length c.in_ok-push.ensures.ok,
        length-append c.loop-decl.notes (note ∷ []),
      ),
    )

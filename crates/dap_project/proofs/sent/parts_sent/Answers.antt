-- The parts of a declaration more are sent; after the last note nothing is left.
use Rattle.std.proofs.Common.{◌≡◌, ℕ, ◌<◌, ◌+◌, ◌++◌, List, ap, ap₂, arith, drop, length, sym, ◌∙◌}
use Rattle.dap_model.specs.declared.projection.Sent.{Sent}
use Rattle.dap_project.specs.Full.{full_note, full_notes, full_slots}
use Rattle.dap_project.specs.Noted.{noted_sent, sent_slots}
use Rattle.dap_project.specs.declared.note.Note.{Note}
use Rattle.dap_project.specs.declared.slot.Slot.{Slot}
use Rattle.dap_project.proofs.FullLemmas.{length-full_notes, note_there}
use Rattle.dap_project.proofs.StepLemmas.{noted_end, noted_step}
use Rattle.dap_project.proofs.sent.parts_sent.Goals as goal

pub loop-at-preserved : goal.loop-at-preserved
loop-at-preserved c =
    let at = c.loop-at.at in
    let decls = c.args.decls.now in
    let notes = c.args.notes.now in
    let decl = c.index-decls-at.result in
    let note = c.index-notes-at.result in
    let within : at < length decls = omega (arith, c.loop-at-test.true, c.requires) in
    let there : at < length (full_notes decls notes) =
    omega (arith, c.loop-at-test.true, length-full_notes decls notes) in
    let index_is : c.in-Ok.index ≡ at = omega (arith, c.in-Ok.ensures) in
    ap (λ (l : List Sent). l ++ noted_sent (at + 1) (drop (at + 1) (full_notes decls notes)))
    (c.in_ok-add_parts.ensures
    ∙ ap₂ (λ (n : ℕ) (l : List Slot). c.loop-at.sent ++ sent_slots n 0 (full_slots decl l)) index_is
    (c.as_slice.ensures ∙ ap (λ (n : Note). n.slots) (sym c.index-notes-at.is)))
    ∙ sym (noted_step c.loop-at.sent at (full_notes decls notes) (full_note decl note) there
    (note_there decls notes at decl note (full_note decl note) within c.loop-at-test.true c.index-decls-at.is
    c.index-notes-at.is))
    ∙ c.loop-at.invariant

pub returns : goal.returns
returns c =
    let decls = c.args.decls.now in
    let notes = c.args.notes.now in
    noted_end _ _ c.loop-at.at (full_notes decls notes)
    (omega (arith, c.loop-at-test.false, length-full_notes decls notes)) c.loop-at.invariant

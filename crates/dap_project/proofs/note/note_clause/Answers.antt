-- The note at the index is noted. Where the clause was checked on it, it is as it was then.
use Rattle.std.proofs.Common.{rules, ◌≡◌, ℕ, ◌<◌, ◌+◌, List, ap, arith, drop, get_or, length, subst, sym, ◌∙◌}
use Rattle.std.proofs.lemmas.Bool.{eqb-true}
use Rattle.dap_model.specs.Picking.{picked_by}
use Rattle.dap_project.specs.Checks.{Agrees}
use Rattle.dap_project.specs.Full.{full_note, full_notes}
use Rattle.dap_project.specs.Notes.{note_after}
use Rattle.dap_project.specs.declared.note.Note.{Note}
use Rattle.dap_project.proofs.BucketLemmas.{AreNoted, all_noted, as_before, first_noted, next, noted_here}
use Rattle.dap_project.proofs.FullLemmas.{length-full_notes, note_there, set-full_notes}
use Rattle.dap_project.proofs.note.note_clause.Goals as goal

pub loop-at-init : goal.loop-at-init
loop-at-init c = first_noted c.args.decls.now c.args.clause.now c.args.indices.now
    (full_notes c.args.decls.now c.args.notes.now) c.requires.indices
    (length-full_notes c.args.decls.now c.args.notes.now ∙ c.requires.count)

pub bounds-notes-at : goal.bounds-notes-at
bounds-notes-at c =
    let so_far = c.loop-at.invariant in
    let here = next c.args.decls.now c.args.clause.now.path c.args.indices.now c.loop-at.at-index 0 so_far.from
    c.loop-at-test.true so_far.left in
    omega (arith, here.within, so_far.count, length-full_notes c.args.decls.now c.loop-at.notes)

pub offset_bounds-notes-at : goal.offset_bounds-notes-at
offset_bounds-notes-at c =
    let so_far = c.loop-at.invariant in
    let here = next c.args.decls.now c.args.clause.now.path c.args.indices.now c.loop-at.at-index 0 so_far.from
    c.loop-at-test.true so_far.left in
    let within : get_or c.args.indices.now c.loop-at.at-index 0 < length c.loop-at.notes =
    omega (arith, here.within, so_far.count, length-full_notes c.args.decls.now c.loop-at.notes) in
    search rules

pub bounds-decls-at : goal.bounds-decls-at
bounds-decls-at c =
    let so_far = c.loop-at.invariant in
    (next c.args.decls.now c.args.clause.now.path c.args.indices.now c.loop-at.at-index 0 so_far.from
    c.loop-at-test.true so_far.left).within

pub offset_bounds-decls-at : goal.offset_bounds-decls-at
offset_bounds-decls-at c =
    let so_far = c.loop-at.invariant in
    let within : get_or c.args.indices.now c.loop-at.at-index 0 < length c.args.decls.now =
    (next c.args.decls.now c.args.clause.now.path c.args.indices.now c.loop-at.at-index 0 so_far.from
    c.loop-at-test.true so_far.left).within in
    search rules

pub loop-at-preserved : goal.loop-at-preserved
loop-at-preserved c =
    let decls = c.args.decls.now in
    let clause = c.args.clause.now in
    let indices = c.args.indices.now in
    let notes = c.loop-at.notes in
    let at = c.loop-at.at-index in
    let decl = c.index-decls-at.result in
    let note = c.index-notes-at.result in
    let new = c.add.new.self in
    let so_far = c.loop-at.invariant in
    let within = (next decls clause.path indices at 0 so_far.from c.loop-at-test.true so_far.left).within in
    let there : get_or indices at 0 < length notes =
    omega (arith, within, so_far.count, length-full_notes decls notes) in
    subst (λ (l : List Note). AreNoted decls clause (drop (at + 1) indices) l (full_notes decls c.args.notes.now))
    (set-full_notes decls notes (get_or indices at 0) decl new within there c.index-decls-at.is)
    (noted_here decls clause indices (full_notes decls notes) (full_notes decls c.args.notes.now) at 0 decl
    (full_note decl note) (full_note decl new) c.loop-at-test.true so_far c.index-decls-at.is
    (note_there decls notes (get_or indices at 0) decl note (full_note decl note) within there c.index-decls-at.is
    c.index-notes-at.is)
    (c.in_ok-add.ensures
    ∙ ap (λ (old : Note). note_after decl clause (full_note decl old)) (sym c.index-notes-at.is)))

pub returns : goal.returns
returns c =
    all_noted c.args.decls.now c.args.clause.now c.args.indices.now (full_notes c.args.decls.now c.loop-at.notes)
    (full_notes c.args.decls.now c.args.notes.now) c.loop-at.at-index (omega (arith, c.loop-at-test.false))
    c.loop-at.invariant

pub add-requires-clause-agrees : goal.add-requires-clause-agrees
add-requires-clause-agrees c = λ agrees.
    let decls = c.args.decls.now in
    let clause = c.args.clause.now in
    let indices = c.args.indices.now in
    let notes = c.loop-at.notes in
    let at = c.loop-at.at-index in
    let index = get_or indices at 0 in
    let decl = c.index-decls-at.result in
    let note = c.index-notes-at.result in
    let so_far = c.loop-at.invariant in
    let within = (next decls clause.path indices at 0 so_far.from c.loop-at-test.true so_far.left).within in
    let there : index < length notes = omega (arith, within, so_far.count, length-full_notes decls notes) in
    let here : index ≡ c.args.checked.at = eqb-true _ _ agrees in
    let old = as_before decls clause indices (full_notes decls notes) (full_notes decls c.args.notes.now) at 0
    (full_note decl note) c.loop-at-test.true so_far
    (note_there decls notes index decl note (full_note decl note) within there c.index-decls-at.is
    c.index-notes-at.is) in
    subst (λ (n : Note). Agrees decl clause (full_note decl n)) c.index-notes-at.is
    (c.requires.checked.agrees decl (full_note decl note)
    (c.index-decls-at.is ∙ ap (λ (n : ℕ). get_or decls n decl) here)
    (old ∙ ap (λ (n : ℕ). get_or (full_notes decls c.args.notes.now) n (full_note decl note)) here))

pub choice_on-choice-requires : goal.choice_on-choice-requires
choice_on-choice-requires c = λ known.
    let decl = c.index-decls-at.result in
    let here : get_or c.args.indices.now c.loop-at.at-index 0 ≡ c.args.checked.at = eqb-true _ _ known in
    c.requires.checked.choice decl
    (c.index-decls-at.is ∙ ap (λ (n : ℕ). get_or c.args.decls.now n decl) here)
    ∙ ap (picked_by decl) (sym c.as_slice.ensures)

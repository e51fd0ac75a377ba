-- A declaration more is sent; after the last one nothing is left.
use Rattle.std.proofs.Common.{◌<◌, ◌+◌, ◌++◌, List, ap, arith, drop, length, sym, ◌∙◌}
use Rattle.dap_model.specs.declared.declaration.Decl.{Decl}
use Rattle.dap_project.specs.Full.{full_note, full_notes}
use Rattle.dap_project.specs.Noted.{noted_decls}
use Rattle.dap_project.proofs.FullLemmas.{length-full_notes, note_there}
use Rattle.dap_project.proofs.StepLemmas.{decl_step, decls_end, item_at}
use Rattle.dap_project.proofs.sent.decls_sent.Goals as goal

pub add_decl-requires : goal.add_decl-requires
add_decl-requires c =
    let at = c.loop-at.at in
    let decls = c.args.decls.now in
    let notes = c.args.notes.now in
    let decl = c.index-decls-at.result in
    let note = c.index-notes-at.result in
    let within : at < length decls = omega (arith, c.loop-at-test.true, c.requires.count) in
    let there : at < length (full_notes decls notes) =
    omega (arith, c.loop-at-test.true, length-full_notes decls notes) in
    c.requires.cuts at decl (full_note decl note) (item_at decls at decl within c.index-decls-at.is)
    (item_at (full_notes decls notes) at (full_note decl note) there
    (note_there decls notes at decl note (full_note decl note) within c.loop-at-test.true c.index-decls-at.is
    c.index-notes-at.is))

pub loop-at-preserved : goal.loop-at-preserved
loop-at-preserved c =
    let at = c.loop-at.at in
    let decls = c.args.decls.now in
    let notes = c.args.notes.now in
    let decl = c.index-decls-at.result in
    let note = c.index-notes-at.result in
    let within : at < length decls = omega (arith, c.loop-at-test.true, c.requires.count) in
    let there : at < length (full_notes decls notes) =
    omega (arith, c.loop-at-test.true, length-full_notes decls notes) in
    ap (λ (l : List Decl). l ++ noted_decls (drop (at + 1) decls) (drop (at + 1) (full_notes decls notes)))
    c.in_ok-add_decl.ensures
    ∙ sym (decl_step c.loop-at.sent decls (full_notes decls notes) at decl (full_note decl note) within there
    c.index-decls-at.is
    (note_there decls notes at decl note (full_note decl note) within c.loop-at-test.true c.index-decls-at.is
    c.index-notes-at.is))
    ∙ c.loop-at.invariant

pub returns : goal.returns
returns c =
    decls_end _ _ c.args.decls.now (full_notes c.args.decls.now c.args.notes.now) c.loop-at.at
    (omega (arith, c.loop-at-test.false, c.requires.count)) c.loop-at.invariant

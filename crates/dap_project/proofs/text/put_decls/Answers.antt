-- A declaration more is written; after the last one nothing is left.
use Rattle.std.proofs.Common.{List, ℕ, ◌<◌, ◌+◌, ◌++◌, ap, arith, drop, length, sym, ◌∙◌}
use Rattle.dap_model.specs.StructureText.{decls_text}
use Rattle.dap_project.specs.Full.{full_note, full_notes}
use Rattle.dap_project.specs.Noted.{noted_decls}
use Rattle.dap_project.proofs.FullLemmas.{length-full_notes, note_there}
use Rattle.dap_project.proofs.StepLemmas.{item_at}
use Rattle.dap_project.proofs.TextLemmas.{decls_step, text_end}
use Rattle.dap_project.proofs.text.put_decls.Goals as goal

pub put_picked-requires : goal.put_picked-requires
put_picked-requires c =
    let at = c.loop-at.at in
    let decls = c.args.decls.now in
    let notes = c.args.notes.now in
    let decl = c.index-decls-at.result in
    let note = c.index-notes-at.result in
    let within : at < length decls = omega (arith, c.loop-at-test.true, c.requires.count) in
    let there : at < length (full_notes decls notes) =
    omega (arith, c.loop-at-test.true, length-full_notes decls notes) in
    c.requires.cuts at decl (full_note decl note) (item_at decls at decl within c.index-decls-at.is)
    (item_at (full_notes decls notes) at (full_note decl note) there
    (note_there decls notes at decl note (full_note decl note) within c.loop-at-test.true c.index-decls-at.is
    c.index-notes-at.is))

pub loop-at-preserved : goal.loop-at-preserved
loop-at-preserved c =
    let at = c.loop-at.at in
    let decls = c.args.decls.now in
    let notes = c.args.notes.now in
    ap (λ (l : List ℕ). l ++ decls_text 1 (noted_decls (drop (at + 1) decls) (drop (at + 1) (full_notes decls notes))))
    c.in_ok-put_picked.ensures
    ∙ sym (decls_step c.loop-at.out decls notes at c.index-decls-at.result c.index-notes-at.result
    (omega (arith, c.loop-at-test.true, c.requires.count)) c.loop-at-test.true c.index-decls-at.is
    c.index-notes-at.is)
    ∙ c.loop-at.invariant

pub returns : goal.returns
returns c =
    text_end c.loop-at.out _ c.args.decls.now (full_notes c.args.decls.now c.args.notes.now) c.loop-at.at
    (omega (arith, c.loop-at-test.false, c.requires.count)) c.loop-at.invariant

-- The declaration that is named is one of them, and has a note.
use Rattle.std.proofs.Common.{◌≡◌, ◌<◌, ap, arith, length, subst, sym, ◌∙◌}
use Rattle.std.proofs.lemmas.List.{get_or_default}
use Rattle.dap_model.specs.Picking.{decl_named, picked_by}
use Rattle.dap_model.specs.declared.declaration.Decl.{Decl}
use Rattle.dap_project.specs.Checks.{Agrees}
use Rattle.dap_project.specs.Full.{full_note}
use Rattle.dap_project.proofs.FaultLemmas.{fault_named, found_for}
use Rattle.dap_project.proofs.FullLemmas.{note_there, noted_there}
use Rattle.dap_project.proofs.check.check_clause.Goals as goal

pub bounds-decls-at : goal.bounds-decls-at
bounds-decls-at c = c.in-Some.ensures.within

pub bounds-notes-at : goal.bounds-notes-at
bounds-notes-at c = omega (arith, c.in-Some.ensures.within, c.requires.count)

pub returns-in-Ok-clause-fault : goal.returns-in-Ok-clause-fault
returns-in-Ok-clause-fault c = λ earlier noted.
    let decls = c.args.decls.now in
    let notes = c.args.notes.now in
    let at = c.in-Some.named.at in
    let there : at < length notes = omega (arith, c.in-Some.ensures.within, c.requires.count) in
    fault_named decls earlier c.args.clause.now at c.index-decls-at.result c.in-Some.ensures.within c.index-decls-at.is
    (c.in-Some.ensures.decl ∙ ap (decl_named decls) c.as_slice.ensures)
    ∙ c.in-Ok.ensures.fault earlier
    (noted_there earlier decls notes at c.index-decls-at.result c.index-notes-at.result c.in-Some.ensures.within there
    c.index-decls-at.is c.index-notes-at.is noted)

pub returns-in-Err-clause-fault : goal.returns-in-Err-clause-fault
returns-in-Err-clause-fault c = λ earlier noted.
    let decls = c.args.decls.now in
    let notes = c.args.notes.now in
    let at = c.in-Some.named.at in
    let there : at < length notes = omega (arith, c.in-Some.ensures.within, c.requires.count) in
    found_for _ _ c.in-Err.fail
    (fault_named decls earlier c.args.clause.now at c.index-decls-at.result c.in-Some.ensures.within c.index-decls-at.is
    (c.in-Some.ensures.decl ∙ ap (decl_named decls) c.as_slice.ensures))
    (c.in-Err.ensures.fault earlier
    (noted_there earlier decls notes at c.index-decls-at.result c.index-notes-at.result c.in-Some.ensures.within there
    c.index-decls-at.is c.index-notes-at.is noted))

pub check_decl-requires : goal.check_decl-requires
check_decl-requires c =
    c.in-Some.ensures.choice c.index-decls-at.result c.index-decls-at.is
    ∙ ap (picked_by c.index-decls-at.result) c.as_slice.ensures

pub returns-in-Ok-clause-checked : goal.returns-in-Ok-clause-checked
returns-in-Ok-clause-checked c = record {
  choice = λ decl is_decl. c.in-Some.ensures.choice decl is_decl ∙ ap (picked_by decl) c.as_slice.ensures;
  agrees = λ decl note is_decl is_note.
      let decls = c.args.decls.now in
      let notes = c.args.notes.now in
      let at = c.in-Some.named.at in
      let there : at < length notes = omega (arith, c.in-Some.ensures.within, c.requires.count) in
      let same_decl : c.index-decls-at.result ≡ decl =
      c.index-decls-at.is ∙ get_or_default decls at c.index-decls-at.result decl c.in-Some.ensures.within
      ∙ sym is_decl in
      let same_note : full_note c.index-decls-at.result c.index-notes-at.result ≡ note =
      note_there decls notes at c.index-decls-at.result c.index-notes-at.result note c.in-Some.ensures.within there
      c.index-decls-at.is c.index-notes-at.is ∙ sym is_note in
      subst (λ (d : Decl). Agrees d c.args.clause.now note) same_decl
      (subst (Agrees c.index-decls-at.result c.args.clause.now) same_note c.in-Ok.ensures.agrees);
}

-- Without a clause all is noted whole, and there is no fault.
use Rattle.std.proofs.Common.{All, Err, List, [], ◌∷◌, length, sym, ◌∙◌, ◌≡◌, ◌==◌, true}
use Rattle.dap_model.specs.declared.projection.Clause.{Clause}
use Rattle.dap_project.specs.Checks.{HasCountable}
use Rattle.dap_project.specs.Full.{full_notes}
use Rattle.dap_project.proofs.AskedLemmas.{none_countable, notes_sent, some_refused, some_sent}
use Rattle.dap_project.proofs.FaultLemmas.{whole_answer}
use Rattle.dap_project.proofs.projection.notes_for.Goals as goal

pub returns-then-is_empty-clause-notes : goal.returns-then-is_empty-clause-notes
returns-then-is_empty-clause-notes c =
    let none = sym c.is_empty.ensures ∙ c.if-is_empty.true in
    notes_sent c.args.decls.now c.args.clauses.now c.in_ok-whole_notes.field-0
    (whole_answer c.args.decls.now c.args.clauses.now (full_notes c.args.decls.now c.in_ok-whole_notes.field-0) none
    c.in_ok-whole_notes.ensures)
    (none_countable c.args.clauses.now none)

pub returns-clause-notes : goal.returns-clause-notes
returns-clause-notes c =
    some_sent c.args.decls.now c.args.clauses.now c.notes_of.result (sym c.is_empty.ensures ∙ c.if-is_empty.false)
    c.notes_of.ensures.notes c.notes_of.ensures.countable

pub returns-clause-fault : goal.returns-clause-fault
returns-clause-fault c =
    some_refused c.args.decls.now c.args.clauses.now c.notes_of.result (sym c.is_empty.ensures ∙ c.if-is_empty.false)
    c.notes_of.ensures.notes

-- A clause more is noted, and has no fault.
use Rattle.std.proofs.Common.{All, ap, arith, length, map, refl, subst, sym, take, ◌∙◌}
use Rattle.std.proofs.lemmas.List.{length-map, take_all}
use Rattle.std.proofs.lemmas.List.Elements.{All-push}
use Rattle.std.proofs.lemmas.Result.{err_from_is_err_and}
use Rattle.dap_project.specs.Checks.{HasCountable}
use Rattle.dap_project.specs.Full.{full_notes}
use Rattle.dap_project.specs.Notes.{note_of, notes_after}
use Rattle.dap_project.proofs.FaultLemmas.{fails_at, no_fault_at, none_left}
use Rattle.dap_project.proofs.FullLemmas.{all_fresh, length-full_notes}
use Rattle.dap_project.proofs.NoteLemmas.{notes_after-map, notes_of-none}
use Rattle.dap_project.proofs.IndexLemmas.{up_to}
use Rattle.dap_project.proofs.projection.notes_of.Goals as goal

pub loop-clause-init : goal.loop-clause-init
loop-clause-init c = record {
  notes = ap (full_notes c.args.decls.now) c.in_ok-notes.ensures ∙ all_fresh c.args.decls.now c.args.decls.now
      ∙ notes_of-none c.args.decls.now;
  fault = refl;
  countable = λ k d below. absurd (omega (arith, below));
}

pub loop-clause-preserved : goal.loop-clause-preserved
loop-clause-preserved c =
    let decls = c.args.decls.now in
    let clauses = c.args.clauses.now in
    let at = c.loop-clause.clause-index in
    let item = c.clause-item.result in
    let more = up_to clauses at item c.loop-clause-test.true c.clause-item.is in
    let done = c.in_ok-add_clause.ensures in
    record {
      notes = done.notes
          ∙ ap (notes_after item decls) c.loop-clause.invariant.notes
          ∙ notes_after-map item (take at clauses) decls
          ∙ ap (λ l. map (note_of l) decls) (sym more);
      fault = sym (no_fault_at decls clauses at item c.loop-clause-test.true c.clause-item.is
          (done.fault (take at clauses) c.loop-clause.invariant.notes))
          ∙ c.loop-clause.invariant.fault;
      countable = subst (All HasCountable) (sym more)
          (All-push HasCountable (take at clauses) item c.loop-clause.invariant.countable done.countable);
    }

pub returns-in_err-add_clause-clause-notes : goal.returns-in_err-add_clause-clause-notes
returns-in_err-add_clause-clause-notes c =
    let failed = c.from_residual-in_err-add_clause in
    let p = err_from_is_err_and failed.result failed.ensures.1 in
    let clauses = c.args.clauses.now in
    let at = c.loop-clause.clause-index in
    rw (p.1, p.2)
    (fails_at c.args.decls.now clauses at c.clause-item.result _ c.in_err-add_clause.field-0.0 c.loop-clause-test.true
    c.clause-item.is c.loop-clause.invariant.fault
    (c.in_err-add_clause.ensures.fault (take at clauses) c.loop-clause.invariant.notes))

pub returns-clause-notes : goal.returns-clause-notes
returns-clause-notes c =
    none_left c.args.decls.now c.args.clauses.now c.loop-clause.clause-index
    (full_notes c.args.decls.now c.loop-clause.notes)
    (omega (arith, c.loop-clause-test.false)) c.loop-clause.invariant.fault c.loop-clause.invariant.notes

pub returns-clause-countable : goal.returns-clause-countable
returns-clause-countable c =
    subst (All HasCountable)
    (take_all c.loop-clause.clause-index c.args.clauses.now (omega (arith, c.loop-clause-test.false)))
    c.loop-clause.invariant.countable

pub add_clause-requires-clause-count : goal.add_clause-requires-clause-count
add_clause-requires-clause-count c =
    let decls = c.args.decls.now in
    sym (length-full_notes decls c.loop-clause.notes)
    ∙ ap length c.loop-clause.invariant.notes
    ∙ length-map decls (note_of (take c.loop-clause.clause-index c.args.clauses.now))

-- The empty text and one that begins with a selection are read at once; else there is a clause.
use Rattle.std.proofs.Common.{◌≡◌, ◌∙◌, ℕ, List, [], ◌∷◌, Ok, Err, ap, sym, subst}
use Rattle.fm_base.specs.Answer.{Answers}
use Rattle.dap_model.specs.ConstraintReading.{before_name, constraint_of, fresh, read_from}
use Rattle.dap_model.specs.declared.projection.Clause.{Clause}
use Rattle.dap_ce.specs.Asked.{as_projection, asked_by}
use Rattle.dap_ce.proofs.ReadLemmas.{constraint_of-none, constraint_of-mark, constraint_of-clauses, no_front, front_of}
use Rattle.dap_ce.proofs.read.read_constraint.Goals as goal

pub returns-in-None : goal.returns-in-None
returns-in-None c =
    ap asked_by (no_front c.args.text.now c.in-None.ensures.value)
    ∙ ap as_projection constraint_of-none
    ∙ ap (λ (clauses : List Clause). Ok (record { clauses = clauses })) (sym c.new.ensures)

pub returns-in-Some-eq38 : goal.returns-in-Some-eq38
returns-in-Some-eq38 c =
    let text = front_of c.args.text.now c.in-Some-eq38.field-0.now c.in-Some-eq38.ensures.value in
    ap asked_by (text.1 ∙ ap (λ (n : ℕ). n ∷ text.0) c.in-Some-eq38.field-0-test)
    ∙ ap as_projection (constraint_of-mark text.0)

pub returns-in-Some : goal.returns-in-Some
returns-in-Some c =
    let byte = c.in-Some.field-0.now in
    let text = front_of c.args.text.now byte c.in-Some.ensures.value in
    let same : constraint_of c.args.text.now ≡ read_from (before_name fresh) 0 c.args.text.now =
    ap constraint_of text.1
    ∙ constraint_of-clauses byte text.0 c.in-Some.field-0-test.1
    ∙ ap (read_from (before_name fresh) 0) (sym text.1) in
    subst (λ o. Answers o c.read_clauses.result) (ap as_projection (sym same)) c.read_clauses.ensures

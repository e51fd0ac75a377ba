-- A byte behind a name ends it, or no constraint goes on with it.
use Rattle.std.proofs.Common.{◌≡◌, ℕ, List, ◌+◌, ◌∙◌, Some, ap, sym, subst, take, drop, get_or}
use Rattle.dap_model.specs.ConstraintReading.{Begun, before_name, step_name, step_on, with_name}
use Rattle.dap_ce.specs.declared.phase.Phase.{Phase}
use Rattle.dap_ce.specs.Phases.{begun_of, state_in}
use Rattle.dap_ce.proofs.StepLemmas.{slice_between, step_name-dot, step_name-more, step_name-on, step_on-none}
use Rattle.dap_ce.proofs.reader.Reader.in_name.Goals as goal

pub returns-then-is_name_byte-clause-step : goal.returns-then-is_name_byte-clause-step
returns-then-is_name_byte-clause-step c =
    let begun = begun_of c.args.self.now in
    let text = c.args.text.now in
    let at = c.args.at in
    subst (λ (phase : Phase). step_name begun (drop c.args.from (take at text)) (get_or text at 0)
    ≡ Some (state_in begun (take (at + 1) text) phase))
    (sym c.requires.phase)
    (step_name-more begun text c.args.from at c.requires.begun c.requires.offset (sym c.if-is_name_byte.ensures))

pub returns-then-byte-ne44-clause-step : goal.returns-then-byte-ne44-clause-step
returns-then-byte-ne44-clause-step c =
    let begun = begun_of c.args.self.now in
    let name = drop c.args.from (take c.args.at c.args.text.now) in
    let byte = get_or c.args.text.now c.args.at 0 in
    step_name-on begun name byte (sym c.if-is_name_byte.ensures) c.if-byte-ne46.true
    ∙ step_on-none (with_name begun name) byte c.if-byte-ne91.true c.if-byte-ne44.true

pub returns-then-byte-eq46-clause-step : goal.returns-then-byte-eq46-clause-step
returns-then-byte-eq46-clause-step c =
    let begun = begun_of c.args.self.now in
    let byte = get_or c.args.text.now c.args.at 0 in
    let name = slice_between c.args.text.now c.args.from c.args.at c.requires.begun in
    step_name-dot begun (drop c.args.from (take c.args.at c.args.text.now)) byte
    (sym c.if-is_name_byte.ensures) c.if-byte-eq46.true
    ∙ ap (λ (n : List ℕ). Some (before_name (with_name begun n))) name
    ∙ ap (λ (b : Begun). Some (before_name b)) (sym c.in_ok-end_name.ensures)

pub returns-in_ok-follow-clause-step : goal.returns-in_ok-follow-clause-step
returns-in_ok-follow-clause-step c =
    let begun = begun_of c.args.self.now in
    let byte = get_or c.args.text.now c.args.at 0 in
    let name = slice_between c.args.text.now c.args.from c.args.at c.requires.begun in
    step_name-on begun (drop c.args.from (take c.args.at c.args.text.now)) byte
    (sym c.if-is_name_byte.ensures) c.if-byte-eq46.false
    ∙ ap (λ (n : List ℕ). step_on (with_name begun n) byte) name
    ∙ ap (λ (b : Begun). step_on b byte) (sym c.in_ok-end_name.ensures)
    ∙ c.in_ok-follow.ensures.step (take (c.args.at + 1) c.args.text.now)

pub returns-in_ok-follow-clause-fits : goal.returns-in_ok-follow-clause-fits
returns-in_ok-follow-clause-fits c = λ _. c.in_ok-follow.ensures.fits (c.args.at + 1)

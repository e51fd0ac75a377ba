-- Each byte leads on to where the reader stands, or has the fault that reading ends with.
use Rattle.std.proofs.Common.{◌≡◌, ℕ, Bool, ◌+◌, ◌∙◌, [], List, length, take, drop, get_or, Err, ap, sym, subst, arith}
use Rattle.std.proofs.Math.Seq.{take-length}
use Rattle.fm_base.specs.Answer.{Answers}
use Rattle.dap_model.specs.ConstraintReading.{State, before_name, clauses_at, ended_at, fault_at, fresh, read_from, step}
use Rattle.dap_model.specs.declared.fault.CeFault.{CeFault}
use Rattle.dap_ce.specs.Asked.{as_projection}
use Rattle.dap_ce.specs.Phases.{state_of, LeadsTo}
use Rattle.dap_ce.specs.declared.reader.Reader.{Reader}
use Rattle.dap_ce.proofs.ReadLemmas.{read_from-on, read_from-fault, read_from-end}
use Rattle.dap_ce.proofs.read.read_with.Goals as goal

pub loop-at-init : goal.loop-at-init
loop-at-init c =
    (ap (λ (s : State). read_from s 0 c.args.text.now) (c.requires.start []), c.requires.fits)

pub returns-then-not-branch : goal.returns-then-not-branch
returns-then-not-branch c =
    let text = c.args.text.now in
    let at = c.loop-at.at in
    let byte = get_or text at 0 in
    let state = state_of c.loop-at.reader (take at text) in
    let none =
    subst (LeadsTo (step state byte)
    (state_of c.step.new.self (take (at + 1) text))) c.if-not-branch.true c.in_ok-step.ensures.step in
    let kept = c.in_ok-step.ensures.kept c.if-not-branch.true in
    let fault = c.fault_at.ensures (take at text)
    ∙ ap (λ (r : Reader). fault_at (state_of r (take at text)) at byte) kept in
    ap as_projection (sym c.loop-at.invariant.0 ∙ read_from-fault state at text c.loop-at-test.true none)
    ∙ ap (λ (f : CeFault). Err f) (sym fault)

pub loop-at-preserved : goal.loop-at-preserved
loop-at-preserved c =
    let text = c.args.text.now in
    let at = c.loop-at.at in
    let state = state_of c.loop-at.reader (take at text) in
    let next = state_of c.step.new.self (take (at + 1) text) in
    let leads =
    subst (LeadsTo (step state (get_or text at 0)) next) c.if-not-branch.false c.in_ok-step.ensures.step in (
      sym (read_from-on state next at text c.loop-at-test.true leads) ∙ c.loop-at.invariant.0,
      c.in_ok-step.ensures.fits c.if-not-branch.false,
    )

pub returns : goal.returns
returns c =
    let text = c.args.text.now in
    let reader = c.loop-at.reader in
    let all = read_from (before_name fresh) 0 text in
    let last : c.loop-at.at ≡ length text = omega (arith, c.loop-at-test.false, c.loop-at.auto.at-end) in
    let ended =
    subst (λ (n : ℕ). read_from (state_of reader (take n text)) n (drop n text) ≡ all) last c.loop-at.invariant.0 in
    let whole =
    subst (λ (l : List ℕ). read_from (state_of reader l) (length text) (drop (length text) text) ≡ all)
    (take-length text) ended in
    subst (λ o. Answers o c.end.result)
    (ap as_projection (sym (read_from-end (state_of reader text) text) ∙ whole)) c.end.ensures

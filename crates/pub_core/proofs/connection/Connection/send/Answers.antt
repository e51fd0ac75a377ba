-- Bytes of a reply are sent, where as many are left.
use Rattle.std.proofs.Common.{◌≡◌, ℕ, ◌-◌, ◌&&◌, leb, ltb, List, ◌++◌, length, refl, sym, ap, subst, ◌∙◌, arith}
use Rattle.dap_reply.specs.Parts.{bytes_of}
use Rattle.dap_reply.proofs.MessageLemmas.{on_ok}
use Rattle.pub_core.specs.Shown.{IsShown}
use Rattle.pub_core.proofs.ConnectionLemmas.{send-fit, send-misfit, send-none, send-planned}
use Rattle.pub_core.proofs.connection.Connection.send.Goals as goal

pub returns-in_default : goal.returns-in_default
returns-in_default c = λ proto log s number site shown.
    send-none proto log c.args.self.now s number c.args.count c.on.new.self c.on.result
    (record { machine_is = c.on.ensures.state; action_is = c.on.ensures.action }) c.in_default.not-Send shown

pub returns-in_default-plan : goal.returns-in_default-plan
returns-in_default-plan c = λ proto log s number site shown.
    absurd (send-planned proto log c.args.self.now s c.in-Send.from c.on.new.self c.on.result
    (record { machine_is = c.on.ensures.state; action_is = c.on.ensures.action }) c.in-Send.is shown
    c.in_default-plan.is)

pub returns-then-not-fits : goal.returns-then-not-fits
returns-then-not-fits c = λ proto log s number site shown.
    let left : length (bytes_of c.in-Some.plan) - c.in-Send.from ≡ c.saturating_sub-left.result =
    omega (arith, c.saturating_sub-left.ensures, c.len.ensures) in
    send-misfit proto log c.args.self.now s number c.args.count c.in-Send.from c.in-Some.plan c.on.new.self c.on.result
    (record { machine_is = c.on.ensures.state; action_is = c.on.ensures.action }) c.in-Send.is c.in-Some.is
    (ap (λ (n : ℕ). ltb 0 c.args.count && leb c.args.count n) left ∙ sym c.fits.ensures.exact ∙ c.if-not-fits.true)
    shown

pub returns : goal.returns
returns c =
    on_ok c.settle.result (λ leads. λ proto log s number site shown.
    let fit = c.fits.ensures.yes c.if-not-fits.false in
    let left : length (bytes_of c.in-Some.plan) - c.in-Send.from ≡ c.saturating_sub-left.result =
    omega (arith, c.saturating_sub-left.ensures, c.len.ensures) in
    let sent = send-fit proto log c.args.self.now
    (record c.args.self.now { session = c.on-2.new.self; output = c.append.new.self }) s number c.args.count
    c.in-Send.from c.in-Some.plan c.on.new.self c.on.result
    (record { machine_is = c.on.ensures.state; action_is = c.on.ensures.action }) c.in-Send.is c.in-Some.is fit.0
    (omega (arith, fit.1, left))
    (c.in_ok-append.ensures.ok
    ∙ ap (λ (l : List ℕ). c.args.self.now.output ++ l) (c.as_slice.ensures ∙ c.in_ok-piece.ensures))
    refl refl c.on-2.ensures.state shown in
    subst (IsShown proto log c.settle.new.self) (sym sent.after_is) (leads proto log sent.here site sent.shows))
    c.settle.ensures

-- Bytes are fed, where there is room for them.
use Rattle.std.proofs.Common.{sym, ◌∙◌}
use Rattle.dap_reply.proofs.MessageLemmas.{on_ok}
use Rattle.pub_core.proofs.ConnectionLemmas.{feed-after, feed-fit, feed-misfit, feed-none}
use Rattle.pub_core.proofs.SoFar.{fed_more}
use Rattle.pub_core.proofs.connection.Connection.feed.Goals as goal

pub returns-in_default : goal.returns-in_default
returns-in_default c = λ proto log s number site shown.
    feed-none proto log c.args.self.now s number c.args.piece.now c.on.new.self c.on.result
    (record { machine_is = c.on.ensures.state; action_is = c.on.ensures.action }) c.in_default.not-Read shown

pub returns-then-not-fits : goal.returns-then-not-fits
returns-then-not-fits c = λ proto log s number site shown.
    feed-misfit proto log c.args.self.now s number c.in-Read.room c.args.piece.now c.on.new.self c.on.result
    (record { machine_is = c.on.ensures.state; action_is = c.on.ensures.action }) c.in-Read.is
    (sym c.fits.ensures.exact ∙ c.if-not-fits.true) shown

pub returns : goal.returns
returns c =
    on_ok c.settle.result (λ leads. λ proto log s number site shown.
    let fit = c.fits.ensures.yes c.if-not-fits.false in
    feed-after proto log c.args.self.now c.settle.new.self s number c.in-Read.room c.args.piece.now c.on.new.self
    c.on.result (record { machine_is = c.on.ensures.state; action_is = c.on.ensures.action }) c.in-Read.is fit.0 fit.1
    shown
    (leads proto log (fed_more s c.args.piece.now) site
    (feed-fit proto log c.args.self.now s c.in-Read.room c.args.piece c.on.new.self c.on.result c.on-2.new.self
    (record { machine_is = c.on.ensures.state; action_is = c.on.ensures.action }) c.in-Read.is fit.1
    c.on-2.ensures.state shown)))
    c.settle.ensures

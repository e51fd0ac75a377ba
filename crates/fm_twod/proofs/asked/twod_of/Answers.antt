-- Few parts are sent of a view, and each is one of it.
use Rattle.std.proofs.Common.{ap₂, sym, ◌∙◌}
use Rattle.dap_reply.specs.Body.{projected_of}
use Rattle.fm_twod.proofs.SentLemmas.{all-sent, few-sent}
use Rattle.fm_twod.proofs.asked.twod_of.Goals as goal

pub body_of-requires-clause-sent : goal.body_of-requires-clause-sent
body_of-requires-clause-sent c =
    all-sent c.in_ok-grid.grid _ c.args.ask.now.constraint c.in-Ok.projected c.proto-proto.ensures.keeps
    (ap₂ projected_of (sym c.decls.ensures) (sym c.as_slice.ensures) ∙ c.in-Ok.ensures)

pub body_of-requires-clause-few : goal.body_of-requires-clause-few
body_of-requires-clause-few c =
    few-sent c.in_ok-grid.grid _ c.args.ask.now.constraint c.in-Ok.projected c.proto-proto.ensures.keeps
    (ap₂ projected_of (sym c.decls.ensures) (sym c.as_slice.ensures) ∙ c.in-Ok.ensures)

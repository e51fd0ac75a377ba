-- Without a constraint all declarations are sent as they stand.
use Rattle.std.proofs.Common.{subst, sym}
use Rattle.fm_base.specs.Answer.{Answers}
use Rattle.dap_reply.proofs.WholeLemmas.{structure-whole}
use Rattle.dap_reply.proofs.asked.structure_by.Goals as goal

pub returns-then-is_empty : goal.returns-then-is_empty
returns-then-is_empty c =
    subst (λ outcome. Answers outcome c.structure_body.result)
    (sym (structure-whole c.args.decls.now c.args.target.now (c.is_empty.ensures.0 (cc (c.if-is_empty.true)))))
    c.structure_body.ensures

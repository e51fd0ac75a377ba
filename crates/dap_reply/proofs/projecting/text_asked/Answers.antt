-- The constraint is read, and what is sent for it is under the label of the target.
use Rattle.std.proofs.Common.{List, ℕ, ap, subst, sym, ◌∙◌}
use Rattle.fm_base.specs.Answer.{Answers}
use Rattle.fm_base.specs.Chain.{fault_as}
use Rattle.dap_ce.specs.Asked.{asked_by}
use Rattle.dap_reply.specs.declared.fault.DapFault.TheVariants.{Constraint}
use Rattle.dap_reply.proofs.TextLemmas.{text_answer}
use Rattle.dap_reply.proofs.projecting.text_asked.Goals as goal

pub returns : goal.returns
returns c =
    subst (λ outcome. Answers outcome c.text_sent.result)
    (text_answer c.args.decls.now c.args.target.now c.as_slice-2.result.now c.in_ok-asked.asked c.as_slice-2.ensures
    (ap (λ (text : List ℕ). fault_as Constraint (asked_by text)) (sym c.as_slice.ensures) ∙ c.in_ok-asked.ensures))
    c.text_sent.ensures

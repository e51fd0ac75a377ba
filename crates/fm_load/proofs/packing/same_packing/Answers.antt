-- The checks in parts are the check of all.
use Rattle.std.proofs.Common.{rules, subst}
use Rattle.fm_base.specs.Answer.{Answers}
use Rattle.fm_base.specs.Chain.{Check}
use Rattle.fm_model.specs.declared.loaded.LoadFault.{LoadFault}
use Rattle.fm_load.proofs.PackingLemmas.{in_parts}
use Rattle.fm_load.proofs.packing.same_packing.Goals as goal

pub returns-in_err-same_attr : goal.returns-in_err-same_attr
returns-in_err-same_attr c =
    subst (λ (check : Check LoadFault). Answers check c.from_residual.result)
    (in_parts c.args.wanted.now c.args.var.now) (search rules)

pub returns : goal.returns
returns c =
    subst (λ (check : Check LoadFault). Answers check c.same_scale.result)
    (in_parts c.args.wanted.now c.args.var.now) (search rules)

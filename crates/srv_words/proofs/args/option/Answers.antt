-- Each step changes one part of the rule.
use Rattle.std.proofs.Common.{◌∙◌, Some, ap}
use Rattle.clap.specs.Walk.{Rule, rule_of}
use Rattle.clap.specs.declared.builder.arg.Arg.{Arg}
use Rattle.srv_words.proofs.args.option.Goals as goal

pub returns : goal.returns
returns c =
    let value = λ (rule : Rule). record rule { value_names = 1 } in
    let long = λ (rule : Rule). record rule { long = Some c.args.id.now; value_names = 1 } in
    record {
      rule = ap rule_of c.value_name.ensures ∙ ap value (ap rule_of c.long.ensures) ∙ ap long c.taking.ensures.rule;
      local = ap (λ (arg : Arg). arg.global) c.value_name.ensures ∙ ap (λ (arg : Arg). arg.global) c.long.ensures
          ∙ c.taking.ensures.local;
    }

-- Each step changes one part of the rule, and the help none.
use Rattle.std.proofs.Common.{◌∙◌, Some, ap}
use Rattle.clap.specs.Walk.{Rule, rule_of}
use Rattle.clap.specs.declared.builder.arg.Arg.{Arg}
use Rattle.srv_words.proofs.args.taking.Goals as goal

pub returns : goal.returns
returns c =
    let required = λ (rule : Rule). record rule { required = c.args.required } in
    let action = λ (rule : Rule). record rule { action = Some c.args.action; required = c.args.required } in
    record {
      rule = ap rule_of c.required.ensures ∙ ap required (ap rule_of c.help.ensures)
          ∙ ap required (ap rule_of c.action.ensures) ∙ ap action c.new.ensures.rule;
      local = ap (λ (arg : Arg). arg.global) c.required.ensures ∙ ap (λ (arg : Arg). arg.global) c.help.ensures
          ∙ ap (λ (arg : Arg). arg.global) c.action.ensures ∙ c.new.ensures.optional.1;
    }

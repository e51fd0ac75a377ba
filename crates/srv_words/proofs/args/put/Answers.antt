-- The rules are those of before, and the one of the argument. Each argument is of one command alone.
use Rattle.std.proofs.Common.{◌≡◌, ◌∙◌, ◌∷◌, [], ap, false, subst, sym}
use Rattle.std.proofs.lemmas.List.{map-append}
use Rattle.std.proofs.lemmas.List.Elements.{All-push}
use Rattle.clap.specs.Walk.{Rule, rule_of}
use Rattle.clap.specs.declared.builder.arg.Arg.{Arg}
use Rattle.srv_words.specs.Command.{are_local, one_more, rules_in}
use Rattle.srv_words.proofs.args.put.Goals as goal

pub returns : goal.returns
returns c =
    let before = c.args.args.now.items in
    let arg = c.arg_of.result in
    let after = c.in_ok-push.ensures.items in
    record {
      rules = ap rules_in after ∙ map-append rule_of before (arg ∷ [])
          ∙ ap (λ (rule : Rule). one_more (rules_in before) rule) c.arg_of.ensures.rule;
      local = λ local. subst are_local (sym after)
          (All-push (λ (arg : Arg). arg.global ≡ false) before arg local c.arg_of.ensures.local);
    }

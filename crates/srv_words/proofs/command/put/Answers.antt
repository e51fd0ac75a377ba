-- The commands are those of before, and this one.
use Rattle.std.proofs.Common.{◌≡◌, ◌∙◌, ◌++◌, ◌∷◌, [], ap, false, map, subst, sym}
use Rattle.std.proofs.lemmas.List.{map-append}
use Rattle.std.proofs.lemmas.List.Elements.{All-push}
use Rattle.clap.specs.Simple.{App, app_of}
use Rattle.clap.specs.declared.builder.command.Command.{Command}
use Rattle.clap.specs.declared.builder.command.Command.TheViews.{out-Command}
use Rattle.srv_words.specs.Command.{are_plain}
use Rattle.srv_words.proofs.command.put.Goals as goal

pub returns : goal.returns
returns c =
    let before = c.args.list.now.items in
    let command = c.in_ok-command.command in
    let after = c.in_ok-push.ensures.items in
    record {
      apps = ap (map app_of) after ∙ map-append app_of before (command ∷ [])
          ∙ ap (λ (app : App). map app_of before ++ app ∷ []) c.in_ok-command.ensures.app;
      plain = λ plain. subst are_plain (sym after)
          (All-push (λ (c : Command). (out-Command c).has_globals ≡ false) before command plain
          c.in_ok-command.ensures.plain);
    }

use Rattle.std.proofs.Common.{◌∙◌, List, ◌++◌, ap, arith, map}
use Rattle.srv_workers.specs.declared.both.OneOf.TheVariants.{Other, This}
use Rattle.srv_workers.proofs.joining.hands_in.Goals as goal

pub put_first-requires : goal.put_first-requires
put_first-requires g c = omega (arith, c.requires.free)

pub put_others-requires : goal.put_others-requires
put_others-requires g c = omega (arith, c.requires.free, c.put_first.ensures.free)

-- those of the first desk, and behind them those of the others
pub returns : goal.returns
returns g c =
    c.into_list.ensures ∙ c.put_others.ensures.items
    ∙ ap (λ (l : List _). l ++ map (λ hand. Other hand) c.args.others) (c.put_first.ensures.items
    ∙ ap (λ (l : List _). l ++ map (λ hand. This hand) c.args.first) c.requires.empty)

-- Entering keeps the rule.
use Rattle.std.proofs.Common.{[], ◌∷◌, ◌++◌, length, refl}
use Rattle.left_right.specs.Sides.{view}
use Rattle.pub_pass.specs.declared.rule.Known.{Known}
use Rattle.pub_pass.proofs.Entering.{enters}
use Rattle.pub_pass.proofs.pass.take_share.Goals as goal

pub enter_as-requires : goal.enter_as-requires
enter_as-requires g c shown views is at =
    let before : Known = view c.args.seat.place in
    let looks = before.looks ++ length shown.log ∷ [] in
    let step = enters g.N.Name.book g.N.Name.proto shown views c.args.seat.place.id before looks is at in
    (record { seen = shown.log; looks = looks }, step.0, (step.1, refl))

-- Where there is no further step, all index lists were given.
use Rattle.std.proofs.Common.{◌≤◌, refl, inl, inr}
use Rattle.std.proofs.lemmas.Bool.{cases_lt}
use Rattle.dap_model.specs.Box.{box_len}
use Rattle.dap_slab.proofs.WalkLemmas.{all_given}
use Rattle.dap_slab.proofs.walk.Walk.next.Goals as goal

pub returns-else-step : goal.returns-else-step
returns-else-step c =
    let walk = c.args.self.now in
    let past : box_len walk.slabs ≤ walk.given = elim (cases_lt walk.given (box_len walk.slabs)) [
      | inl more ↦ let none = c.if-step.ensures.more.1 more in cc
      | inr past ↦ past
    ] in (
      (refl, (λ _. tt), c.step.ensures.new),
      record { some = tt; none = all_given walk.slabs walk.given past; rest = tt },
    )

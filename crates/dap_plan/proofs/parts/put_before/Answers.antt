-- The bytes that were behind the text stand before it.
use Rattle.std.proofs.Common.{◌++◌, ◌∙◌, ℕ, List, ap, drop, take}
use Rattle.dap_plan.proofs.PlanLemmas.{rotated}
use Rattle.dap_plan.proofs.parts.put_before.Goals as goal

pub returns : goal.returns
returns c =
    let len = c.len-len.result in
    c.rotate_left.ensures.items
    ∙ ap (λ (l : List ℕ). drop len l ++ take len l) (c.text-2.view_is ∙ c.in_ok-append.ensures.ok
    ∙ ap (λ (l : List ℕ). l ++ c.args.head.now) (c.in_ok-reserve_exact.ensures.items ∙ c.text.view_is))
    ∙ rotated c.args.head.now c.args.text.now len c.len-len.ensures

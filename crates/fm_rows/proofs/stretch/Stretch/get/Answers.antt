-- The rows before the second index, without those before the first.
use Rattle.std.proofs.Common.{drop, take, length, ap, ◌∙◌, arith}
use Rattle.fm_rows.proofs.stretch.Stretch.get.Goals as goal

pub split_at-requires : goal.split_at-requires
split_at-requires c = omega (arith, c.self.invariant.within, ap length (c.as_slice.ensures ∙ c.get.ensures))

pub split_at-requires-2 : goal.split_at-requires-2
split_at-requires-2 c = omega (
  arith,
  c.self.invariant.order,
  c.self.invariant.within,
  ap length (c.as_slice.ensures ∙ c.get.ensures),
  c.split_at.ensures.front_len,
)

pub returns : goal.returns
returns c =
    c.split_at-2.ensures.back ∙ ap (drop c.self.inside.from) c.split_at.ensures.front
    ∙ ap (λ l. drop c.self.inside.from (take c.self.inside.to l)) (c.as_slice.ensures ∙ c.get.ensures) ∙ c.self.view_is

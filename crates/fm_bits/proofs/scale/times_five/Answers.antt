-- 5^50 still fits 128 bits, and the product is what was tested.
use Rattle.std.proofs.Common.{◌≡◌, ◌*◌, ◌^◌, arith, ap, ◌∙◌}
use Rattle.std.proofs.Math.Nat.{mul_comm}
use Rattle.fm_bits.proofs.Powers.{five_pow_le}
use Rattle.fm_bits.proofs.scale.times_five.Goals as goal

pub pow-requires : goal.pow-requires
pow-requires c = omega (arith, five_pow_le c.args.power 50 (omega arith))

pub returns-then-product : goal.returns-then-product
returns-then-product c =
    let is : c.in_ok-product.product ≡ c.args.n * 5 ^ c.args.power =
    c.in_ok-product.ensures.1 ∙ ap (λ x. x * c.from.result) c.pow.ensures
    ∙ ap (λ x. 5 ^ c.args.power * x) c.from.ensures ∙ mul_comm _ _ in
    ((omega arith, omega arith), is)

-- Times that lie evenly apart, and the index of one of them.
use Rattle.std.proofs.Common.{◌≡◌, ◌≢◌, ℕ, ◌+◌, ◌*◌, ◌/◌, ◌%◌, ◌<◌, ◌≤ℤ◌, Bool, true, false, List, get_or, Option, None, Some, ℤ, pos, ◌+ℤ◌, ◌-ℤ◌, refl, sym, ap, ◌∙◌, arith}
use Rattle.std.specs.Prelude.{AllPairs, IfSome, IsNone, int_lt, position, unsigned_abs}
use Rattle.std.specs.Cmp.{signed_Decides}
use Rattle.std.specs.List.{list_any}
use Rattle.std.specs.Ordering.{int_eq}
use Rattle.std.proofs.lemmas.Int.{ints}
use Rattle.std.proofs.lemmas.List.Folds.{Any-from_list_any}
use Rattle.std.proofs.lemmas.Nat.{div-add-mod', div-mul-add, mod-mul-add}
use Rattle.std.proofs.lemmas.Option.{same_Some, slice_get-get_or}
use Rattle.fm_list.proofs.SearchLemmas.{position_is, position-nowhere}
use Rattle.fm_list.specs.Times.{AreEven}

-- how far a time lies behind the first is a multiple of the step, and their quotient its index
pub whole_steps : (first valid : ℤ) (step index : ℕ) → 0 < step → valid ≡ first +ℤ pos (index * step)
    → (unsigned_abs (valid -ℤ first) % step ≡ 0) × (unsigned_abs (valid -ℤ first) / step ≡ index)
whole_steps first valid step index forward is =
    let far : unsigned_abs (valid -ℤ first) ≡ index * step + 0 = omega (arith, ints) in (
      ap (λ n. n % step) far ∙ mod-mul-add index step 0 forward,
      ap (λ n. n / step) far ∙ div-mul-add index step 0 forward,
    )

-- a time that lies whole steps behind the first stands at their number
pub stands_at : (first valid : ℤ) (step far : ℕ) → int_lt valid first ≡ false → far ≡ unsigned_abs (valid -ℤ first)
    → far % step ≡ 0 → valid ≡ first +ℤ pos (far / step * step)
stands_at first valid step far later is whole =
    let parts : far / step * step + 0 ≡ far = ap (λ n. far / step * step + n) (sym whole) ∙ div-add-mod' far step in
    let behind : first ≤ℤ valid = grind (arith, ints) in
    omega (arith, ints)

-- the index that is told of a valid time is its first among the times
pub told-position : (count step : ℕ) (first : ℤ) (times : List ℤ) (valid : ℤ) (told : Option ℕ)
    → AreEven count step first times → AllPairs (λ (time other : ℤ). time ≢ other) times
    → IfSome told (λ index. (index < count) × (valid ≡ first +ℤ pos (index * step)))
    → (IsNone told → (index : ℕ) → index < count → valid ≢ first +ℤ pos (index * step))
    → told ≡ position (λ time. int_eq time valid) times
told-position count step first times valid (Some index) even differ found none =
    position_is times index valid differ
    (even.apart index (omega (arith, even.many, found.0)) ∙ ap Some (sym found.1))
told-position count step first times valid None even differ found none =
    position-nowhere times valid (by_test (list_any test times) refl)
  where
    test : ℤ → Bool
    test time = int_eq time valid

    by_test : (b : Bool) → list_any test times ≡ b → false ≡ list_any test times
    by_test false is = sym is
    by_test true is =
        let any = Any-from_list_any test times is in
        let stands : get_or times any.0 any.1 ≡ first +ℤ pos (any.0 * step) =
        same_Some (get_or times any.0 any.1) (first +ℤ pos (any.0 * step))
        (sym (slice_get-get_or times any.0 any.1 any.2) ∙ even.apart any.0 any.2) in
        absurd (none refl any.0 (omega (arith, any.2, even.many))
        (sym ((signed_Decides any.1 valid).0 any.4) ∙ sym any.3 ∙ stands))

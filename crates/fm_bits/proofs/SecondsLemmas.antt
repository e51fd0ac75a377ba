-- The whole seconds of a value are its product as whole numbers, and are refused only where there is none that fits.
use Rattle.std.proofs.Common.{◌≡◌, ◌==◌, ℕ, suc, zero, ◌+◌, ◌-◌, ◌*◌, ◌/◌, ◌%◌, ◌^◌, ◌<◌, inl, inr, sym, ap, ◌∙◌, arith, subst, refl, Bool, true, false, ℤ, pos, negsuc, ◌*ℤ◌, unsigned_abs, Option, Some, None, option_and_then, IfSome, IfNone, FitsSigned, w64, if◌then◌else◌}
use Rattle.std.proofs.lemmas.Bool.{cond-true, cond-false, le-ltb, eq-eqb}
use Rattle.std.proofs.lemmas.Bool.Decides.{nat_tests, eqb_tells}
use Rattle.std.proofs.lemmas.Int.{ints}
use Rattle.std.proofs.lemmas.Nat.{pow_pos, div-add-mod', div-mul-add, mod-mul-add}
use Rattle.nc_model.specs.Pattern.{in_i64, with_sign, whole_times, IsTimes}
use Rattle.nc_model.specs.declared.pattern.Value.{Value}
use Rattle.nc_model.specs.declared.pattern.Value.TheVariants.{Finite, Infinite, NotANumber}

-- what fits is the number with its sign
in_i64-some : (negative : Bool) (n : ℕ) (z : ℤ) → in_i64 negative n ≡ Some z → z ≡ with_sign negative n
in_i64-some true n z e = grind (arith, nat_tests)
in_i64-some false n z e = grind (arith, nat_tests)

-- a number that fits is taken
in_i64-fits : (negative : Bool) (n : ℕ) (z : ℤ) → FitsSigned w64 z → z ≡ with_sign negative n
    → in_i64 negative n ≡ Some z
in_i64-fits true zero z fits e = ap Some (sym e)
in_i64-fits true (suc n) z fits e =
    let P : ℤ → Type 0 = λ y. FitsSigned w64 y in
    let f : FitsSigned w64 (negsuc n) = subst P e fits in
    cond-false _ _ _ (le-ltb (2 ^ 63) (suc n) (omega (arith, f.sfits))) ∙ ap Some (sym e)
in_i64-fits false n z fits e =
    let P : ℤ → Type 0 = λ y. FitsSigned w64 y in
    let f : FitsSigned w64 (pos n) = subst P e fits in
    cond-false _ _ _ (le-ltb (2 ^ 63 - 1) n (omega (arith, f.sfits))) ∙ ap Some (sym e)

-- a number with a sign, times another
with_sign-mul : (negative : Bool) (n k : ℕ) → with_sign negative n *ℤ pos k ≡ with_sign negative (n * k)
with_sign-mul true zero k = omega (arith, ints)
with_sign-mul true (suc n) k = refl
with_sign-mul false n k = refl

-- the sign of a product is that of the number
sign_of_product : (negative : Bool) (n k : ℕ) (z : ℤ) → 0 < k → z *ℤ pos k ≡ with_sign negative n
    → (unsigned_abs z * k ≡ n) × (z ≡ with_sign negative (unsigned_abs z))
sign_of_product true n k (pos zero) some e = (omega (arith, ints), refl)
sign_of_product true n k (pos (suc a)) some e = absurd (omega (arith, ints))
sign_of_product true n k (negsuc a) some e = (omega (arith, ints), refl)
sign_of_product false n k (pos a) some e = (omega (arith, ints), refl)
sign_of_product false n k (negsuc a) some e = absurd (omega (arith, ints))

-- a quotient that is whole
times_over : (negative : Bool) (n k : ℕ) (z : ℤ) → 0 < k
    → option_and_then (in_i64 negative) (if n % k == 0 then Some (n / k) else None) ≡ Some z
    → z *ℤ pos k ≡ with_sign negative n
times_over negative n k z some h =
    elim (eqb_tells (n % k) 0) [
      | inl t ↦
          let e = in_i64-some negative (n / k) z (sym (ap (option_and_then (in_i64 negative)) (cond-true _ _ _ t.0))
          ∙ h) in
          let back : n / k * k ≡ n = omega (arith, t.1, div-add-mod' n k) in
          ap (λ y. y *ℤ pos k) e ∙ with_sign-mul negative (n / k) k ∙ ap (with_sign negative) back
      | inr t ↦
          let none = sym (ap (option_and_then (in_i64 negative)) (cond-false _ _ _ t.0)) ∙ h in cc
    ]

-- a product that fits is a quotient that is whole
over_times : (negative : Bool) (n k : ℕ) (z : ℤ) → 0 < k → FitsSigned w64 z → z *ℤ pos k ≡ with_sign negative n
    → option_and_then (in_i64 negative) (if n % k == 0 then Some (n / k) else None) ≡ Some z
over_times negative n k z some fits h =
    let t = sign_of_product negative n k z some h in
    let is : n ≡ unsigned_abs z * k + 0 = omega arith in
    let whole : n % k ≡ 0 = ap (λ x. x % k) is ∙ mod-mul-add (unsigned_abs z) k 0 some in
    let quotient : n / k ≡ unsigned_abs z = ap (λ x. x / k) is ∙ div-mul-add (unsigned_abs z) k 0 some in
    ap (option_and_then (in_i64 negative)) (cond-true _ _ _ (eq-eqb (n % k) 0 whole))
    ∙ in_i64-fits negative (n / k) z fits (t.1 ∙ ap (with_sign negative) (sym quotient))

-- what is returned is the product
pub IsTimes-whole_times : (v : Value) (per : ℕ) (z : ℤ) → whole_times v per ≡ Some z → IsTimes v per z
IsTimes-whole_times (Finite negative odd (pos e)) per z h = in_i64-some negative (odd * per * 2 ^ e) z h
    ∙ ap (with_sign negative) (omega arith)
IsTimes-whole_times (Finite negative odd (negsuc e)) per z h =
    times_over negative (odd * per) (2 ^ suc e) z (pow_pos (suc e)) h
IsTimes-whole_times (Infinite negative) per z h = cc
IsTimes-whole_times NotANumber per z h = cc

-- a product that fits is returned
pub whole_times-IsTimes : (v : Value) (per : ℕ) (z : ℤ) → FitsSigned w64 z → IsTimes v per z
    → whole_times v per ≡ Some z
whole_times-IsTimes (Finite negative odd (pos e)) per z fits h =
    in_i64-fits negative (odd * per * 2 ^ e) z fits (h ∙ ap (with_sign negative) (omega arith))
whole_times-IsTimes (Finite negative odd (negsuc e)) per z fits h =
    over_times negative (odd * per) (2 ^ suc e) z (pow_pos (suc e)) fits h
whole_times-IsTimes (Infinite negative) per z fits h = absurd h
whole_times-IsTimes NotANumber per z fits h = absurd h

-- the two clauses of the call
pub whole_times_some : (v : Value) (per : ℕ) (r : Option ℤ) → r ≡ whole_times v per → IfSome r (IsTimes v per)
whole_times_some v per None e = tt
whole_times_some v per (Some z) e = IsTimes-whole_times v per z (sym e)

pub whole_times_none : (v : Value) (per : ℕ) (r : Option ℤ) → r ≡ whole_times v per
    → IfNone r ((z : ℤ) → FitsSigned w64 z → IsTimes v per z → ⊥)
whole_times_none v per None e = λ z fits h. let some = e ∙ whole_times-IsTimes v per z fits h in cc
whole_times_none v per (Some z) e = tt

-- The bits of a float are made of its fields, and its fields are those of the bits.
use Rattle.std.proofs.Common.{◌≡◌, ℕ, ◌+◌, ◌*◌, ◌/◌, ◌^◌, ◌%◌, ◌<◌, inl, inr, Bool, true, false, nat_le, sym, ap, ◌∙◌, arith}
use Rattle.std.proofs.Math.Nat.{div-eq_of_lt, div-eq_of_lt-le, div-div-eq-div-mul, mod-add-div', mul_comm}
use Rattle.std.proofs.lemmas.Bool.{le-leb, lt-leb, cases_lt, cond-true, cond-false}
use Rattle.std.proofs.lemmas.Nat.{pow-add, mul-add-lt, div-mul-add, mod-mul-add}
use Rattle.nc_model.specs.Pattern.{bits_of_fields, float_value, value_of_fields}

-- the value by equal fields
same_fields : (w f : ℕ) {s t : Bool} {a b x y : ℕ} → s ≡ t → a ≡ b → x ≡ y
    → value_of_fields w f s a x ≡ value_of_fields w f t b y
same_fields w f p q r = cc

pub float_value-bits_of_fields : (w f : ℕ) (negative : Bool) (b x : ℕ) → b < 2 ^ w → x < 2 ^ f
    → float_value w f (bits_of_fields w f negative b x) ≡ value_of_fields w f negative b x
float_value-bits_of_fields w f true b x p q =
    let n = 2 ^ (w + f) + b * 2 ^ f + x in
    let rows : n ≡ (1 * 2 ^ w + b) * 2 ^ f + x = omega (arith, pow-add 2 w f) in
    let high : n / 2 ^ f ≡ 1 * 2 ^ w + b = ap (λ y. y / 2 ^ f) rows ∙ div-mul-add (1 * 2 ^ w + b) (2 ^ f) x q in
    let sign : nat_le (2 ^ (w + f)) n ≡ true = le-leb (2 ^ (w + f)) n (omega arith) in
    let exponent : n / 2 ^ f % 2 ^ w ≡ b = ap (λ y. y % 2 ^ w) high ∙ mod-mul-add 1 (2 ^ w) b p in
    let fraction : n % 2 ^ f ≡ x = ap (λ y. y % 2 ^ f) rows ∙ mod-mul-add (1 * 2 ^ w + b) (2 ^ f) x q in
    same_fields w f sign exponent fraction
float_value-bits_of_fields w f false b x p q =
    let n = 0 + b * 2 ^ f + x in
    let rows : n ≡ (0 * 2 ^ w + b) * 2 ^ f + x = omega arith in
    let high : n / 2 ^ f ≡ 0 * 2 ^ w + b = ap (λ y. y / 2 ^ f) rows ∙ div-mul-add (0 * 2 ^ w + b) (2 ^ f) x q in
    let sign : nat_le (2 ^ (w + f)) n ≡ false =
    lt-leb (2 ^ (w + f)) n (omega (arith, mul-add-lt b (2 ^ f) x (2 ^ w) p q, pow-add 2 w f)) in
    let exponent : n / 2 ^ f % 2 ^ w ≡ b = ap (λ y. y % 2 ^ w) high ∙ mod-mul-add 0 (2 ^ w) b p in
    let fraction : n % 2 ^ f ≡ x = ap (λ y. y % 2 ^ f) rows ∙ mod-mul-add (0 * 2 ^ w + b) (2 ^ f) x q in
    same_fields w f sign exponent fraction

-- a number by what stands in its lower bits, in its higher ones, and above them
by_rows : (w f n top : ℕ) → n / (2 ^ f * 2 ^ w) ≡ top → n ≡ top * 2 ^ (w + f) + n / 2 ^ f % 2 ^ w * 2 ^ f + n % 2 ^ f
by_rows w f n top e =
    let above : n / 2 ^ f / 2 ^ w ≡ top = div-div-eq-div-mul n (2 ^ f) (2 ^ w) ∙ e in
    let rows : n / 2 ^ f % 2 ^ w + n / 2 ^ f / 2 ^ w * 2 ^ w ≡ n / 2 ^ f = mod-add-div' (n / 2 ^ f) (2 ^ w) in
    let high : n / 2 ^ f ≡ n / 2 ^ f % 2 ^ w + top * 2 ^ w = sym rows ∙ ap (λ y. n / 2 ^ f % 2 ^ w + y * 2 ^ w) above in
    let whole : n ≡ n % 2 ^ f + (n / 2 ^ f % 2 ^ w + top * 2 ^ w) * 2 ^ f = sym (mod-add-div' n (2 ^ f))
    ∙ ap (λ y. n % 2 ^ f + y * 2 ^ f) high in
    omega (arith, ap (λ y. top * y) (pow-add 2 w f))

pub bits_of_fields-of_bits : (w f n : ℕ) → n < 2 * 2 ^ (w + f)
    → n ≡ bits_of_fields w f (nat_le (2 ^ (w + f)) n) (n / 2 ^ f % 2 ^ w) (n % 2 ^ f)
bits_of_fields-of_bits w f n small =
    let rest = λ (y : ℕ). y + n / 2 ^ f % 2 ^ w * 2 ^ f + n % 2 ^ f in
    let powers : 2 ^ (w + f) ≡ 2 ^ f * 2 ^ w = pow-add 2 w f ∙ mul_comm (2 ^ w) (2 ^ f) in
    elim (cases_lt n (2 ^ (w + f))) [
      | inl t ↦
          let none : n / (2 ^ f * 2 ^ w) ≡ 0 = div-eq_of_lt (omega arith) in
          by_rows w f n 0 none ∙ ap rest (omega arith ∙ sym (cond-false _ _ _ (lt-leb (2 ^ (w + f)) n t)))
      | inr t ↦
          let one : n / (2 ^ f * 2 ^ w) ≡ 1 = div-eq_of_lt-le (2 ^ f * 2 ^ w) (omega arith) (omega arith) in
          by_rows w f n 1 one ∙ ap rest (omega arith ∙ sym (cond-true _ _ _ (le-leb (2 ^ (w + f)) n t)))
    ]

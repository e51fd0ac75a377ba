-- The texts of magnitudes denote them: digits, decimals, and the hexadecimal form.
use Rattle.std.proofs.Common.{◌≡◌, inl, inr, ℕ, zero, suc, ◌+◌, ◌-◌, ◌*◌, ◌/◌, ◌%◌, ◌^◌, ◌<◌, ◌≤◌, false, List, [], ◌∷◌, ◌++◌, codes, cond, length, sym, ap, subst, ◌∙◌, arith, refl, append_assoc, append-nil, ℤ, pos, negsuc, neg_ℤ, ◌+ℤ◌, unsigned_abs}
use Rattle.std.specs.Int.{is_negative}
use Rattle.std.specs.Char.{digit_value}
use Rattle.std.specs.Fmt.{decimal, digit_glyph}
use Rattle.std.specs.Str.Parse.{AllDigits, digits_value}
use Rattle.std.proofs.Math.Arith.{mod-mul}
use Rattle.std.proofs.Math.Nat.{div-le_self, pow-zero, pow-suc, mod-lt, one-le-pow, mod-one, mul-div-mul_right, mod-eq-sub-mod, mod-eq_of_lt}
use Rattle.std.proofs.lemmas.Bool.{cases_eq, cond-false, le-ltb}
use Rattle.std.proofs.lemmas.Bool.Decides.{nat_tests}
use Rattle.std.proofs.lemmas.Fmt.{decimal_is_IsNumeral_wide}
use Rattle.std.proofs.lemmas.Int.{ints}
use Rattle.std.proofs.lemmas.Int.Digits.{digits_push, digits_value_push}
use Rattle.std.proofs.lemmas.Nat.{mul-pow, pow-add, div-add-mod'}
use Rattle.nc_model.specs.Pattern.{with_sign}
use Rattle.fm_bits.specs.Denotes.{DenotesDecimal, DenotesHexadecimal, DenotesMagnitude, after_point}
use Rattle.fm_bits.specs.Digits.{fixed_digits}
use Rattle.fm_bits.specs.Text.{whole_text, decimals_text, hex_text, hex_fraction, hex_len, exponent_text, high_index, magnitude_text}
use Rattle.fm_bits.proofs.DigitLemmas.{length-fixed_digits}
use Rattle.fm_bits.proofs.FormLemmas.{Form, whole, decimals, hexadecimal, form_of}
use Rattle.fm_bits.proofs.HexLemmas.{abs-add, hex_fraction-none, hex_fraction-some, one_alone}
use Rattle.fm_bits.proofs.OddLemmas.{high_index_is, hex_number, two_pow-mul_four}
use Rattle.fm_bits.proofs.TextLemmas.{IsSmall}

-- a digit writes its own value
glyph_value : (d : ℕ) → d < 16 → digit_value (digit_glyph false d) ≡ d
glyph_value d h = grind (arith, nat_tests)

-- the digits of a number after others
pub value-fixed_digits : (base k n : ℕ) (front : List ℕ) → 2 ≤ base → base ≤ 16
    → digits_value base (front ++ fixed_digits base k n) ≡ digits_value base front * base ^ k + n % base ^ k
unfolding fixed_digits
value-fixed_digits base zero n front p q =
    let none : front ++ [] ≡ front = ap (λ (l : List ℕ). l) (append-nil front) in
    let one : n % base ^ 0 ≡ 0 = ap (λ x. n % x) (pow-zero base) ∙ mod-one n in
    let unit : digits_value base front * base ^ 0 ≡ digits_value base front =
    ap (λ x. digits_value base front * x) (pow-zero base) ∙ omega arith in
    ap (digits_value base) none ∙ omega (arith, one, unit)
value-fixed_digits base (suc k) n front p q =
    let last = digit_glyph false (n % base) in
    let less = fixed_digits base k (n / base) in
    let some : 0 < base ^ k = one-le-pow k base (omega arith) in
    let below : n % base < 16 = omega (arith, mod-lt n {m = base} (omega arith)) in
    let split : n % base ^ suc k ≡ (n / base % base ^ k) * base + n % base = ap (λ y. n % y) (pow-suc base k)
    ∙ mod-mul n some (omega arith) in
    let power : digits_value base front * base ^ suc k ≡ digits_value base front * base ^ k * base =
    ap (λ y. digits_value base front * y) (pow-suc base k) ∙ omega arith in
    ap (digits_value base) (sym (append_assoc front less (last ∷ [])))
    ∙ digits_value_push base (front ++ less) last
    ∙ ap (λ y. y * base + digit_value last) (value-fixed_digits base k (n / base) front p q)
    ∙ ap (λ y. (digits_value base front * base ^ k + n / base % base ^ k) * base + y) (glyph_value (n % base) below)
    ∙ omega (arith, split, power)

-- they are digits of the base
pub fixed_digits_are : (base k n : ℕ) → 2 ≤ base → base ≤ 16 → AllDigits base (fixed_digits base k n)
unfolding fixed_digits
fixed_digits_are base zero n p q = tt
fixed_digits_are base (suc k) n p q =
    let below : n % base < base = mod-lt n {m = base} (omega arith) in
    let digit : digit_value (digit_glyph false (n % base)) < base =
    omega (arith, glyph_value (n % base) (omega arith)) in
    digits_push base (fixed_digits base k (n / base)) (digit_glyph false (n % base))
    (fixed_digits_are base k (n / base) p q) digit

-- all digits
whole_denotes : (odd k : ℕ) → odd * 2 ^ k < 2 ^ 127 → DenotesDecimal (whole_text (odd * 2 ^ k)) odd (pos k)
unfolding whole_text
whole_denotes odd k small =
    let n = odd * 2 ^ k in
    let digits = decimal_is_IsNumeral_wide n (omega arith) in
    let value : digits_value 10 (decimal n ++ 48 ∷ []) ≡ n * 10 = digits_value_push 10 (decimal n) 48
    ∙ omega (arith, digits.1) in
    record {
      front = decimal n;
      back = 48 ∷ [];
      front_digits = digits.0;
      back_digits = (omega arith, (omega arith, tt));
      text_is = sym (append_assoc (decimal n) (46 ∷ []) (48 ∷ []));
      number = record {
        up = 0;
        other_up = k;
        level = omega (arith, ints);
        same = ap (λ x. x * 2 ^ 0) value
            ∙ omega arith;
      };
    }

-- odd * 5^k is a whole number of 10^k and the decimals
five_split : (odd k : ℕ) → odd / 2 ^ k * 10 ^ k + odd * 5 ^ k % 10 ^ k ≡ odd * 5 ^ k
five_split odd k =
    let some : 0 < 5 ^ k = one-le-pow k 5 (omega arith) in
    let ten : 10 ^ k ≡ 2 ^ k * 5 ^ k = mul-pow 2 5 k in
    let over : odd * 5 ^ k / 10 ^ k ≡ odd / 2 ^ k = ap (λ y. odd * 5 ^ k / y) ten
    ∙ mul-div-mul_right odd (2 ^ k) some in
    ap (λ x. x * 10 ^ k + odd * 5 ^ k % 10 ^ k) (sym over) ∙ div-add-mod' (odd * 5 ^ k) (10 ^ k)

decimals_denote : (odd j : ℕ) → odd < 2 ^ 64 → DenotesDecimal (decimals_text odd (suc j)) odd (negsuc j)
unfolding decimals_text
decimals_denote odd j small =
    let k = suc j in
    let front = decimal (odd / 2 ^ k) in
    let back = fixed_digits 10 k (odd * 5 ^ k) in
    let digits = decimal_is_IsNumeral_wide (odd / 2 ^ k) (omega (arith, div-le_self odd (2 ^ k))) in
    let size : length back ≡ k = length-fixed_digits 10 k (odd * 5 ^ k) in
    let value : digits_value 10 (front ++ back) ≡ odd * 5 ^ k =
    value-fixed_digits 10 k (odd * 5 ^ k) front (omega arith) (omega arith)
    ∙ ap (λ x. x * 10 ^ k + odd * 5 ^ k % 10 ^ k) digits.1 ∙ five_split odd k in
    let ten : 10 ^ length back ≡ 5 ^ k * 2 ^ k = ap (λ x. 10 ^ x) size ∙ mul-pow 5 2 k in
    record {
      front = front;
      back = back;
      front_digits = digits.0;
      back_digits = (omega arith, fixed_digits_are 10 k (odd * 5 ^ k) (omega arith) (omega arith));
      text_is = refl;
      number = record {
        up = k;
        other_up = 0;
        level = omega (arith, ints);
        same = ap (λ x. x * 2 ^ k) value ∙ sym (ap (λ x. odd * x * 1) ten ∙ omega arith);
      };
    }

-- an exponent is its sign and its digits
exponent_is : (e : ℤ) → unsigned_abs e < 10 ^ 64
    → with_sign (is_negative e) (digits_value 10 (decimal (unsigned_abs e))) ≡ e
exponent_is (pos n) small = cond-false _ _ _ (le-ltb n 0 (omega arith)) ∙ ap pos ((decimal_is_IsNumeral_wide n small).1)
exponent_is (negsuc n) small = ap (λ x. neg_ℤ (pos x)) ((decimal_is_IsNumeral_wide (suc n) small).1)

-- the fraction of the hexadecimal form: its digits, and the number with the one before them
record Fraction (odd : ℕ) : Type 0 where
  back : List ℕ
  digits : AllDigits 16 back
  text_is : hex_fraction odd ≡ after_point back
  number : (16 ^ length back + digits_value 16 back) * 2 ^ high_index odd ≡ odd * 16 ^ length back

fraction_of : (odd : ℕ) → odd % 2 ≡ 1 → odd < 2 ^ 64 → Fraction odd
fraction_of odd p small =
    elim (cases_eq (high_index odd) 0) [
      | inl z ↦
          let one : odd ≡ 1 = one_alone odd p small z in
          let unit : 2 ^ high_index odd ≡ 1 = ap (λ x. 2 ^ x) z in
          record { back = []; digits = tt; text_is = hex_fraction-none odd z; number = omega (arith, one, unit) }
      | inr n ↦
          let w = high_index odd in
          let h = hex_len w in
          let k = 4 * h - w in
          let number = odd * 2 ^ k in
          let high = high_index_is odd (omega arith) small in
          let fits : w ≤ 4 * h = omega arith in
          let range = hex_number odd w h fits high.1 high.2 in
          let some : 0 < h = omega arith in
          let back = fixed_digits 16 h number in
          let size : length back ≡ h = length-fixed_digits 16 h number in
          let rest : number % 16 ^ h ≡ number - 16 ^ h = mod-eq-sub-mod range.0
          ∙ mod-eq_of_lt (omega (arith, range.1, range.0)) in
          let value : 16 ^ h + digits_value 16 back ≡ number =
          omega (arith, value-fixed_digits 16 h number [] (omega arith) (omega arith), rest, range.0) in
          let sum : k + w ≡ 4 * h = omega arith in
          let whole : 2 ^ k * 2 ^ w ≡ 16 ^ h = sym (pow-add 2 k w) ∙ ap (λ x. 2 ^ x) sum ∙ two_pow-mul_four h in
          let all : (16 ^ h + digits_value 16 back) * 2 ^ w ≡ odd * 16 ^ h = ap (λ x. x * 2 ^ w) value
          ∙ mul_assoc odd (2 ^ k) (2 ^ w) ∙ ap (λ x. odd * x) whole in
          record {
            back = back;
            digits = fixed_digits_are 16 h number (omega arith) (omega arith);
            text_is = hex_fraction-some odd n ∙ pointed back (subst (λ (x : ℕ). 0 < x) (sym size) some);
            number = subst (λ (x : ℕ). (16 ^ x + digits_value 16 back) * 2 ^ w ≡ odd * 16 ^ x) (sym size) all;
          }
    ]
  where
    pointed : (back : List ℕ) → 0 < length back → 46 ∷ back ≡ after_point back
    pointed [] some = absurd (omega arith)
    pointed (x ∷ xs) some = refl

    mul_assoc : (a b c : ℕ) → a * b * c ≡ a * (b * c)
    mul_assoc a b c = omega arith

hex_denotes : (odd : ℕ) (e : ℤ) → odd % 2 ≡ 1 → odd < 2 ^ 64 → unsigned_abs e < 2 ^ 64
    → DenotesHexadecimal (hex_text odd e) odd e
unfolding hex_text exponent_text
hex_denotes odd e p small low =
    let f = fraction_of odd p small in
    let w = high_index odd in
    let high = high_index_is odd (omega arith) small in
    let size : unsigned_abs (e +ℤ pos w) < 10 ^ 64 = omega (arith, abs-add e w, high.0) in
    let exponent = e +ℤ pos w in
    record {
      back = f.back;
      is_below = is_negative exponent;
      power = decimal (unsigned_abs exponent);
      back_digits = f.digits;
      power_digits = (decimal_is_IsNumeral_wide (unsigned_abs exponent) size).0;
      text_is = cut (hex_fraction odd) (after_point f.back) (cond (is_negative exponent) (codes "-") (codes "+"))
          (decimal (unsigned_abs exponent)) f.text_is;
      number = record {
        up = w;
        other_up = 0;
        level = omega (arith, ints, exponent_is exponent size);
        same = f.number ∙ omega arith;
      };
    }
  where
    cut : (fraction back sign power : List ℕ) → fraction ≡ back
        → codes "0x1" ++ fraction ++ codes "p" ++ (sign ++ power) ≡ codes "0x1" ++ back ++ codes "p" ++ sign ++ power
    cut fraction back sign power same = rw same (sym (append_assoc (codes "0x1" ++ back ++ codes "p") sign power))

-- each of the three forms
pub magnitude_denotes : (odd : ℕ) (e : ℤ) → IsSmall odd e → DenotesMagnitude (magnitude_text odd e) odd e
magnitude_denotes odd e m = by_form (form_of odd e m.reduced)
  where
    by_form : Form odd e → DenotesMagnitude (magnitude_text odd e) odd e
    by_form (whole k p q h) =
        inr (inl (subst (λ (l : List ℕ). DenotesDecimal l odd e) (sym h)
        (subst (λ (x : ℤ). DenotesDecimal (whole_text (odd * 2 ^ k)) odd x) (sym p) (whole_denotes odd k q))))
    by_form (decimals j p o q h) =
        inr (inl (subst (λ (l : List ℕ). DenotesDecimal l odd e) (sym h)
        (subst (λ (x : ℤ). DenotesDecimal (decimals_text odd (suc j)) odd x) (sym p)
        (decimals_denote odd j m.odd_in))))
    by_form (hexadecimal o h) =
        inr (inr (subst (λ (l : List ℕ). DenotesHexadecimal l odd e) (sym h)
        (hex_denotes odd e o m.odd_in m.exponent_in)))

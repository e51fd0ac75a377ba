-- How large a number of n digits is.
use Rattle.std.proofs.Common.{◌≡◌, ℕ, ◌+◌, ◌-◌, ◌*◌, ◌^◌, ◌<◌, ◌≤◌, true, List, [], ◌∷◌, length, ap, subst, ◌∙◌, arith, add-one, leb}
use Rattle.std.specs.Char.{is_ascii_digit}
use Rattle.std.specs.List.{list_all}
use Rattle.std.proofs.Math.Nat.{pow-suc, pow-le-pow_right}
use Rattle.std.proofs.lemmas.Bool.{and_parts, leb-true}
use Rattle.nc_model.specs.Stamp.{number_after}
use Rattle.dap_model.specs.Constraint.{SpellsNumber}

-- one digit more
pub digit_below : (value count byte : ℕ) → value < 10 ^ count → is_ascii_digit byte ≡ true
    → value * 10 + (byte - 48) < 10 ^ (count + 1)
digit_below value count byte below passes =
    let digit : byte ≤ 57 = leb-true byte 57 (and_parts (leb 48 byte) (leb byte 57) passes).1 in
    let power : 10 ^ (count + 1) ≡ 10 ^ count * 10 = ap (λ (n : ℕ). 10 ^ n) (add-one count) ∙ pow-suc 10 count in
    omega arith

pub number_after-below : (value count : ℕ) (digits : List ℕ) → value < 10 ^ count
    → list_all is_ascii_digit digits ≡ true → number_after value digits < 10 ^ (count + length digits)
number_after-below value count [] below passes = subst (λ (n : ℕ). value < 10 ^ n) (omega arith) below
number_after-below value count (byte ∷ digits) below passes =
    let tests = and_parts (is_ascii_digit byte) (list_all is_ascii_digit digits) passes in
    subst (λ (n : ℕ). number_after (value * 10 + (byte - 48)) digits < 10 ^ n) (omega arith)
    (number_after-below (value * 10 + (byte - 48)) (count + 1) digits
    (digit_below value count byte below tests.0) tests.1)

-- a number of a constraint is below 10^18
pub number_below : (text : List ℕ) (number : ℕ) → SpellsNumber text number → number < 10 ^ 18
number_below text number s =
    let below = number_after-below 0 0 text (omega arith) s.digits in
    let more : 10 ^ (0 + length text) ≤ 10 ^ 18 =
    pow-le-pow_right {n = 10} (omega arith) {i = 0 + length text} {j = 18} (omega (arith, s.few)) in
    omega (arith, s.value)

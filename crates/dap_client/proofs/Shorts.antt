-- Numbers of two bytes, in four with their sign, are read exactly.
use Rattle.std.proofs.Common.{◌≡◌, ℕ, suc, ◌+◌, ◌-◌, ◌*◌, ◌/◌, ◌%◌, ◌^◌, ◌<◌, ◌≤◌, Bool, true, false, cond, nat_lt, List, [], ◌∷◌, ◌++◌, Some, None, refl, sym, ap, ap₂, subst, ◌∙◌, arith}
use Rattle.std.proofs.lemmas.Bool.{lt-ltb, le-ltb, ltb-true, ltb-false}
use Rattle.std.proofs.lemmas.Nat.{be_bytes_4}
use Rattle.std.proofs.lemmas.Option.{same_Some}
use Rattle.std.specs.Int.{w16, w32, cast_signed, cast_unsigned}
use Rattle.fm_base.proofs.Exact.{Then, Is}
use Rattle.nc_model.specs.UnitsReading.{byte_at}
use Rattle.fm_base.proofs.Parts.{Example}
use Rattle.dap_model.specs.declared.declaration.DapKind.TheVariants.{Int16}
use Rattle.dap_model.specs.Xdr.{number_bytes}
use Rattle.dap_client.specs.DataReading.{octet_at, short_at, sign_byte, upper_byte}
use Rattle.dap_client.specs.Reading.{byte_as, mark_at}
use Rattle.dap_client.proofs.Exactly.{ExactTo, ExactTo-as, ExactTo-pure}
use Rattle.dap_client.proofs.Joined.{then_so}
use Rattle.dap_client.proofs.Octets.{ExactTo-octet, IsOctet}
use Rattle.dap_client.proofs.Leaves.{IsByte, IsMark, IsMeant, ExactTo-byte_as, ExactTo-mark, mark_of, mark_text}
use Rattle.dap_client.proofs.Fixed.{IsFixed, bytes_of_4, ExactTo-byte}

-- a number of two bytes in four, by its sign and its two bytes
pub record IsShort (text : List ℕ) (bits : ℕ) : Type 0 where
  pub small : bits < 2 ^ 16
  pub text_is : text ≡ number_bytes Int16 bits

-- a byte is an upper one of this sign
record IsUpper (positive : Bool) (byte upper : ℕ) : Type 0 where
  same : byte ≡ upper
  sign : nat_lt byte 128 ≡ positive

upper_is : (positive : Bool) (byte upper : ℕ) → upper_byte positive byte ≡ Some upper → IsUpper positive byte upper
unfolding upper_byte
upper_is positive byte upper e = by_test (nat_lt byte 128) positive refl refl e
  where
    by_test : (low sign : Bool) → nat_lt byte 128 ≡ low → positive ≡ sign
        → cond low (cond sign (Some byte) None) (cond sign None (Some byte)) ≡ Some upper
        → IsUpper positive byte upper
    by_test true true is also e = record { same = same_Some byte upper e; sign = is ∙ sym also }
    by_test true false is also e = absurd cc
    by_test false true is also e = absurd cc
    by_test false false is also e = record { same = same_Some byte upper e; sign = is ∙ sym also }

is_upper : (positive : Bool) (byte : ℕ) → nat_lt byte 128 ≡ positive → upper_byte positive byte ≡ Some byte
unfolding upper_byte
is_upper true byte e = rw e refl
is_upper false byte e = rw e refl

-- the four bytes of a number of two bytes
short_text : (positive : Bool) (upper lower : ℕ) → upper < 256 → lower < 256 → nat_lt upper 128 ≡ positive
    → sign_byte positive ∷ sign_byte positive ∷ upper ∷ lower ∷ [] ≡ number_bytes Int16 (upper * 256 + lower)
unfolding number_bytes
short_text true upper lower high low sign =
    let n = upper * 256 + lower in
    let below = ltb-true upper 128 sign in
    let small : n < 2 ^ 15 = omega (arith, below, low) in
    let same : cast_unsigned w32 (cast_signed w16 n) ≡ n = rw (lt-ltb n (2 ^ 15) small) refl in
    sym (be_bytes_4 (0 ∷ 0 ∷ upper ∷ lower ∷ []) _ refl
    (bytes_of_4 0 0 upper lower (omega arith) (omega arith) high low) (same ∙ omega arith))
short_text false upper lower high low sign =
    let n = upper * 256 + lower in
    let over = ltb-false upper 128 sign in
    let large : 2 ^ 15 ≤ n = omega (arith, over) in
    let same : cast_unsigned w32 (cast_signed w16 n) ≡ 2 ^ 32 - suc (2 ^ 16 - suc n) =
    rw (le-ltb n (2 ^ 15) large) refl in
    sym (be_bytes_4 (255 ∷ 255 ∷ upper ∷ lower ∷ []) _ refl
    (bytes_of_4 255 255 upper lower (omega arith) (omega arith) high low) (same ∙ omega (arith, high, low, over)))

abbrev ShortParts : List ℕ → ℕ → Type 0
ShortParts = Then (IsMark 0 255) (λ positive. Then (IsFixed (sign_byte positive ∷ [])) (λ sign.
    Then (IsMeant IsByte (upper_byte positive)) (λ upper. Then IsOctet (λ lower. Is (upper * 256 + lower)))))

short_whole : (text : List ℕ) (bits : ℕ) → ShortParts text bits → IsShort text bits
short_whole text bits s =
    let positive = s.a in
    let upper = s.second.second in
    let lower = upper.second in
    let means = upper_is positive upper.first.byte upper.a upper.first.meant in
    let high : upper.a < 256 = subst (λ (b : ℕ). b < 256) means.same upper.first.holds in
    let sign : nat_lt upper.a 128 ≡ positive = ap (λ (b : ℕ). nat_lt b 128) (sym means.same) ∙ means.sign in
    let first : s.front ≡ sign_byte positive ∷ [] = mark_text 0 255 s.front positive s.first in
    let whole : text ≡ sign_byte positive ∷ sign_byte positive ∷ upper.a ∷ lower.a ∷ [] =
    s.text_is
    ∙ ap₂ (λ (x y : List ℕ). x ++ y) first (s.second.text_is
    ∙ ap₂ (λ (x y : List ℕ). x ++ y) s.second.first.text_is (upper.text_is
    ∙ ap₂ (λ (x y : List ℕ). x ++ y) (upper.first.text_is ∙ ap (λ (b : ℕ). b ∷ []) means.same) (lower.text_is
    ∙ ap₂ (λ (x y : List ℕ). x ++ y) lower.first.text_is lower.second.text_is))) in
    let low = lower.first.small in
    subst (IsShort text) lower.second.value (record {
      small = omega (arith, high, low);
      text_is = whole ∙ short_text positive upper.a lower.a high low sign;
    })

short_split : (text : List ℕ) (bits : ℕ) → IsShort text bits → ShortParts text bits
short_split text bits t =
    let small = t.small in
    let upper = bits / 256 in
    let lower = bits % 256 in
    let positive = nat_lt upper 128 in
    let is : upper * 256 + lower ≡ bits = omega arith in
    let high : upper < 256 = omega (arith, small) in
    let low : lower < 256 = omega arith in
    record {
      a = positive;
      front = sign_byte positive ∷ [];
      back = sign_byte positive ∷ upper ∷ lower ∷ [];
      first = mark_of 0 255 refl positive;
      second = record {
        a = tt;
        front = sign_byte positive ∷ [];
        back = upper ∷ lower ∷ [];
        first = record { text_is = refl };
        second = record {
          a = upper;
          front = upper ∷ [];
          back = lower ∷ [];
          first = record { byte = upper; holds = high; meant = is_upper positive upper refl; text_is = refl };
          second = record {
            a = lower;
            front = lower ∷ [];
            back = [];
            first = record { small = low; text_is = refl };
            second = record { value = is; text_is = refl };
            text_is = refl;
          };
          text_is = refl;
        };
        text_is = refl;
      };
      text_is = t.text_is ∙ ap (number_bytes Int16) (sym is) ∙ sym (short_text positive upper lower high low refl);
    }

pub ExactTo-short : (n : ℕ) → ExactTo n IsShort short_at
unfolding short_at
ExactTo-short n =
    ExactTo-as n ShortParts IsShort short_at short_whole short_split
    (then_so n (IsMark 0 255) _ (mark_at 0 255) _ (ExactTo-mark n 0 255)
    (λ positive front s. then_so n (IsFixed (sign_byte positive ∷ [])) _ (byte_at (sign_byte positive)) _
    (ExactTo-byte n (sign_byte positive))
    (λ sign front s. then_so n (IsMeant IsByte (upper_byte positive)) _ (byte_as (upper_byte positive)) _
    (ExactTo-byte_as n IsByte (upper_byte positive) (λ byte small. small) (upper_of positive))
    (λ upper front s. then_so n IsOctet (λ lower. Is (upper * 256 + lower)) octet_at _ (ExactTo-octet n)
    (λ lower front s. ExactTo-pure n (upper * 256 + lower))))))
  where
    upper_of : (positive : Bool) → Example (IsMeant IsByte (upper_byte positive))
    upper_of true = record {
      text = 0 ∷ [];
      a = 0;
      spelled = record { byte = 0; holds = omega arith; meant = is_upper true 0 refl; text_is = refl };
    }
    upper_of false = record {
      text = 255 ∷ [];
      a = 255;
      spelled = record { byte = 255; holds = omega arith; meant = is_upper false 255 refl; text_is = refl };
    }

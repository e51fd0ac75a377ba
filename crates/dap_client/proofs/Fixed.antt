-- Fixed bytes and runs of any bytes are read exactly.
use Rattle.std.proofs.Common.{◌≡◌, ℕ, zero, suc, ◌+◌, ◌-◌, ◌<◌, ◌≤◌, Bool, true, false, cond, ltb, ◌==◌, List, [], ◌∷◌, ◌++◌, length, take, drop, replicate, Option, Some, None, Ok, Err, refl, sym, ap, ap₂, subst, ◌∙◌, append-nil, length-append, take-append-drop, arith}
use Rattle.std.proofs.lemmas.Bool.{eqb-true, ltb-true, ltb-false, le-ltb, eq-eqb}
use Rattle.std.proofs.lemmas.List.{take_at, drop_at, length-replicate, length-take}
use Rattle.std.specs.Option.{option_map_or}
use Rattle.fm_base.specs.Input.{Input}
use Rattle.nc_model.specs.Format.{IsBytes}
use Rattle.nc_model.specs.UnitsReading.{byte_at, past}
use Rattle.fm_base.proofs.Exact.{input, Then, Is, done}
use Rattle.nc_model.proofs.Steps.{IsOfParts-bytes}
use Rattle.dap_client.specs.Reading.{byte_as, bytes_at, fixed_at}
use Rattle.dap_client.proofs.Leaves.{Any, IsMeant, ExactTo-byte_as}
use Rattle.dap_client.proofs.Exactly.{ExactTo, ExactTo-as, ExactTo-same, ExactTo-pure}
use Rattle.dap_client.proofs.Joined.{then_so}

-- this text
pub record IsFixed (fixed text : List ℕ) (unit : Unit {0}) : Type 0 where
  pub text_is : text ≡ fixed

-- this byte
abbrev only : ℕ → ℕ → Option (Unit {0})
only byte other = cond (other == byte) (Some tt) None

byte_is : (byte : ℕ) (i : Input) → byte_at byte i ≡ byte_as (only byte) i
unfolding byte_at byte_as
byte_is byte i = by_rest i.at i.rest
  where
    by_test : (at : ℕ) (rest : List ℕ) (b : Bool)
        → cond b (done {A = Unit {0} × Input} {E = ℕ} (tt, input (at + 1) rest)) (Err at)
        ≡ option_map_or (λ (x : Unit {0}). Ok (x, input (at + 1) rest)) (cond b (Some tt) None) (Err at)
    by_test at rest true = refl
    by_test at rest false = refl

    by_rest : (at : ℕ) (rest : List ℕ) → byte_at byte (input at rest) ≡ byte_as (only byte) (input at rest)
    by_rest at [] = refl
    by_rest at (other ∷ rest) = by_test at rest (other == byte)

only_this : (byte other : ℕ) (unit : Unit {0}) → only byte other ≡ Some unit → other ≡ byte
only_this byte other unit e = by_test (other == byte) refl e
  where
    by_test : (b : Bool) → (other == byte) ≡ b → cond b (Some tt) None ≡ Some unit → other ≡ byte
    by_test true is e = eqb-true other byte is
    by_test false is e = absurd cc

this_only : (byte : ℕ) (unit : Unit {0}) → only byte byte ≡ Some unit
this_only byte unit = rw (eq-eqb byte byte refl) refl

pub ExactTo-byte : (n byte : ℕ) → ExactTo n (IsFixed (byte ∷ [])) (byte_at byte)
ExactTo-byte n byte =
    ExactTo-same n (IsFixed (byte ∷ [])) (byte_as (only byte)) (byte_at byte) (byte_is byte)
    (ExactTo-as n (IsMeant Any (only byte)) (IsFixed (byte ∷ [])) (byte_as (only byte))
    (λ text unit s. record {
      text_is = s.text_is ∙ ap (λ (b : ℕ). b ∷ []) (only_this byte s.byte unit s.meant);
    })
    (λ text unit s. record { byte = byte; holds = tt; meant = this_only byte unit; text_is = s.text_is })
    (ExactTo-byte_as n Any (only byte) (λ byte small. tt) (record {
      text = byte ∷ [];
      a = tt;
      spelled = record { byte = byte; holds = tt; meant = this_only byte tt; text_is = refl };
    })))

-- these bytes are read exactly
pub ExactTo-fixed : (n : ℕ) (fixed : List ℕ) → ExactTo n (IsFixed fixed) (fixed_at fixed)
unfolding fixed_at
ExactTo-fixed n [] =
    ExactTo-as n (Is tt) (IsFixed []) (fixed_at [])
    (λ text unit s. record { text_is = s.text_is })
    (λ text unit s. record { value = refl; text_is = s.text_is })
    (ExactTo-pure n tt)
ExactTo-fixed n (byte ∷ fixed) =
    ExactTo-as n (Then (IsFixed (byte ∷ [])) (λ unit. IsFixed fixed)) (IsFixed (byte ∷ fixed)) (fixed_at (byte ∷ fixed))
    (λ text unit s. record {
      text_is = s.text_is ∙ ap₂ (λ (x y : List ℕ). x ++ y) s.first.text_is s.second.text_is;
    })
    (λ text unit s. record {
      a = tt;
      front = byte ∷ [];
      back = fixed;
      first = record { text_is = refl };
      second = record { text_is = refl };
      text_is = s.text_is;
    })
    (then_so n (IsFixed (byte ∷ [])) (λ unit. IsFixed fixed) (byte_at byte) (λ unit. fixed_at fixed)
    (ExactTo-byte n byte)
    (λ unit front s. ExactTo-fixed n fixed))

-- n bytes
pub record AreBytes (n : ℕ) (text bytes : List ℕ) : Type 0 where
  pub size : length bytes ≡ n
  pub bytes_are : IsBytes bytes
  pub text_is : text ≡ bytes

IsBytes-zeros : (n : ℕ) → IsBytes (replicate n 0)
IsBytes-zeros zero i = omega arith
IsBytes-zeros (suc n) zero = omega arith
IsBytes-zeros (suc n) (suc i) = IsBytes-zeros n i

pub IsBytes-cons : (byte : ℕ) (bytes : List ℕ) → byte < 256 → IsBytes bytes → IsBytes (byte ∷ bytes)
IsBytes-cons byte bytes small of zero = small
IsBytes-cons byte bytes small of (suc i) = of i

-- no byte, and four
pub no_bytes : IsBytes []
no_bytes i = omega arith

pub bytes_of_4 : (a b c d : ℕ) → a < 256 → b < 256 → c < 256 → d < 256 → IsBytes (a ∷ b ∷ c ∷ d ∷ [])
bytes_of_4 a b c d small_a small_b small_c small_d =
    IsBytes-cons a (b ∷ c ∷ d ∷ []) small_a
    (IsBytes-cons b (c ∷ d ∷ []) small_b (IsBytes-cons c (d ∷ []) small_c (IsBytes-cons d [] small_d no_bytes)))

pub IsBytes-append : (xs ys : List ℕ) → IsBytes xs → IsBytes ys → IsBytes (xs ++ ys)
IsBytes-append [] ys first second = second
IsBytes-append (x ∷ xs) ys first second =
    IsBytes-cons x (xs ++ ys) (first 0) (IsBytes-append xs ys (λ i. first (suc i)) second)

guard : {A : Type 0} (b : Bool) (k : ℕ) (x y : A) → cond b (Err k) (done x) ≡ done {E = ℕ} y → (b ≡ false) × (x ≡ y)
guard true k x y e = absurd cc
guard false k x y e = (refl, cc)

stopped : {A : Type 0} (b : Bool) (k at : ℕ) (x : A) → cond b (Err k) (done x) ≡ Err at → (b ≡ true) × (at ≡ k)
stopped true k at x e = (refl, cc)
stopped false k at x e = absurd cc

pub ExactTo-bytes : (n count : ℕ) → ExactTo n (AreBytes count) (bytes_at count)
unfolding bytes_at
ExactTo-bytes n count = record {
  some = record {
    text = replicate count 0;
    a = replicate count 0;
    spelled = record { size = length-replicate count 0; bytes_are = IsBytes-zeros count; text_is = refl };
  };
  takes = λ i a j of fits e.
      let g = guard (ltb (length i.rest) count) (i.at + length i.rest) (take count i.rest, past count i) (a, j) e in
      let long : count ≤ length i.rest = ltb-false _ _ g.0 in
      let value : take count i.rest ≡ a = ap (λ (p : List ℕ × Input). p.0) g.1 in
      let left : past count i ≡ j = ap (λ (p : List ℕ × Input). p.1) g.1 in
      let size : length (take count i.rest) ≡ count = omega (arith, length-take count i.rest) in
      let parts = take-append-drop count i.rest in
      let front : IsBytes (take count i.rest) =
      IsOfParts-bytes.front (take count i.rest) (drop count i.rest) (subst IsBytes (sym parts) of) in
      record {
        took = record {
          text = take count i.rest;
          spelled = record {
            size = ap length (sym value) ∙ size;
            bytes_are = subst IsBytes value front;
            text_is = value;
          };
          split = sym parts ∙ ap (λ (k : Input). take count i.rest ++ k.rest) left;
          offset = omega (arith, ap (λ (k : Input). k.at) left, size);
        };
        reach = λ front others more b split s.
            omega (arith, size, ap length s.text_is, s.size, length-append front more);
      };
  fails = λ i at of fits e.
      let g = stopped (ltb (length i.rest) count) (i.at + length i.rest) at (take count i.rest, past count i) e in
      let short : length i.rest < count = ltb-true (length i.rest) count g.0 in
      let zeros = replicate (count - length i.rest) 0 in
      let size : length (i.rest ++ zeros) ≡ count =
      omega (arith, short, length-append i.rest zeros, length-replicate {A = ℕ} (count - length i.rest) 0) in
      record {
        front = i.rest;
        others = [];
        more = zeros;
        a = i.rest ++ zeros;
        split = sym (append-nil i.rest);
        offset = g.1;
        spelled = record {
          size = size;
          bytes_are = IsBytes-append i.rest zeros of (IsBytes-zeros (count - length i.rest));
          text_is = refl;
        };
        reach = λ front others more b split s.
            omega (arith, ap length split, length-append front others);
      };
  again = λ at text rest a fits s.
      let size : length text ≡ count = ap length s.text_is ∙ s.size in
      let long : ltb (length (text ++ rest)) count ≡ false = le-ltb _ _ (omega (arith, length-append text rest)) in
      rw (long, take_at text rest count size, drop_at text rest count size, size, ← s.text_is) refl;
}

-- A size and the bracket behind it are read exactly, and a fault stands where no size goes on.
use Rattle.std.proofs.Common.{◌≡◌, ℕ, zero, suc, ◌+◌, ◌^◌, ◌<◌, ◌≤◌, Bool, true, false, cond, ◌&&◌, nat_lt, ◌==◌, List, [], ◌∷◌, ◌++◌, length, decimal, Ok, Err, refl, sym, ap, ◌∙◌, append-nil, length-append, arith}
use Rattle.std.proofs.lemmas.Fmt.{decimal_digit}
use Rattle.fm_base.specs.Input.{Input}
use Rattle.fm_base.proofs.Exact.{input, done, ok_pair}
use Rattle.fm_base.proofs.Local.{fault_is}
use Rattle.dap_client.specs.Reading.{bracket_at, is_next_digit, size_at, size_from, with_digit}
use Rattle.dap_client.proofs.Exactly.{ReadsTo, Dies, ExactTo}
use Rattle.dap_client.proofs.Sizes.{IsSize, by_digit, digits, size_again, size_died, size_took}

-- what is read of bytes doesn't end before where it begins
never_back_err : (limit value at : ℕ) (rest : List ℕ) (fault : ℕ) → size_from limit value at rest ≡ Err fault
    → at ≤ fault
unfolding size_from bracket_at
never_back_err limit value at [] fault e = let same = fault_is {A = ℕ} fault at (sym e) in omega (arith, same)
never_back_err limit value at (byte ∷ rest) fault e =
    by_test (is_next_digit limit value byte) refl (never_back_err limit (with_digit value byte) (at + 1) rest fault)
  where
    bracket : (b : Bool)
        → cond b (done {A = ℕ × Input} {E = ℕ} (value, input (at + 1) rest)) (Err at) ≡ Err fault → at ≤ fault
    bracket true f = absurd cc
    bracket false f = let same = fault_is {A = ℕ} fault at (sym f) in omega (arith, same)

    by_test : (b : Bool) → is_next_digit limit value byte ≡ b
        → (size_from limit (with_digit value byte) (at + 1) rest ≡ Err fault → at + 1 ≤ fault) → at ≤ fault
    by_test true is later =
        let beyond = later (sym (by_digit limit value at byte rest true is) ∙ e) in
        omega (arith, beyond)
    by_test false is later =
        bracket ((byte == 93) && nat_lt 0 value) (sym (by_digit limit value at byte rest false is) ∙ e)

never_back : (limit value at : ℕ) (rest : List ℕ) (n : ℕ) (j : Input) → size_from limit value at rest ≡ Ok (n, j)
    → at ≤ j.at
unfolding size_from bracket_at
never_back limit value at [] n j e = absurd cc
never_back limit value at (byte ∷ rest) n j e =
    by_test (is_next_digit limit value byte) refl (never_back limit (with_digit value byte) (at + 1) rest n j)
  where
    bracket : (b : Bool)
        → cond b (done {A = ℕ × Input} {E = ℕ} (value, input (at + 1) rest)) (Err at) ≡ Ok (n, j) → at ≤ j.at
    bracket true f = let k = ok_pair {E = ℕ} value n (input (at + 1) rest) j f in
        omega (arith, ap (λ (i : Input). i.at) k.1)
    bracket false f = absurd cc

    by_test : (b : Bool) → is_next_digit limit value byte ≡ b
        → (size_from limit (with_digit value byte) (at + 1) rest ≡ Ok (n, j) → at + 1 ≤ j.at) → at ≤ j.at
    by_test true is later =
        let beyond = later (sym (by_digit limit value at byte rest true is) ∙ e) in
        omega (arith, beyond)
    by_test false is later =
        bracket ((byte == 93) && nat_lt 0 value) (sym (by_digit limit value at byte rest false is) ∙ e)

-- A text that is read to its end is read beyond its front where other bytes follow the front, also where that fails.
reads_past_err : (limit value at : ℕ) (front others more : List ℕ) (size k fault : ℕ)
    → size_from limit value at (front ++ more) ≡ Ok (size, input k [])
    → size_from limit value at (front ++ others) ≡ Err fault → at + length front ≤ fault
unfolding size_from bracket_at
reads_past_err limit value at [] others more size k fault whole e =
    let later = never_back_err limit value at others fault e in omega (arith, later)
reads_past_err limit value at (byte ∷ front) others more size k fault whole e =
    by_test (is_next_digit limit value byte) refl
    (reads_past_err limit (with_digit value byte) (at + 1) front others more size k fault)
  where
    bracket : (b : Bool)
        → cond b (done {A = ℕ × Input} {E = ℕ} (value, input (at + 1) (front ++ more))) (Err at) ≡ Ok (size, input k [])
        → cond b (done {A = ℕ × Input} {E = ℕ} (value, input (at + 1) (front ++ others))) (Err at) ≡ Err fault
        → at + length (byte ∷ front) ≤ fault
    bracket true f g = absurd cc
    bracket false f g = absurd cc

    by_test : (b : Bool) → is_next_digit limit value byte ≡ b
        → (size_from limit (with_digit value byte) (at + 1) (front ++ more) ≡ Ok (size, input k [])
        → size_from limit (with_digit value byte) (at + 1) (front ++ others) ≡ Err fault
        → at + 1 + length front ≤ fault)
        → at + length (byte ∷ front) ≤ fault
    by_test true is later =
        let beyond = later (sym (by_digit limit value at byte (front ++ more) true is) ∙ whole)
        (sym (by_digit limit value at byte (front ++ others) true is) ∙ e) in
        omega (arith, beyond)
    by_test false is later =
        bracket ((byte == 93) && nat_lt 0 value)
        (sym (by_digit limit value at byte (front ++ more) false is) ∙ whole)
        (sym (by_digit limit value at byte (front ++ others) false is) ∙ e)

-- the same where it is read
reads_past_ok : (limit value at : ℕ) (front others more : List ℕ) (size k n : ℕ) (j : Input)
    → size_from limit value at (front ++ more) ≡ Ok (size, input k [])
    → size_from limit value at (front ++ others) ≡ Ok (n, j) → at ≤ j.at → at + length front ≤ j.at
unfolding size_from bracket_at
reads_past_ok limit value at [] others more size k n j whole e later = omega (arith, later)
reads_past_ok limit value at (byte ∷ front) others more size k n j whole e later =
    by_test (is_next_digit limit value byte) refl
    (reads_past_ok limit (with_digit value byte) (at + 1) front others more size k n j)
  where
    bracket : (b : Bool)
        → cond b (done {A = ℕ × Input} {E = ℕ} (value, input (at + 1) (front ++ more))) (Err at) ≡ Ok (size, input k [])
        → cond b (done {A = ℕ × Input} {E = ℕ} (value, input (at + 1) (front ++ others))) (Err at) ≡ Ok (n, j)
        → at + length (byte ∷ front) ≤ j.at
    bracket true f g =
        let left = ok_pair {E = ℕ} value size (input (at + 1) (front ++ more)) (input k []) f in
        let right = ok_pair {E = ℕ} value n (input (at + 1) (front ++ others)) j g in
        let none : front ++ more ≡ [] = ap (λ (i : Input). i.rest) left.1 in
        omega (arith, ap length none, length-append front more, ap (λ (i : Input). i.at) right.1)
    bracket false f g = absurd cc

    by_test : (b : Bool) → is_next_digit limit value byte ≡ b
        → (size_from limit (with_digit value byte) (at + 1) (front ++ more) ≡ Ok (size, input k [])
        → size_from limit (with_digit value byte) (at + 1) (front ++ others) ≡ Ok (n, j) → at + 1 ≤ j.at
        → at + 1 + length front ≤ j.at)
        → at + length (byte ∷ front) ≤ j.at
    by_test true is later =
        let next = with_digit value byte in
        let read = sym (by_digit limit value at byte (front ++ others) true is) ∙ e in
        let beyond = later
        (sym (by_digit limit value at byte (front ++ more) true is) ∙ whole) read
        (never_back limit next (at + 1) (front ++ others) n j read) in
        omega (arith, beyond)
    by_test false is later =
        bracket ((byte == 93) && nat_lt 0 value)
        (sym (by_digit limit value at byte (front ++ more) false is) ∙ whole)
        (sym (by_digit limit value at byte (front ++ others) false is) ∙ e)

-- a size begins no longer text than what is read or passed over
size_whole : (limit : ℕ) → limit < 2 ^ 32 → (at : ℕ) (text : List ℕ) (size : ℕ) → IsSize limit text size
    → size_from limit 0 at text ≡ Ok (size, input (at + length text) [])
size_whole limit small at text size s =
    ap (λ (l : List ℕ). size_from limit 0 at l) (sym (append-nil text)) ∙ size_again limit small at text [] size s

size_takes : (limit : ℕ) → limit < 2 ^ 32 → (i : Input) (size : ℕ) (j : Input)
    → size_from limit 0 i.at i.rest ≡ Ok (size, j) → ReadsTo (IsSize limit) i size j
unfolding digits
size_takes limit small i size j e =
    let took = size_took limit small 0 i.at i.rest size j (omega arith) e in
    record {
      took = record {
        text = took.text;
        spelled = record {
          some = took.spelled.some;
          within = took.spelled.within;
          text_is = took.spelled.text_is;
        };
        split = took.split;
        offset = took.offset;
      };
      reach = λ front others more b split s.
          let whole = size_whole limit small i.at (front ++ more) b s in
          let read = ap (λ (l : List ℕ). size_from limit 0 i.at l) (sym split) ∙ e in
          let beyond = reads_past_ok limit 0 i.at front others more b (i.at + length (front ++ more)) size j whole read
          (omega (arith, took.offset)) in
          omega (arith, beyond, took.offset);
    }

-- a size that goes on from the digits of a number
going_on : (limit reached : ℕ) (front : List ℕ) → 1 ≤ limit → reached ≤ limit → front ≡ digits reached
    → (more : List ℕ) × (size : ℕ) × IsSize limit (front ++ more) size
unfolding digits
going_on limit zero front some within is = (
  49 ∷ 93 ∷ [],
  1,
  record {
    some = omega arith;
    within = some;
    text_is = ap (λ (l : List ℕ). l ++ 49 ∷ 93 ∷ []) is
        ∙ ap (λ (l : List ℕ). l ++ 93 ∷ []) (sym (decimal_digit 1 (omega arith)));
  },
)
going_on limit (suc n) front some within is = (
  93 ∷ [],
  suc n,
  record {
    some = omega arith;
    within = within;
    text_is = ap (λ (l : List ℕ). l ++ 93 ∷ []) is;
  },
)

size_fails : (limit : ℕ) → limit < 2 ^ 32 → 1 ≤ limit → (i : Input) (fault : ℕ)
    → size_from limit 0 i.at i.rest ≡ Err fault → Dies (IsSize limit) i fault
unfolding digits
size_fails limit small some i fault e =
    let died = size_died limit small 0 i.at i.rest fault (omega arith) e in
    let on = going_on limit died.reached died.front some died.within died.digits_are in
    record {
      front = died.front;
      others = died.others;
      more = on.0;
      a = on.1;
      split = died.split;
      offset = died.offset;
      spelled = on.2;
      reach = λ front others more b split s.
          let whole = size_whole limit small i.at (front ++ more) b s in
          let read = ap (λ (l : List ℕ). size_from limit 0 i.at l) (sym split) ∙ e in
          let beyond = reads_past_err limit 0 i.at front others more b (i.at + length (front ++ more)) fault
          whole read in
          omega (arith, beyond, died.offset);
    }

-- a size and its bracket are read exactly
pub ExactTo-size : (n limit : ℕ) → 1 ≤ limit → limit < 2 ^ 32 → ExactTo n (IsSize limit) (size_at limit)
unfolding size_at
ExactTo-size n limit some small = record {
  some = record {
    text = decimal 1 ++ 93 ∷ [];
    a = 1;
    spelled = record { some = omega arith; within = some; text_is = refl };
  };
  takes = λ i size j of fits e. size_takes limit small i size j e;
  fails = λ i fault of fits e. size_fails limit small some i fault e;
  again = λ at text rest size fits s. size_again limit small at text rest size s;
}

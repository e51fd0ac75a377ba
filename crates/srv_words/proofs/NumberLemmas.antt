-- A text is read as the number of 32 bits of which it is the decimal, and no other text is read as it.
use Rattle.std.proofs.Common.{◌≡◌, ℕ, ◌<◌, ◌^◌, Bool, true, false, ◌&&◌, nat_lt, List, Some, None, Ok, Err, Result, refl, sym, ap, subst, ◌∙◌, arith}
use Rattle.std.proofs.lemmas.Bool.{ltb-true, lt-ltb}
use Rattle.std.proofs.lemmas.Str.{IsUtf8-from_ascii}
use Rattle.srv_words.specs.Reads.{if_so}
use Rattle.std.proofs.lemmas.Fmt.{IsAscii-decimal, parse-decimal, decimal_is_IsNumeral}
use Rattle.std.specs.Fmt.{decimal}
use Rattle.std.specs.Str.{IsAscii, IsUtf8, bytes_eq}
use Rattle.std.specs.Str.Parse.{ParsesUnsigned, digits_value}
use Rattle.fm_base.proofs.ListLemmas.{same_bytes, bytes_same}
use Rattle.fm_base.proofs.OptionLemmas.{none_unless}
use Rattle.srv_words.specs.Values.{decimal_of}

-- what is there only where two tests pass
pub both_pass : {A : Type 0} (a b : Bool) (x y : A) → if_so (a && b) x ≡ Some y
    → (a ≡ true) × (b ≡ true) × (x ≡ y)
both_pass true true x y is = (refl, refl, cc)
both_pass true false x y is = absurd cc
both_pass false b x y is = absurd cc

both_passing : {A : Type 0} (a b : Bool) (x : A) → a ≡ true → b ≡ true → if_so (a && b) x ≡ Some x
both_passing true true x first second = refl
both_passing true false x first second = absurd cc
both_passing false b x first second = absurd cc

decimal_of-decimal : (n : ℕ) (text : List ℕ) → n < 2 ^ 32 → text ≡ decimal n → decimal_of text ≡ Some n
unfolding decimal_of
decimal_of-decimal n text fits is =
    let number : digits_value 10 text ≡ n =
    ap (digits_value 10) is ∙ (decimal_is_IsNumeral n (omega (arith, fits))).1 in
    subst (λ (m : ℕ). if_so (bytes_eq text (decimal m) && nat_lt m (2 ^ 32)) m ≡ Some n) (sym number)
    (both_passing (bytes_eq text (decimal n)) (nat_lt n (2 ^ 32)) n (same_bytes text (decimal n) is)
    (lt-ltb n (2 ^ 32) fits))

pub decimal_of-some : (text : List ℕ) (n : ℕ) → decimal_of text ≡ Some n → (text ≡ decimal n) × (n < 2 ^ 32)
unfolding decimal_of
decimal_of-some text n is =
    let m : ℕ = digits_value 10 text in
    let there = both_pass (bytes_eq text (decimal m)) (nat_lt m (2 ^ 32)) m n is in (
      bytes_same text (decimal m) there.0 ∙ ap decimal there.2,
      subst (λ (k : ℕ). k < 2 ^ 32) there.2 (ltb-true m (2 ^ 32) there.1),
    )

-- a text that is read parses as its number
parses_if_read : {E : Type 0} (text : List ℕ) (n : ℕ) (r : Result ℕ E) → ParsesUnsigned 32 10 text r
    → decimal_of text ≡ Some n → r ≡ Ok n
parses_if_read text n r h is =
    let read = decimal_of-some text n is in
    parse-decimal 32 n text r read.1 (omega (arith, read.1)) read.0 h

-- bytes that aren't UTF-8 are no number
pub none_not_utf8 : (text : List ℕ) → ¬ IsUtf8 text → None ≡ decimal_of text
none_not_utf8 text other =
    none_unless (decimal_of text) (λ (n : ℕ) is.
    let read = decimal_of-some text n is in
    other (IsUtf8-from_ascii text (subst IsAscii (sym read.0) (IsAscii-decimal n (omega (arith, read.1))))))

not_both : {E : Type 0} (r : Result ℕ E) (e : E) (n : ℕ) → r ≡ Err e → r ≡ Ok n → ⊥
not_both r e n failed parsed = cc

same_number : {E : Type 0} (r : Result ℕ E) (n m : ℕ) → r ≡ Ok n → r ≡ Ok m → m ≡ n
same_number r n m first second = cc

-- nor is what doesn't parse
pub none_not_parsed : {E : Type 0} (text : List ℕ) (e : E) → ParsesUnsigned 32 10 text (Err e) → None ≡ decimal_of text
none_not_parsed text e h =
    none_unless (decimal_of text) (λ (n : ℕ) is. not_both (Err e) e n refl (parses_if_read text n (Err e) h is))

-- nor is a text other than the decimal of what it parses as
pub none_not_same : {E : Type 0} (text : List ℕ) (n : ℕ) (r : Result ℕ E) → ParsesUnsigned 32 10 text r → r ≡ Ok n
    → (text ≡ decimal n → ⊥) → None ≡ decimal_of text
none_not_same text n r h parsed other =
    none_unless (decimal_of text) (λ (m : ℕ) is.
    other ((decimal_of-some text m is).0 ∙ ap decimal (same_number r n m parsed (parses_if_read text m r h is))))

pub some_same : (text : List ℕ) (n : ℕ) → n < 2 ^ 32 → text ≡ decimal n → Some n ≡ decimal_of text
some_same text n fits is = sym (decimal_of-decimal n text fits is)

pub ruleset numbers = (none_not_utf8, none_not_parsed, none_not_same, some_same)

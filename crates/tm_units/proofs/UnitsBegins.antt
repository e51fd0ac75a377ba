-- What a part begins with, and what is out of its range in one.
use Rattle.std.proofs.Common.{◌≡◌, ℕ, ◌<◌, ◌≤◌, Bool, true, false, List, [], ◌∷◌, ◌++◌, length, refl, sym, ap, subst, ◌∙◌, arith}
use Rattle.std.specs.Char.{is_ascii_digit}
use Rattle.std.specs.List.{list_all}
use Rattle.nc_model.specs.UnitsRanges.{Out, OutAfterByte, OutNumber}
use Rattle.nc_model.specs.UnitsReading.{UnitsParser as Parser, next_passes, byte_at}
use Rattle.nc_model.specs.UnitsSpelling.{SpellsNumberWithin}
use Rattle.fm_base.specs.Parser.{◌>>=◌}
use Rattle.fm_base.proofs.Exact.{input, Stops, Then}
use Rattle.tm_units.proofs.InstantLemmas.{and_parts}
use Rattle.tm_units.proofs.Lawful.{Lawful, Lawful-after}
use Rattle.tm_units.proofs.UnitsRuns.{IsByte}
use Rattle.tm_units.proofs.UnitsTerms.{Lawful-byte}

-- what a text begins with
pub record Begins (text : List ℕ) (byte : ℕ) : Type 0 where
  pub more : List ℕ
  pub text_is : text ≡ byte ∷ more

pub begins_test : (test : ℕ → Bool) (byte : ℕ) (b : Bool) (text rest : List ℕ) → Begins text byte → test byte ≡ b
    → next_passes test (input 0 (text ++ rest)) ≡ b
begins_test test byte b text rest begins e =
    subst (λ (l : List ℕ). next_passes test (input 0 (l ++ rest)) ≡ b) (sym begins.text_is) e

-- the same of a whole text
pub whole_test : (test : ℕ → Bool) (byte : ℕ) (b : Bool) (text : List ℕ) → Begins text byte → test byte ≡ b
    → next_passes test (input 0 text) ≡ b
whole_test test byte b text begins e =
    subst (λ (l : List ℕ). next_passes test (input 0 l) ≡ b) (sym begins.text_is) e

-- a part in front of another
pub begins_before : (byte : ℕ) (text front back : List ℕ) → text ≡ front ++ back → Begins front byte
    → Begins text byte
begins_before byte text front back is begins =
    record { more = begins.more ++ back; text_is = is ∙ ap (λ (l : List ℕ). l ++ back) begins.text_is }

-- what begins with a byte that doesn't pass stops a run
pub stops_at : (test : ℕ → Bool) (byte : ℕ) (back more rest : List ℕ) → back ≡ byte ∷ more → test byte ≡ false
    → Stops test (back ++ rest)
stops_at test byte back more rest begins fails = subst (λ (l : List ℕ). Stops test (l ++ rest)) (sym begins) fails

-- a part after its first byte
abbrev pub After : {A : Type 0} → ℕ → (Bool → List ℕ → A → Type 0) → Bool → List ℕ → A → Type 0
After byte S strict = Then (IsByte byte) (λ u. S strict)

pub after_begins : {A : Type 0} {T : Unit {0} → List ℕ → A → Type 0} (byte : ℕ) (text : List ℕ) (a : A)
    → Then (IsByte byte) T text a → Begins text byte
after_begins byte text a s =
    record { more = s.back; text_is = s.text_is ∙ ap (λ (l : List ℕ). l ++ s.back) s.first }

pub out_after_begins : {O : Out} (byte : ℕ) (offset : ℕ) (text : List ℕ) → OutAfterByte byte O offset text
    → Begins text byte
out_after_begins byte offset text o =
    record { more = o.back; text_is = o.text_is ∙ ap (λ (l : List ℕ). l ++ o.back) o.first }

pub Lawful-after_byte : {A : Type 0} {S : Bool → List ℕ → A → Type 0} {P : A → List ℕ → Type 0} {O : Out}
    {p : Bool → Parser A} (byte : ℕ) → Lawful S P O p
    → Lawful (After byte S) P (OutAfterByte byte O) (λ strict. byte_at byte >>= λ u. p strict)
Lawful-after_byte {S = S} {O = O} {p = p} byte law =
    Lawful-after {T = λ u. S} {U = λ u. O} {q = λ u. p} (Lawful-byte byte) (λ u. law)
    (λ strict a b front back rest s t may. tt) (λ a front back offset s o. tt)

-- a text that begins with a digit
pub record BeginsWithDigit (text : List ℕ) : Type 0 where
  pub byte : ℕ
  pub begins : Begins text byte
  pub digit : is_ascii_digit byte ≡ true

-- digits begin with one
pub digits_begin : (digits : List ℕ) → list_all is_ascii_digit digits ≡ true → 0 < length digits
    → BeginsWithDigit digits
digits_begin [] all some = absurd (omega arith)
digits_begin (x ∷ digits) all some = record {
  byte = x;
  begins = record { more = digits; text_is = refl };
  digit = (and_parts (is_ascii_digit x) (list_all is_ascii_digit digits) all).0;
}

pub number_begins : (strict : Bool) (fewest most low high : ℕ) (text : List ℕ) (n : ℕ) → 1 ≤ fewest
    → SpellsNumberWithin strict fewest most low high text n → BeginsWithDigit text
number_begins strict fewest most low high text n some s =
    digits_begin text s.digits (let enough = s.enough in omega arith)

pub digit_before : (text front back : List ℕ) → text ≡ front ++ back → BeginsWithDigit front → BeginsWithDigit text
digit_before text front back is s =
    record { byte = s.byte; begins = begins_before s.byte text front back is s.begins; digit = s.digit }

pub digit_first : (text rest : List ℕ) → BeginsWithDigit text
    → next_passes is_ascii_digit (input 0 (text ++ rest)) ≡ true
digit_first text rest s = begins_test is_ascii_digit s.byte true text rest s.begins s.digit

pub digit_whole : (text : List ℕ) → BeginsWithDigit text → next_passes is_ascii_digit (input 0 text) ≡ true
digit_whole text s = whole_test is_ascii_digit s.byte true text s.begins s.digit

-- a number out of its range begins with a digit
pub out_number_begins : (most low high offset : ℕ) (text : List ℕ) → OutNumber most low high offset text
    → BeginsWithDigit text
out_number_begins most low high offset text o =
    digit_before text o.front o.more o.text_is
    (subst BeginsWithDigit (sym o.spelled.same) (digits_begin o.value o.spelled.all o.spelled.some))

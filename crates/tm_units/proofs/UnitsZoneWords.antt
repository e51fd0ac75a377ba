-- What holds of words for UTC, and what texts with a letter in front begin with.
use Rattle.std.proofs.Common.{◌≡◌, ◌⊎◌, inl, inr, ℕ, ◌<◌, ◌≤◌, Bool, true, false, if◌then◌else◌, ◌==◌, List, [], ◌∷◌, ◌++◌, codes, ◌≢◌, refl, sym, ap, subst, ◌∙◌, ℤ, pos, arith}
use Rattle.std.proofs.lemmas.Bool.{cases_lt, ne_eqb, eqb-true, lt-ltb}
use Rattle.std.specs.Char.{is_ascii_digit, eq_ignore_ascii_case, to_ascii_lowercase}
use Rattle.nc_model.specs.UnitsRanges.{EitherOut}
use Rattle.nc_model.specs.UnitsReading.{next_passes, next_is_letter, letter_at, letters_at}
use Rattle.fm_base.specs.Parser.{◌>>=◌, pure}
use Rattle.fm_base.proofs.Exact.{input, Anything, Is}
use Rattle.tm_units.proofs.Lawful.{Lawful, NoOut, Seq, Lawful-map, Lawful-outs}
use Rattle.tm_units.proofs.LawfulChoices.{Lawful-either}
use Rattle.tm_units.proofs.UnitsBegins.{Begins, begins_test}
use Rattle.tm_units.proofs.UnitsRuns.{AreLetters, same_letters}
use Rattle.tm_units.proofs.UnitsTerms.{Lawful-letter, Lawful-letters}
use Rattle.tm_units.proofs.UnitsTimes.{EndsTime}

-- a byte that no time goes on with
pub record IsPlain (byte : ℕ) : Type 0 where
  pub digit : is_ascii_digit byte ≡ false
  pub zero_byte : (byte == 48) ≡ false
  pub colon : (byte == 58) ≡ false
  pub point : (byte == 46) ≡ false

pub plain_ends : (byte : ℕ) (text : List ℕ) → Begins text byte → IsPlain byte → EndsTime text
plain_ends byte text begins plain =
    subst EndsTime (sym begins.text_is) (record {
      digit = plain.digit;
      zero_byte = plain.zero_byte;
      colon = plain.colon;
      point = plain.point;
    })

pub nothing_ends : EndsTime []
nothing_ends = record { digit = refl; zero_byte = refl; colon = refl; point = refl }

-- a letter in either case is above the digits
letter_above : (letter byte : ℕ) → 97 ≤ letter → eq_ignore_ascii_case byte letter ≡ true → letter ≤ 122 → 65 ≤ byte
letter_above letter byte low same high =
    elim (cases_lt byte 65) [
      | inr above ↦ above
      | inl below ↦ absurd (not_below below)
    ]
  where
    not_below : byte < 65 → ⊥
    not_below below =
        let small : to_ascii_lowercase byte ≡ byte = rw (lt-ltb _ _ below) refl in
        let big : to_ascii_lowercase letter ≡ letter = grind arith in
        let equal : to_ascii_lowercase byte ≡ to_ascii_lowercase letter =
        eqb-true (to_ascii_lowercase byte) (to_ascii_lowercase letter) same in
        omega (arith, small, big, equal)

letter_plain : (byte : ℕ) → 65 ≤ byte → IsPlain byte
letter_plain byte above = record {
  digit = grind arith;
  zero_byte = ne_eqb byte 48 (λ e. omega arith);
  colon =
      ne_eqb byte 58 (λ e. omega arith);
  point = ne_eqb byte 46 (λ e. omega arith);
}

-- a letter in front
pub record BeginsWithLetter (letter : ℕ) (text : List ℕ) : Type 0 where
  pub byte : ℕ
  pub same : eq_ignore_ascii_case byte letter ≡ true
  pub begins : Begins text byte

pub word_begins : (letter : ℕ) (word text front back : List ℕ) → text ≡ front ++ back
    → AreLetters (letter ∷ word) front tt → BeginsWithLetter letter text
word_begins letter word text front back is s =
    let first = same_letters letter word front s in
    record {
      byte = first.0;
      same = first.3;
      begins = record { more = first.1 ++ back; text_is = is ∙ ap (λ (l : List ℕ). l ++ back) first.2 };
    }

-- what begins with a letter
pub record LetterStarts (text : List ℕ) : Type 0 where
  pub byte : ℕ
  pub begins : Begins text byte
  pub plain : IsPlain byte
  pub above : 65 ≤ byte

pub letter_starts : (letter : ℕ) (text : List ℕ) → 97 ≤ letter → letter ≤ 122 → BeginsWithLetter letter text
    → LetterStarts text
letter_starts letter text low high s =
    let above = letter_above letter s.byte low s.same high in
    record { byte = s.byte; begins = s.begins; plain = letter_plain s.byte above; above = above }

-- a word for UTC
abbrev pub Word : List ℕ → Bool → List ℕ → ℤ → Type 0
Word word = Seq (λ strict. AreLetters word) (λ u strict. Is (pos 0))

Lawful-utc : (word : List ℕ)
    → Lawful (Word word) (λ zone. Anything) NoOut (λ strict. letters_at word >>= λ u. pure (pos 0))
Lawful-utc word = Lawful-map (λ (u : Unit {0}). pos 0) (Lawful-letters word)

utc_begins : (letter : ℕ) (word : List ℕ) (strict : Bool) (text : List ℕ) (zone : ℤ)
    → Word (letter ∷ word) strict text zone → BeginsWithLetter letter text
utc_begins letter word strict text zone s = word_begins letter word text s.front s.back s.text_is s.first

abbrev pub Worded : Bool → List ℕ → ℤ → Type 0
Worded strict text zone = Word (codes "gmt") strict text zone ⊎ Word (codes "utc") strict text zone

abbrev pub Named : Bool → List ℕ → ℤ → Type 0
Named strict text zone = Word (codes "z") strict text zone ⊎ Worded strict text zone

pub named_starts : (strict : Bool) (text : List ℕ) (zone : ℤ) → Named strict text zone → LetterStarts text
named_starts strict text zone (inl s) =
    letter_starts 122 text (omega arith) (omega arith) (utc_begins 122 [] strict text zone s)
named_starts strict text zone (inr (inl s)) =
    letter_starts 103 text (omega arith) (omega arith) (utc_begins 103 (codes "mt") strict text zone s)
named_starts strict text zone (inr (inr s)) =
    letter_starts 117 text (omega arith) (omega arith) (utc_begins 117 (codes "tc") strict text zone s)

-- no letter is two letters
letter_not : (a b : ℕ) (text rest : List ℕ) → to_ascii_lowercase a ≢ to_ascii_lowercase b → BeginsWithLetter a text
    → next_passes (λ other. eq_ignore_ascii_case other b) (input 0 (text ++ rest)) ≡ false
letter_not a b text rest apart s =
    let first : to_ascii_lowercase s.byte ≡ to_ascii_lowercase a =
    eqb-true (to_ascii_lowercase s.byte) (to_ascii_lowercase a) s.same in
    begins_test (λ other. eq_ignore_ascii_case other b) s.byte false text rest s.begins
    (ne_eqb (to_ascii_lowercase s.byte) (to_ascii_lowercase b) (λ e. apart (sym first ∙ e)))

pub letter_is : (a : ℕ) (text rest : List ℕ) → BeginsWithLetter a text
    → next_passes (λ other. eq_ignore_ascii_case other a) (input 0 (text ++ rest)) ≡ true
letter_is a text rest s = begins_test (λ other. eq_ignore_ascii_case other a) s.byte true text rest s.begins s.same

-- two ways in which nothing is out of its range are none
none_out : (offset : ℕ) (text : List ℕ) → EitherOut NoOut NoOut offset text → NoOut offset text
none_out offset text (inl none) = none
none_out offset text (inr none) = none

pub Lawful-named : Lawful Named (λ zone. Anything) NoOut (λ strict i. if next_is_letter 122 i then
    (letter_at 122 >>= λ zulu. pure (pos 0)) i
    else (if next_is_letter 103 i then (letters_at (codes "gmt") >>= λ gmt. pure (pos 0)) i
    else (letters_at (codes "utc") >>= λ utc. pure (pos 0)) i))
Lawful-named =
    Lawful-outs none_out (λ offset text none. inl none)
    (Lawful-either {S = Word (codes "z")} {T = Worded} (λ other. eq_ignore_ascii_case other 122)
    (Lawful-map (λ (u : Unit {0}). pos 0) (Lawful-letter 122))
    (Lawful-outs none_out (λ offset text none. inl none)
    (Lawful-either {S = Word (codes "gmt")} {T = Word (codes "utc")} (λ other. eq_ignore_ascii_case other 103)
    (Lawful-utc (codes "gmt")) (Lawful-utc (codes "utc"))
    (λ strict text rest zone s. letter_is 103 text rest (utc_begins 103 (codes "mt") strict text zone s))
    (λ strict text rest zone s may. letter_not 117 103 text rest (λ e. omega arith)
    (utc_begins 117 (codes "tc") strict text zone s))
    (λ offset rest none. absurd none) (λ offset rest none. absurd none)))
    (λ strict text rest zone s. letter_is 122 text rest (utc_begins 122 [] strict text zone s))
    (λ strict text rest zone s may. elim s [
      | inl gmt ↦ letter_not 103 122 text rest (λ e. omega arith) (utc_begins 103 (codes "mt") strict text zone gmt)
      | inr utc ↦ letter_not 117 122 text rest (λ e. omega arith) (utc_begins 117 (codes "tc") strict text zone utc)
    ])
    (λ offset rest none. absurd none) (λ offset rest none. absurd none))

-- Instants and their texts: what is written is read again, and what is read is what would be written.
use Rattle.std.proofs.Common.{◌≡◌, ℕ, ◌+◌, ◌/◌, ◌%◌, ◌<◌, ◌≤◌, Bool, true, false, ◌&&◌, ◌==◌, nat_le, List, [], ◌∷◌, ◌++◌, length, codes, refl, sym, ap, subst, ◌∙◌, arith}
use Rattle.std.proofs.lemmas.Bool.{leb-true, eqb-true}
use Rattle.std.proofs.lemmas.List.{nil_from_length}
use Rattle.std.specs.Char.{is_ascii_digit}
use Rattle.nc_model.specs.Calendar.{moment_of}
use Rattle.nc_model.specs.Stamp.{number_of, number_at, begins_in_form, is_like}
use Rattle.nc_model.specs.Instant.{instant_form, instant_of, two_digits, four_digits, spelled_instant}

pub and_parts : (a b : Bool) → (a && b) ≡ true → (a ≡ true) × (b ≡ true)
and_parts true b h = (refl, h)
and_parts false b h = absurd cc

-- a digit as written is a digit
pub is_ascii_digit-digit : (k : ℕ) → is_ascii_digit (48 + k % 10) ≡ true
is_ascii_digit-digit k = grind arith

-- the number of two digits
pub number_of-two_digits : (n : ℕ) → n < 100 → number_of (two_digits n) ≡ n
number_of-two_digits n small = omega arith

-- the number of four digits
pub number_of-four_digits : (n : ℕ) → n < 10000 → number_of (four_digits n) ≡ n
number_of-four_digits n small = omega arith

-- the form of a text that is written
begins_in_form-spelled : (year month day hour minute second : ℕ)
    → begins_in_form instant_form (spelled_instant year month day hour minute second) ≡ true
unfolding instant_form
begins_in_form-spelled year month day hour minute second = simp is_ascii_digit-digit

-- what is written is read
pub instant_of-spelled_instant : (year month day hour minute second : ℕ) → year < 10000 → month < 100 → day < 100
    → hour < 100 → minute < 100 → second < 100 → instant_of (spelled_instant year month day hour minute second)
    ≡ moment_of year month day hour minute second
unfolding instant_of number_at
instant_of-spelled_instant year month day hour minute second y m d h n s =
    rw (
      begins_in_form-spelled year month day hour minute second,
      number_of-four_digits year y,
      number_of-two_digits month m,
      number_of-two_digits day d,
      number_of-two_digits hour h,
      number_of-two_digits minute n,
      number_of-two_digits second s,
    ) refl

pub digit_range : (byte : ℕ) → is_ascii_digit byte ≡ true → (48 ≤ byte) × (byte ≤ 57)
digit_range byte h = let parts = and_parts (nat_le 48 byte) (nat_le byte 57) h in
    (leb-true _ _ parts.0, leb-true _ _ parts.1)

two_digits-number_of : (a b : ℕ) → is_ascii_digit a ≡ true → is_ascii_digit b ≡ true
    → two_digits (number_of (a ∷ b ∷ [])) ≡ a ∷ b ∷ []
two_digits-number_of a b ha hb =
    let ra = digit_range a ha in
    let rb = digit_range b hb in
    let first : 48 + number_of (a ∷ b ∷ []) / 10 % 10 ≡ a = omega arith in
    let second : 48 + number_of (a ∷ b ∷ []) % 10 ≡ b = omega arith in
    cc

four_digits-number_of : (a b c d : ℕ) → is_ascii_digit a ≡ true → is_ascii_digit b ≡ true → is_ascii_digit c ≡ true
    → is_ascii_digit d ≡ true → four_digits (number_of (a ∷ b ∷ c ∷ d ∷ [])) ≡ a ∷ b ∷ c ∷ d ∷ []
four_digits-number_of a b c d ha hb hc hd =
    let ra = digit_range a ha in
    let rb = digit_range b hb in
    let rc = digit_range c hc in
    let rd = digit_range d hd in
    let n = number_of (a ∷ b ∷ c ∷ d ∷ []) in
    let first : 48 + n / 100 / 10 % 10 ≡ a = omega arith in
    let second : 48 + n / 100 % 10 ≡ b = omega arith in
    let third : 48 + n / 10 % 10 ≡ c = omega arith in
    let fourth : 48 + n % 10 ≡ d = omega arith in
    cc

-- a text that begins in a form whose first byte is `0`, or another
digit_first : (form text : List ℕ) → begins_in_form (48 ∷ form) text ≡ true → (byte : ℕ) × (rest : List ℕ)
    × (text ≡ byte ∷ rest) × (is_ascii_digit byte ≡ true) × (begins_in_form form rest ≡ true)
digit_first form [] h = absurd cc
digit_first form (byte ∷ rest) h = let parts = and_parts (is_ascii_digit byte) (begins_in_form form rest) h in
    (byte, rest, refl, parts.0, parts.1)

-- two digits in front
record Two (form text : List ℕ) : Type 0 where
  first : ℕ
  second : ℕ
  rest : List ℕ
  text_is : text ≡ first ∷ second ∷ rest
  digits : (is_ascii_digit first ≡ true) × (is_ascii_digit second ≡ true)
  after : begins_in_form form rest ≡ true

two_first : (form text : List ℕ) → begins_in_form (48 ∷ 48 ∷ form) text ≡ true → Two form text
two_first form text h =
    let a = digit_first (48 ∷ form) text h in
    let b = digit_first form a.1 a.4 in
    record {
      first = a.0;
      second = b.0;
      rest = b.1;
      text_is = a.2 ∙ ap (λ (l : List ℕ). a.0 ∷ l) b.2;
      digits =
          (a.3, b.3);
      after = b.4;
    }

-- another byte in front
mark_first : (sample : ℕ) (form text : List ℕ) → (sample == 48) ≡ false → begins_in_form (sample ∷ form) text ≡ true
    → (rest : List ℕ) × (text ≡ sample ∷ rest) × (begins_in_form form rest ≡ true)
mark_first sample form [] other h = absurd cc
mark_first sample form (byte ∷ rest) other h =
    let here : (is_like sample byte && begins_in_form form rest) ≡ true = h in
    let same : is_like sample byte ≡ (byte == sample) = rw other refl in
    let parts = and_parts (byte == sample) (begins_in_form form rest) (rw same at here) in
    (rest, ap (λ (b : ℕ). b ∷ rest) (eqb-true byte sample parts.0), parts.1)

glue : List ℕ → List ℕ → List ℕ → List ℕ → List ℕ → List ℕ → List ℕ
glue year month day hour minute second =
    year ++ codes "-" ++ month ++ codes "-" ++ day ++ codes "T" ++ hour ++ codes ":" ++ minute ++ codes ":"
    ++ second ++ codes "Z"

glue_same : {y y₂ m m₂ d d₂ h h₂ n n₂ s s₂ : List ℕ} → y ≡ y₂ → m ≡ m₂ → d ≡ d₂ → h ≡ h₂ → n ≡ n₂ → s ≡ s₂
    → glue y m d h n s ≡ glue y₂ m₂ d₂ h₂ n₂ s₂
glue_same ey em ed eh en es = cc

-- a text of the form is written so from its numbers
pub spelled_instant-form : (text : List ℕ) → begins_in_form instant_form text ≡ true → length text ≡ 20
    → text ≡ spelled_instant (number_at text 0 4) (number_at text 5 2) (number_at text 8 2) (number_at text 11 2)
    (number_at text 14 2) (number_at text 17 2)
unfolding instant_form number_at glue
spelled_instant-form text h len =
    let century = two_first (48 ∷ 48 ∷ codes "-00-00T00:00:00Z") text h in
    let year = two_first (codes "-00-00T00:00:00Z") century.rest century.after in
    let dash = mark_first 45 (codes "00-00T00:00:00Z") year.rest refl year.after in
    let month = two_first (codes "-00T00:00:00Z") dash.0 dash.2 in
    let dash₂ = mark_first 45 (codes "00T00:00:00Z") month.rest refl month.after in
    let day = two_first (codes "T00:00:00Z") dash₂.0 dash₂.2 in
    let t = mark_first 84 (codes "00:00:00Z") day.rest refl day.after in
    let hour = two_first (codes ":00:00Z") t.0 t.2 in
    let colon = mark_first 58 (codes "00:00Z") hour.rest refl hour.after in
    let minute = two_first (codes ":00Z") colon.0 colon.2 in
    let colon₂ = mark_first 58 (codes "00Z") minute.rest refl minute.after in
    let second = two_first (codes "Z") colon₂.0 colon₂.2 in
    let zulu = mark_first 90 [] second.rest refl second.after in
    let whole : text
    ≡ century.first ∷ century.second ∷ year.first ∷ year.second ∷ 45 ∷ month.first ∷ month.second ∷ 45
    ∷ day.first ∷ day.second ∷ 84 ∷ hour.first ∷ hour.second ∷ 58 ∷ minute.first ∷ minute.second ∷ 58
    ∷ second.first ∷ second.second ∷ 90 ∷ zulu.0 =
    century.text_is ∙ ap (λ (l : List ℕ). century.first ∷ century.second ∷ l) (year.text_is
    ∙ ap (λ (l : List ℕ). year.first ∷ year.second ∷ l) (dash.1
    ∙ ap (λ (l : List ℕ). 45 ∷ l) (month.text_is ∙ ap (λ (l : List ℕ). month.first ∷ month.second ∷ l) (dash₂.1
    ∙ ap (λ (l : List ℕ). 45 ∷ l) (day.text_is
    ∙ ap (λ (l : List ℕ). day.first ∷ day.second ∷ l) (t.1
    ∙ ap (λ (l : List ℕ). 84 ∷ l) (hour.text_is ∙ ap (λ (l : List ℕ). hour.first ∷ hour.second ∷ l) (colon.1
    ∙ ap (λ (l : List ℕ). 58 ∷ l) (minute.text_is
    ∙ ap (λ (l : List ℕ). minute.first ∷ minute.second ∷ l) (colon₂.1
    ∙ ap (λ (l : List ℕ). 58 ∷ l) (second.text_is
    ∙ ap (λ (l : List ℕ). second.first ∷ second.second ∷ l) (zulu.1)))))))))))) in
    let none : zulu.0 ≡ [] = nil_from_length zulu.0 (omega (arith, ap length whole, len)) in
    let all = whole
    ∙ ap (λ (l : List
    ℕ). century.first ∷ century.second ∷ year.first ∷ year.second ∷ 45 ∷ month.first ∷ month.second ∷ 45
    ∷ day.first ∷ day.second ∷ 84 ∷ hour.first ∷ hour.second ∷ 58 ∷ minute.first ∷ minute.second ∷ 58
    ∷ second.first ∷ second.second ∷ 90 ∷ l) none in
    subst (λ (l : List ℕ). l ≡ spelled_instant (number_at l 0 4) (number_at l 5 2) (number_at l 8 2)
    (number_at l 11 2) (number_at l 14 2) (number_at l 17 2)) (sym all)
    (sym (glue_same
    (four_digits-number_of century.first century.second year.first year.second century.digits.0 century.digits.1
    year.digits.0 year.digits.1)
    (two_digits-number_of month.first month.second month.digits.0 month.digits.1)
    (two_digits-number_of day.first day.second day.digits.0 day.digits.1)
    (two_digits-number_of hour.first hour.second hour.digits.0 hour.digits.1)
    (two_digits-number_of minute.first minute.second minute.digits.0 minute.digits.1)
    (two_digits-number_of second.first second.second second.digits.0 second.digits.1)))

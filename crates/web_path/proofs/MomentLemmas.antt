-- The text of each instant in each spelling is read as that instant, and no other text is.
use Rattle.std.proofs.Common.{get_or, ◌≡◌, ℕ, false, List, [], ◌∷◌, ◌==◌, length, Some, refl, sym, ap, ◌∙◌, inl, inr, arith, ℤ}
use Rattle.std.proofs.lemmas.Bool.{cond-true, cond-false, cases_Bool, eqb-true, eq-eqb}
use Rattle.nc_model.specs.Instant.{HasFourDigitYear, instant_of, instant_text_of, text_of_day}
use Rattle.tm_units.proofs.InstantLaws.{Written-instant_of, HasFourDigitYear-written, instant_of-instant_text_of, instant_text_of-instant_of}
use Rattle.web_path.specs.Path.{Spelling, extended, basic, spelled, without_marks}
use Rattle.web_path.specs.Reading.{moment_of, with_marks}

-- what holds of each sixteen bytes holds of a text of that length
sixteen : (P : List ℕ → Type 0)
    → ((b0 b1 b2 b3 b4 b5 b6 b7 b8 b9 b10 b11 b12 b13 b14 b15 : ℕ)
    → P (b0 ∷ b1 ∷ b2 ∷ b3 ∷ b4 ∷ b5 ∷ b6 ∷ b7 ∷ b8 ∷ b9 ∷ b10 ∷ b11 ∷ b12 ∷ b13 ∷ b14 ∷ b15 ∷ []))
    → (text : List ℕ) → length text ≡ 16 → P text
sixteen P each ([]) long = absurd (omega (arith, long))
sixteen P each (b0 ∷ []) long = absurd (omega (arith, long))
sixteen P each (b0 ∷ b1 ∷ []) long = absurd (omega (arith, long))
sixteen P each (b0 ∷ b1 ∷ b2 ∷ []) long = absurd (omega (arith, long))
sixteen P each (b0 ∷ b1 ∷ b2 ∷ b3 ∷ []) long = absurd (omega (arith, long))
sixteen P each (b0 ∷ b1 ∷ b2 ∷ b3 ∷ b4 ∷ []) long = absurd (omega (arith, long))
sixteen P each (b0 ∷ b1 ∷ b2 ∷ b3 ∷ b4 ∷ b5 ∷ []) long = absurd (omega (arith, long))
sixteen P each (b0 ∷ b1 ∷ b2 ∷ b3 ∷ b4 ∷ b5 ∷ b6 ∷ []) long = absurd (omega (arith, long))
sixteen P each (b0 ∷ b1 ∷ b2 ∷ b3 ∷ b4 ∷ b5 ∷ b6 ∷ b7 ∷ []) long = absurd (omega (arith, long))
sixteen P each (b0 ∷ b1 ∷ b2 ∷ b3 ∷ b4 ∷ b5 ∷ b6 ∷ b7 ∷ b8 ∷ []) long = absurd (omega (arith, long))
sixteen P each (b0 ∷ b1 ∷ b2 ∷ b3 ∷ b4 ∷ b5 ∷ b6 ∷ b7 ∷ b8 ∷ b9 ∷ []) long = absurd (omega (arith, long))
sixteen P each (b0 ∷ b1 ∷ b2 ∷ b3 ∷ b4 ∷ b5 ∷ b6 ∷ b7 ∷ b8 ∷ b9 ∷ b10 ∷ []) long = absurd (omega (arith, long))
sixteen P each (b0 ∷ b1 ∷ b2 ∷ b3 ∷ b4 ∷ b5 ∷ b6 ∷ b7 ∷ b8 ∷ b9 ∷ b10 ∷ b11 ∷ []) long = absurd (omega (arith, long))
sixteen P each (b0 ∷ b1 ∷ b2 ∷ b3 ∷ b4 ∷ b5 ∷ b6 ∷ b7 ∷ b8 ∷ b9 ∷ b10 ∷ b11 ∷ b12 ∷ []) long =
    absurd (omega (arith, long))
sixteen P each (b0 ∷ b1 ∷ b2 ∷ b3 ∷ b4 ∷ b5 ∷ b6 ∷ b7 ∷ b8 ∷ b9 ∷ b10 ∷ b11 ∷ b12 ∷ b13 ∷ []) long =
    absurd (omega (arith, long))
sixteen P each (b0 ∷ b1 ∷ b2 ∷ b3 ∷ b4 ∷ b5 ∷ b6 ∷ b7 ∷ b8 ∷ b9 ∷ b10 ∷ b11 ∷ b12 ∷ b13 ∷ b14 ∷ []) long =
    absurd (omega (arith, long))
sixteen P each (b0 ∷ b1 ∷ b2 ∷ b3 ∷ b4 ∷ b5 ∷ b6 ∷ b7 ∷ b8 ∷ b9 ∷ b10 ∷ b11 ∷ b12 ∷ b13 ∷ b14 ∷ b15 ∷ []) long =
    each b0 b1 b2 b3 b4 b5 b6 b7 b8 b9 b10 b11 b12 b13 b14 b15
sixteen P each (b0 ∷ b1 ∷ b2 ∷ b3 ∷ b4 ∷ b5 ∷ b6 ∷ b7 ∷ b8 ∷ b9 ∷ b10 ∷ b11 ∷ b12 ∷ b13 ∷ b14 ∷ b15 ∷ b16 ∷ _) long =
    absurd (omega (arith, long))

-- they are the same with the marks put in and left out
marks : (text : List ℕ) → length text ≡ 16 → text ≡ without_marks (with_marks text)
unfolding with_marks
marks text long =
    sixteen (λ bytes. bytes ≡ without_marks (with_marks bytes))
    (λ (b0 b1 b2 b3 b4 b5 b6 b7 b8 b9 b10 b11 b12 b13 b14 b15 : ℕ). refl) text long

-- the bytes of a text with marks, one by one
abbrev pub marked : List ℕ → List ℕ
marked t =
    get_or t 0 0 ∷ get_or t 1 0 ∷ get_or t 2 0 ∷ get_or t 3 0 ∷ 45 ∷ get_or t 4 0 ∷ get_or t 5 0 ∷ 45
    ∷ get_or t 6 0 ∷ get_or t 7 0 ∷ get_or t 8 0 ∷ get_or t 9 0 ∷ get_or t 10 0 ∷ 58
    ∷ get_or t 11 0 ∷ get_or t 12 0 ∷ 58 ∷ get_or t 13 0 ∷ get_or t 14 0 ∷ get_or t 15 0 ∷ []

pub with_marks-marked : (text : List ℕ) → length text ≡ 16 → with_marks text ≡ marked text
unfolding with_marks
with_marks-marked text long =
    sixteen (λ bytes. with_marks bytes ≡ marked bytes)
    (λ (b0 b1 b2 b3 b4 b5 b6 b7 b8 b9 b10 b11 b12 b13 b14 b15 : ℕ). refl) text long

text_marks : (t : ℤ) → with_marks (without_marks (instant_text_of t)) ≡ instant_text_of t
unfolding with_marks instant_text_of text_of_day
text_marks t = refl

long_of_basic : (t : ℤ) → length (without_marks (instant_text_of t)) ≡ 16
unfolding instant_text_of text_of_day
long_of_basic t = refl

not_short : (t : ℤ) → (length (instant_text_of t) == 16) ≡ false
unfolding instant_text_of text_of_day
not_short t = refl

pub moment_of-spelled : (spelling : Spelling) (t : ℤ) → HasFourDigitYear t → moment_of (spelled spelling t) ≡ Some t
unfolding moment_of
moment_of-spelled extended t within = cond-false _ _ _ (not_short t) ∙ instant_of-instant_text_of t within
moment_of-spelled basic t within =
    cond-true _ _ _ (eq-eqb _ 16 (long_of_basic t))
    ∙ ap instant_of (text_marks t)
    ∙ instant_of-instant_text_of t within

-- the text is that of this instant, in a spelling
pub record IsSpelled (text : List ℕ) (t : ℤ) : Type 0 where
  pub spelling : Spelling
  pub text_is : text ≡ spelled spelling t
  pub within : HasFourDigitYear t

within : (text : List ℕ) (t : ℤ) → instant_of text ≡ Some t → HasFourDigitYear t
within text t is = HasFourDigitYear-written text t (Written-instant_of text t is)

pub IsSpelled-moment_of : (text : List ℕ) (t : ℤ) → moment_of text ≡ Some t → IsSpelled text t
unfolding moment_of
IsSpelled-moment_of text t is =
    elim (cases_Bool (length text == 16)) [
      | inl short ↦ let read = sym (cond-true _ _ _ short) ∙ is in
          record {
            spelling = basic;
            text_is = marks text (eqb-true (length text) 16 short)
                ∙ ap without_marks (instant_text_of-instant_of (with_marks text) t read);
            within = within (with_marks text) t read;
          }
      | inr long ↦ let read = sym (cond-false _ _ _ long) ∙ is in
          record {
            spelling = extended;
            text_is = instant_text_of-instant_of text t read;
            within = within text t read;
          }
    ]

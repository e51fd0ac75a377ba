-- What there is of the numbers below a count.
use Rattle.std.proofs.Common.{◌≡◌, ℕ, zero, suc, ◌<◌, List, ◌∷◌, length, replicate, false, refl, ap, arith}
use Rattle.srv_many.specs.Several.{nth}
use Rattle.srv_workers.specs.Desks.{first_of}

-- what is said of the first holds of each number below a count where what is said of the others does
pub for-each : (P : ℕ → Type 0) (count : ℕ) → P 0 → ((number : ℕ) → number < count → P (suc number))
    → (number : ℕ) → number < suc count → P number
for-each P count first others zero below = first
for-each P count first others (suc number) below = others number (omega (arith, below))

-- the one of a number
pub nth-first : {A : Type 0} (none : A) (count : ℕ) (made : ℕ → A) (number : ℕ) → number < count
    → nth none (first_of count made) number ≡ made number
nth-first none zero made number below = absurd (omega (arith, below))
nth-first none (suc count) made zero below = refl
nth-first none (suc count) made (suc number) below =
    nth-first none count (λ (n : ℕ). made (suc n)) number (omega (arith, below))

-- there are as many
pub length-first : {A : Type 0} (count : ℕ) (made : ℕ → A) → length (first_of count made) ≡ count
length-first zero made = refl
length-first (suc count) made = ap suc (length-first count (λ (n : ℕ). made (suc n)))

-- they are what stands at each number
pub first-nth : {A : Type 0} (none : A) (count : ℕ) (made : ℕ → A)
    → first_of count (nth none (first_of count made)) ≡ first_of count made
first-nth none zero made = refl
first-nth {A} none (suc count) made =
    ap (λ (l : List A). made 0 ∷ l) (first-nth none count (λ (n : ℕ). made (suc n)))

-- the same at each number of equals
pub nth-equal : (count : ℕ) (number : ℕ) → nth false (replicate count false) number ≡ false
nth-equal zero number = refl
nth-equal (suc count) zero = refl
nth-equal (suc count) (suc number) = nth-equal count number

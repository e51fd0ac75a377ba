-- Numbers that rise through all that have a property: each of those is there once.
use Rattle.std.proofs.Common.{◌≡◌, ℕ, zero, suc, ◌+◌, ◌<◌, ◌≤◌, ◌==◌, Bool, true, false, cond, not, All, List, [], ◌∷◌, length, count_by, refl, sym, ap, subst, ◌∙◌, arith}
use Rattle.std.proofs.lemmas.Bool.{eqb-false, eqb-true, ne_eqb}
use Rattle.std.proofs.lemmas.List.Elements.{All-head, All-tail}
use Rattle.std.proofs.lemmas.List.Sums.{sum_by-cons}
use Rattle.srv_verdict.specs.Attempts.{RiseBetween}
use Rattle.srv_verdict.proofs.SeesLemmas.{RiseBetween-le}

-- how many numbers have a property, of the `room` numbers above `low`
abbrev pub many : (ℕ → Bool) → ℕ → ℕ → ℕ
many has low zero = 0
many has low (suc room) = cond (has (suc low)) 1 0 + many has (suc low) room

-- the first of numbers that rise is above the bound, and the others are above it
first-above : (low high x : ℕ) (more : List ℕ) → RiseBetween low high (x ∷ more) → low < x
unfolding RiseBetween
first-above low high x more rise = rise.0

others-above : (low high x : ℕ) (more : List ℕ) → RiseBetween low high (x ∷ more) → RiseBetween x high more
unfolding RiseBetween
others-above low high x more rise = rise.1

-- the others, where the first is the next to the bound, and all of them, where it is not
others-rise : (low high x : ℕ) (more : List ℕ) → x ≡ suc low → RiseBetween low high (x ∷ more)
    → RiseBetween (suc low) high more
others-rise low high x more next rise =
    subst (λ (n : ℕ). RiseBetween n high more) next (others-above low high x more rise)

all-rise : (low high x : ℕ) (more : List ℕ) → suc low < x → RiseBetween low high (x ∷ more)
    → RiseBetween (suc low) high (x ∷ more)
unfolding RiseBetween
all-rise low high x more later rise = (later, rise.1)

-- a number above a bound that is not the next to it
beyond-next : (low x : ℕ) → low < x → (x == suc low) ≡ false → suc low < x
beyond-next low x above off = omega (arith, above, eqb-false x (suc low) off)

-- 1 where a test holds, and else 0
abbrev one_if : Bool → ℕ
one_if b = cond b 1 0

-- a number that has a property counts once
one-here : (has : ℕ → Bool) (n : ℕ) → has n ≡ true → one_if (has n) ≡ 1
one-here has n is = ap one_if is

-- how often a number is there, where the first is another, and where it is the number
count-off : (n x : ℕ) (xs : List ℕ) → (x == n) ≡ false
    → count_by (λ y. y == n) (x ∷ xs) ≡ count_by (λ y. y == n) xs
count-off n x xs off =
    let first : one_if (x == n) ≡ 0 = ap one_if off in
    omega (arith, first, sum_by-cons (λ y. cond (y == n) 1 0) x xs)

count-on : (n x : ℕ) (xs : List ℕ) → (x == n) ≡ true
    → count_by (λ y. y == n) (x ∷ xs) ≡ 1 + count_by (λ y. y == n) xs
count-on n x xs on =
    let first : one_if (x == n) ≡ 1 = ap one_if on in
    omega (arith, first, sum_by-cons (λ y. cond (y == n) 1 0) x xs)

-- a number that is not above the bound is not among them
above-other : (low x n : ℕ) → low < x → n ≤ low → (x == n) ≡ false
above-other low x n above below = ne_eqb x n (λ same. absurd (omega (arith, above, below, same)))

none-below : (low high n : ℕ) (xs : List ℕ) → RiseBetween low high xs → n ≤ low → count_by (λ x. x == n) xs ≡ 0
none-below low high n [] rise below = refl
none-below low high n (x ∷ xs) rise below =
    let above = first-above low high x xs rise in
    let rest = none-below x high n xs (others-above low high x xs rise) (omega (arith, above, below)) in
    count-off n x xs (above-other low x n above below) ∙ rest

-- there are no more of them than numbers with the property: one step, by whether the first is the next to the bound
at-most-step : (has : ℕ → Bool) (low room high x : ℕ) (xs : List ℕ) (b : Bool) → (x == suc low) ≡ b
    → RiseBetween low high (x ∷ xs) → has x ≡ true
    → (RiseBetween (suc low) high xs → length xs ≤ many has (suc low) room)
    → (RiseBetween (suc low) high (x ∷ xs) → length (x ∷ xs) ≤ many has (suc low) room)
    → length (x ∷ xs) ≤ many has low (suc room)
at-most-step has low room high x xs true on rise here shorter same =
    let next : x ≡ suc low = eqb-true x (suc low) on in
    let rest = shorter (others-rise low high x xs next rise) in
    let one = one-here has (suc low) (ap has (sym next) ∙ here) in
    omega (arith, rest, one)
at-most-step has low room high x xs false off rise here shorter same =
    let later = beyond-next low x (first-above low high x xs rise) off in
    let rest = same (all-rise low high x xs later rise) in
    omega (arith, rest)

pub at-most : (has : ℕ → Bool) (low room high : ℕ) (xs : List ℕ) → high ≡ low + room → RiseBetween low high xs
    → All (λ x. has x ≡ true) xs → length xs ≤ many has low room
at-most has low zero high [] is rise all = omega arith
at-most has low zero high (x ∷ xs) is rise all =
    let above = first-above low high x xs rise in
    let within = RiseBetween-le x high xs (others-above low high x xs rise) in
    absurd (omega (arith, above, within, is))
at-most has low (suc room) high [] is rise all = omega arith
at-most has low (suc room) high (x ∷ xs) is rise all =
    let P : ℕ → Type 0 = λ n. has n ≡ true in
    at-most-step has low room high x xs (x == suc low) refl rise (All-head P x xs all)
    (λ rest. at-most has (suc low) room high xs (omega (arith, is)) rest (All-tail P x xs all))
    (λ rest. at-most has (suc low) room high (x ∷ xs) (omega (arith, is)) rest all)

-- a number without the property is not among those that have it
different : (has : ℕ → Bool) (x n : ℕ) → has x ≡ true → has n ≡ false → x ≡ n → ⊥
different has x n having lacking same = let on : has n ≡ true = ap has (sym same) ∙ having in cc (on, lacking)

pub none-without : (has : ℕ → Bool) (xs : List ℕ) (n : ℕ) → All (λ x. has x ≡ true) xs → has n ≡ false
    → count_by (λ x. x == n) xs ≡ 0
none-without has [] n all lacking = refl
none-without has (x ∷ xs) n all lacking =
    let P : ℕ → Type 0 = λ m. has m ≡ true in
    count-off n x xs (ne_eqb x n (different has x n (All-head P x xs all) lacking))
    ∙ none-without has xs n (All-tail P x xs all) lacking

-- a number with the property counts, by whether it is the next to the bound
many-one-step : (has : ℕ → Bool) (low room high n : ℕ) (b : Bool) → (n == suc low) ≡ b → low < n → has n ≡ true
    → (suc low < n → 1 ≤ many has (suc low) room) → 1 ≤ many has low (suc room)
many-one-step has low room high n true on above here rest =
    let next : n ≡ suc low = eqb-true n (suc low) on in
    let one = one-here has (suc low) (ap has (sym next) ∙ here) in
    omega (arith, one)
many-one-step has low room high n false off above here rest =
    let some = rest (beyond-next low n above off) in
    omega (arith, some)

many-one : (has : ℕ → Bool) (low room high n : ℕ) → high ≡ low + room → low < n → n ≤ high → has n ≡ true
    → 1 ≤ many has low room
many-one has low zero high n is above within here = absurd (omega (arith, is, above, within))
many-one has low (suc room) high n is above within here =
    many-one-step has low room high n (n == suc low) refl above here
    (λ later. many-one has (suc low) room high n (omega (arith, is)) later within here)

-- a number with the property is beyond the next to the bound, where that has it not
not-next : (has : ℕ → Bool) (low n : ℕ) → low < n → has n ≡ true → one_if (has (suc low)) ≡ 0 → n ≡ suc low → ⊥
not-next has low n above here lacking next =
    let one = one-here has (suc low) (ap has (sym next) ∙ here) in absurd (omega (arith, one, lacking))

-- one step of the next: by whether the first number is the next to the bound, and whether it is the one asked for
each-once-step : (has : ℕ → Bool) (low room high n x : ℕ) (xs : List ℕ) (b c : Bool) → (x == suc low) ≡ b
    → (x == n) ≡ c → high ≡ low + suc room → RiseBetween low high (x ∷ xs) → All (λ y. has y ≡ true) (x ∷ xs)
    → many has low (suc room) ≤ length (x ∷ xs) → low < n → has n ≡ true
    → (RiseBetween (suc low) high xs → many has (suc low) room ≤ length xs → suc low < n
    → count_by (λ y. y == n) xs ≡ 1)
    → (RiseBetween (suc low) high (x ∷ xs) → many has (suc low) room ≤ length (x ∷ xs) → suc low < n
    → count_by (λ y. y == n) (x ∷ xs) ≡ 1)
    → count_by (λ y. y == n) (x ∷ xs) ≡ 1
each-once-step has low room high n x xs true true on at is rise all enough above here shorter same =
    let next : x ≡ suc low = eqb-true x (suc low) on in
    let found : x ≡ n = eqb-true x n at in
    let none = none-below (suc low) high n xs (others-rise low high x xs next rise) (omega (arith, next, found)) in
    omega (arith, count-on n x xs at, none)
each-once-step has low room high n x xs true false on off is rise all enough above here shorter same =
    let next : x ≡ suc low = eqb-true x (suc low) on in
    let one = one-here has (suc low) (ap has (sym next) ∙ All-head (λ y. has y ≡ true) x xs all) in
    let later : suc low < n = omega (arith, above, next, eqb-false x n off) in
    count-off n x xs off
    ∙ shorter (others-rise low high x xs next rise) (omega (arith, enough, one)) later
each-once-step has low room high n x xs false c off at is rise all enough above here shorter same =
    let rest = all-rise low high x xs (beyond-next low x (first-above low high x xs rise) off) rise in
    let most = at-most has (suc low) room high (x ∷ xs) (omega (arith, is)) rest all in
    let lacking : one_if (has (suc low)) ≡ 0 = omega (arith, enough, most) in
    same rest (omega (arith, enough))
    (beyond-next low n above (ne_eqb n (suc low) (not-next has low n above here lacking)))

-- where there are no fewer of them than numbers with the property, each of those is there once
pub each-once : (has : ℕ → Bool) (low room high : ℕ) (xs : List ℕ) → high ≡ low + room → RiseBetween low high xs
    → All (λ x. has x ≡ true) xs → many has low room ≤ length xs
    → (n : ℕ) → low < n → n ≤ high → has n ≡ true → count_by (λ x. x == n) xs ≡ 1
each-once has low zero high xs is rise all enough n above within here = absurd (omega (arith, is, above, within))
each-once has low (suc room) high [] is rise all enough n above within here =
    absurd (omega (arith, enough, many-one has low (suc room) high n is above within here))
each-once has low (suc room) high (x ∷ xs) is rise all enough n above within here =
    each-once-step has low room high n x xs (x == suc low) (x == n) refl refl is rise all enough above here
    (λ rest few later. each-once has (suc low) room high xs (omega (arith, is)) rest
    (All-tail (λ y. has y ≡ true) x xs all) few n later within here)
    (λ rest few later. each-once has (suc low) room high (x ∷ xs) (omega (arith, is)) rest all few n later within here)

-- numbers with a property and numbers without it are all numbers
one-or-none : (b : Bool) → one_if (not b) + one_if b ≡ 1
one-or-none true = refl
one-or-none false = refl

pub many-both : (has : ℕ → Bool) (low room : ℕ) → many (λ n. not (has n)) low room + many has low room ≡ room
many-both has low zero = refl
many-both has low (suc room) = omega (arith, many-both has (suc low) room, one-or-none (has (suc low)))

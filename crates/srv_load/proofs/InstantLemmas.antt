-- Instants of consecutive numbers, and lists that have just these.
use Rattle.std.proofs.Common.{◌≡◌, ◌<◌, ◌≤◌, ◌+◌, inl, inr, ℕ, zero, suc, List, [], ◌∷◌, length, ℤ, pos, ◌<ℤ◌, refl, ap, subst, ◌∙◌, arith}
use Rattle.std.proofs.lemmas.Bool.{cases_lt}
use Rattle.std.proofs.lemmas.Int.{ints}
use Rattle.fm_model.specs.Rising.{Rises}
use Rattle.fm_model.proofs.Members.{AllPairs-from_each, Contains-from_in, Each-from_in, EachPair, In, in_from_Contains}
use Rattle.fm_model.proofs.RisingLemmas.{Above, Rises-members}

-- the instants of the numbers from one on, this many of them
pub instants : (ℕ → ℕ) → ℕ → ℕ → List ℤ
instants at from zero = []
instants at from (suc n) = pos (at from) ∷ instants at (from + 1) n

length-instants : (at : ℕ → ℕ) (from n : ℕ) → length (instants at from n) ≡ n
unfolding instants
length-instants at from zero = refl
length-instants at from (suc n) = ap suc (length-instants at (from + 1) n)

-- an instant is that of one of the numbers
pub in_instants : (at : ℕ → ℕ) (from n : ℕ) (t : ℤ) → In t (instants at from n)
    → (j : ℕ) × (from ≤ j) × (j < from + n) × (pos (at j) ≡ t)
unfolding instants
in_instants at from zero t there = absurd there
in_instants at from (suc n) t (inl first) = (from, omega arith, omega arith, first)
in_instants at from (suc n) t (inr later) =
    let found = in_instants at (from + 1) n t later in
    (found.0, omega (arith, found.1), omega (arith, found.2), found.3)

-- each of the numbers has its instant
pub In-instants : (at : ℕ → ℕ) (from n j : ℕ) → from ≤ j → j < from + n → In (pos (at j)) (instants at from n)
unfolding instants
In-instants at from zero j least below = absurd (omega (arith, least, below))
In-instants at from (suc n) j least below = elim (cases_lt from j) [
  | inl later ↦ inr (In-instants at (from + 1) n j (omega (arith, later)) (omega (arith, below)))
  | inr here ↦
      let same : from ≡ j = omega (arith, least, here) in
      inl (ap (λ (i : ℕ). pos (at i)) same)
]

pos-below : (a b : ℕ) → a < b → pos a <ℤ pos b
pos-below a b below = omega (arith, ints, below)

-- where later numbers have later instants, these rise
rises_instants : (at : ℕ → ℕ) → ((i j : ℕ) → i < j → at i < at j) → (from n : ℕ)
    → EachPair Above (instants at from n)
unfolding instants
rises_instants at up from zero = tt
rises_instants at up from (suc n) = (
  Each-from_in (Above (pos (at from))) (instants at (from + 1) n) (λ t there.
      let found = in_instants at (from + 1) n t there in
      subst (Above (pos (at from))) found.3
      (pos-below (at from) (at found.0) (up from found.0 (omega (arith, found.1))))),
  rises_instants at up (from + 1) n,
)

Rises-instants : (at : ℕ → ℕ) → ((i j : ℕ) → i < j → at i < at j) → (from n : ℕ) → Rises (instants at from n)
Rises-instants at up from n = AllPairs-from_each Above (instants at from n) (rises_instants at up from n)

-- a list that rises and has the instants of these numbers is as long as they are many
pub length-same : (at : ℕ → ℕ) → ((i j : ℕ) → i < j → at i < at j) → (from n : ℕ) (list : List ℤ) → Rises list
    → ((t : ℤ) → In t list → In t (instants at from n)) → ((t : ℤ) → In t (instants at from n) → In t list)
    → length list ≡ n
length-same at up from n list rises there back =
    let all : List ℤ = instants at from n in
    let same : list ≡ all = Rises-members list all rises (Rises-instants at up from n) (λ t. (
      λ c. Contains-from_in t all (there t (in_from_Contains t list c)),
      λ c. Contains-from_in t list (back t (in_from_Contains t all c)),
    )) in
    ap length same ∙ length-instants at from n

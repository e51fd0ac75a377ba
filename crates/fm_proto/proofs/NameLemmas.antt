-- Names that begin with the same bytes.
use Rattle.std.proofs.Common.{◌≡◌, ◌≢◌, ℕ, false, List, [], ◌∷◌, ◌++◌, refl, inl, inr, arith}
use Rattle.std.specs.Str.{bytes_eq}
use Rattle.std.proofs.lemmas.Bool.{cases_Bool}
use Rattle.std.proofs.lemmas.Slice.Eq.{bytes_eq-Decides}

-- two names with the same front are equal where what follows is
pub bytes_eq-after : (front rest end : List ℕ) → bytes_eq (front ++ rest) (front ++ end) ≡ bytes_eq rest end
bytes_eq-after [] rest end = refl
bytes_eq-after (byte ∷ front) rest end = grind (arith, bytes_eq-after front rest end)

-- a name without a front is no name with it
pub bytes_eq-without : (name front end : List ℕ) → ((rest : List ℕ) → name ≢ front ++ rest)
    → bytes_eq name (front ++ end) ≡ false
bytes_eq-without name front end none = elim (cases_Bool (bytes_eq name (front ++ end))) [
  | inl t ↦ absurd (none end ((bytes_eq-Decides name (front ++ end)).0 t))
  | inr f ↦ f
]

pub ruleset fronts = (bytes_eq-after, bytes_eq-without)

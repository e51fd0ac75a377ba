-- Lines that a device was told.
use Rattle.std.proofs.Common.{◌≡◌, inl, inr, ℕ, List, [], ◌∷◌, ◌++◌, Option, Some, None, refl, sym, ap, subst, ◌∙◌, append_assoc, append-nil}
use Rattle.dev_traits.specs.Lines.{Notes, Tells, Told}

-- no line
pub Tells-none : (told : Told) → Tells [] told told
Tells-none None = tt
Tells-none (Some lines) = sym (append-nil lines)

-- a line that was told, or lost
pub Tells-one : (line : List ℕ) (told told' : Told) → Notes line told told' → Tells (line ∷ []) told told'
Tells-one line None told' (inl is) = subst (λ (t : Told). Tells (line ∷ []) None t) (sym is) tt
Tells-one line (Some lines) told' (inl is) = subst (λ (t : Told). Tells (line ∷ []) (Some lines) t) (sym is) refl
Tells-one line told told' (inr lost) = subst (λ (t : Told). Tells (line ∷ []) told t) (sym lost) tt

-- some lines, and then others
pub Tells-then : (xs ys : List (List ℕ)) (a b c : Told) → Tells xs a b → Tells ys b c → Tells (xs ++ ys) a c
Tells-then xs ys a b None first second = tt
Tells-then xs ys a None (Some r) first second = absurd second
Tells-then xs ys None (Some q) (Some r) first second = absurd first
Tells-then xs ys (Some p) (Some q) (Some r) first second =
    second ∙ ap (λ (l : List (List ℕ)). l ++ ys) first ∙ append_assoc p xs ys

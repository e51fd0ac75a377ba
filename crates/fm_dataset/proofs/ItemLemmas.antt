-- Items of lists by their indices.
use Rattle.std.proofs.Common.{◌≡◌, ℕ, zero, suc, ◌+◌, ◌<◌, List, [], ◌∷◌, ◌++◌, length, map, take, get_or, Some, ap, sym, subst, ◌∙◌}
use Rattle.std.specs.List.{slice_get, AllZip}
use Rattle.std.proofs.lemmas.List.{map-append, take_more}
use Rattle.std.proofs.lemmas.Option.{none-some, same_Some}

-- what holds of two lists item by item holds of the items at one index
pub zip_at : {A B : Type 0} (R : A → B → Type 0) (xs : List A) (ys : List B) (n : ℕ) (x : A) (y : B)
    → AllZip R xs ys → slice_get xs n ≡ Some x → slice_get ys n ≡ Some y → R x y
zip_at R [] ys n x y all e d = absurd (none-some x e)
zip_at R (a ∷ xs) [] n x y all e d = absurd (none-some y d)
zip_at {A} {B} R (a ∷ xs) (b ∷ ys) zero x y all e d =
    subst (λ (z : A). R z y) (same_Some a x e) (subst (λ (z : B). R a z) (same_Some b y d) all.0)
zip_at R (a ∷ xs) (b ∷ ys) (suc n) x y all e d = zip_at R xs ys n x y all.1 e d

-- what is made of the items up to one
pub map_up_to : {A B : Type 0} (f : A → B) (xs : List A) (at : ℕ) (x : A) → at < length xs → x ≡ get_or xs at x
    → map f (take at xs) ++ f x ∷ [] ≡ map f (take (at + 1) xs)
map_up_to f xs at x within is = sym (ap (map f) (take_more xs at x within ∙ ap (λ y. take at xs ++ y ∷ []) (sym is))
    ∙ map-append f (take at xs) (x ∷ []))

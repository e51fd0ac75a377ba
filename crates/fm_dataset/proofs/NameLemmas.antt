-- Where names differ, one name is at one index.
use Rattle.std.proofs.Common.{◌≡◌, ℕ, zero, suc, false, List, [], ◌∷◌, map, Some, inl, inr, refl, sym, ap, subst, ◌∙◌}
use Rattle.std.specs.Prelude.{slice_get}
use Rattle.std.specs.List.{AllByRecursion, IsDistinct}
use Rattle.std.specs.Str.{bytes_eq}
use Rattle.std.proofs.lemmas.Bool.{both_ways}
use Rattle.std.proofs.lemmas.Option.{none-some, same_Some}
use Rattle.std.proofs.lemmas.Slice.Eq.{bytes_eq-Decides}
use Rattle.nc_model.specs.Spelling.{AreDistinct}
use Rattle.fm_model.proofs.Members.{In}

-- what holds of each name holds of the one at an index
each_name : {A : Type 0} (name : A → List ℕ) (P : List ℕ → Type 0) (xs : List A) (index : ℕ) (x : A)
    → AllByRecursion P (map name xs) → slice_get xs index ≡ Some x → P (name x)
each_name name P [] index x all e = absurd (none-some x e)
each_name name P (y ∷ xs) zero x all e = subst (λ z. P (name z)) (same_Some y x e) all.0
each_name name P (y ∷ xs) (suc index) x all e = each_name name P xs index x all.1 e

-- one name is at one index
pub one_index : {A : Type 0} (name : A → List ℕ) (xs : List A) (i j : ℕ) (a b : A) → AreDistinct (map name xs)
    → slice_get xs i ≡ Some a → slice_get xs j ≡ Some b → name a ≡ name b → i ≡ j
unfolding IsDistinct
one_index name [] i j a b apart e d same = absurd (none-some a e)
one_index name (x ∷ xs) zero zero a b apart e d same = refl
one_index name (x ∷ xs) zero (suc j) a b apart e d same =
    let differs = each_name name (λ n. bytes_eq (name x) n ≡ false) xs j b apart.0 d in
    let is : name x ≡ name b = ap name (same_Some x a e) ∙ same in
    absurd (both_ways (bytes_eq (name x) (name b)) differs ((bytes_eq-Decides (name x) (name b)).1 is))
one_index name (x ∷ xs) (suc i) zero a b apart e d same =
    let differs = each_name name (λ n. bytes_eq (name x) n ≡ false) xs i a apart.0 e in
    let is : name x ≡ name a = ap name (same_Some x b d) ∙ sym same in
    absurd (both_ways (bytes_eq (name x) (name a)) differs ((bytes_eq-Decides (name x) (name a)).1 is))
one_index name (x ∷ xs) (suc i) (suc j) a b apart e d same = ap suc (one_index name xs i j a b apart.1 e d same)

-- what is held stands at an index
pub held_index : {A : Type 0} (x : A) (xs : List A) → In x xs → (n : ℕ) × (slice_get xs n ≡ Some x)
held_index x [] h = absurd h
held_index x (y ∷ ys) (inl e) = (0, ap Some e)
held_index x (y ∷ ys) (inr h) = let found = held_index x ys h in (suc found.0, found.1)

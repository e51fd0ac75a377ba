-- What a value that may be there is, by the values that it was made of.
use Rattle.std.proofs.Common.{◌≡◌, ◌⊎◌, inl, inr, Bool, true, false, cond, Option, Some, None, option_map, refl, ap}
use Rattle.std.proofs.lemmas.Option.{none-some, same_Some}
use Rattle.std.specs.Option.{option_or}

-- something or nothing
pub cases_Option : {A : Type 0} (o : Option A) → (o ≡ None) ⊎ ((x : A) × (o ≡ Some x))
cases_Option None = inl refl
cases_Option (Some x) = inr (x, refl)

-- nothing, where no value is there
pub none_unless : {A : Type 0} (o : Option A) → ((x : A) → o ≡ Some x → ⊥) → None ≡ o
none_unless None never = refl
none_unless (Some x) never = absurd (never x refl)

-- a value that was changed, and the value before
pub mapped_some : {A B : Type 0} (f : A → B) (o : Option A) (y : B) → option_map f o ≡ Some y
    → (x : A) × (o ≡ Some x) × (f x ≡ y)
mapped_some f None y e = absurd (none-some y e)
mapped_some f (Some x) y e = (x, refl, same_Some (f x) y e)

-- where a changed value isn't there, none was there before
pub mapped_none : {A B : Type 0} (f : A → B) (o : Option A) → option_map f o ≡ None → o ≡ None
mapped_none f None e = refl
mapped_none f (Some x) e = absurd cc

-- the first of two, where it is there
pub first_some : {A : Type 0} (first second : Option A) (a : A) → first ≡ Some a → option_or first second ≡ Some a
first_some first second a e = ap (λ o. option_or o second) e

-- what was chosen by a test, where something was
pub chosen : {A : Type 0} (b : Bool) (o : Option A) (x : A) → cond b o None ≡ Some x → (b ≡ true) × (o ≡ Some x)
chosen true o x h = (refl, h)
chosen false o x h = absurd cc

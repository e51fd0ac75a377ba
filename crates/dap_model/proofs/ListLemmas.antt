-- What is in a list, by recursion on the list, and which items give it.
use Rattle.std.proofs.Common.{◌≡◌, ◌⊎◌, ℕ, zero, suc, ◌+◌, ◌<◌, ◌≤◌, Bool, true, false, List, [], ◌∷◌, ◌++◌, length, get_or, slice_get, Option, Some, None, refl, sym, ap, ap₂, subst, ◌∙◌, inl, inr, arith, add-zero, map}
use Rattle.std.specs.List.{Contains, enumerate_from, filter_map, flat_map, list_any, range_with_len}
use Rattle.std.proofs.lemmas.Bool.{or_parts, or_cases, or_left, or_right, cases_eq, true≢false}
use Rattle.std.proofs.lemmas.Option.{none-some, same_Some}
use Rattle.fm_base.proofs.OptionLemmas.{cases_Option}

-- the item is in the list
abbrev pub Has : {A : Type 0} → List A → A → Type 0
Has [] x = ⊥
Has (y ∷ ys) x = (y ≡ x) ⊎ Has ys x

-- a list has the item at each index below its length
pub Has-at : {A : Type 0} (xs : List A) (k : ℕ) (d : A) → k < length xs → Has xs (get_or xs k d)
Has-at [] k d within = absurd (omega arith)
Has-at (x ∷ xs) zero d within = inl refl
Has-at (x ∷ xs) (suc k) d within = inr (Has-at xs k d (omega arith))

pub Has-from_contains : {A : Type 0} (xs : List A) (x : A) → Contains xs x → Has xs x
Has-from_contains xs x found = subst (Has xs) found.2 (Has-at xs found.0 x found.1)

-- a list contains an item that it has
pub contains_from_Has : {A : Type 0} (xs : List A) (x : A) → Has xs x → Contains xs x
contains_from_Has [] x has = absurd has
contains_from_Has (y ∷ ys) x (inl same) = (0, omega arith, same)
contains_from_Has (y ∷ ys) x (inr has) =
    let found = contains_from_Has ys x has in (suc found.0, omega (arith, found.1), found.2)

-- a list has the item at an index
pub Has-slice_get : {A : Type 0} (xs : List A) (k : ℕ) (x : A) → slice_get xs k ≡ Some x → Has xs x
Has-slice_get [] k x e = absurd (none-some x e)
Has-slice_get (y ∷ ys) zero x e = inl (same_Some y x e)
Has-slice_get (y ∷ ys) (suc k) x e = inr (Has-slice_get ys k x e)

pub Has-left : {A : Type 0} (xs ys : List A) (x : A) → Has xs x → Has (xs ++ ys) x
Has-left [] ys x has = absurd has
Has-left (y ∷ xs) ys x (inl same) = inl same
Has-left (y ∷ xs) ys x (inr has) = inr (Has-left xs ys x has)

pub Has-right : {A : Type 0} (xs ys : List A) (x : A) → Has ys x → Has (xs ++ ys) x
Has-right [] ys x has = has
Has-right (y ∷ xs) ys x has = inr (Has-right xs ys x has)

pub Has-either : {A : Type 0} (xs ys : List A) (x : A) → Has (xs ++ ys) x → Has xs x ⊎ Has ys x
Has-either [] ys x has = inr has
Has-either (y ∷ xs) ys x (inl same) = inl (inl same)
Has-either (y ∷ xs) ys x (inr has) = elim (Has-either xs ys x has) [ inl left ↦ inl (inr left) | inr right ↦ inr right ]

-- an item that gives this one
pub record Source {A B : Type 0} (P : A → B → Type 0) (xs : List A) (y : B) : Type 0 where
  pub item : A
  pub has : Has xs item
  pub gives : P item y

pub later : {A B : Type 0} (P : A → B → Type 0) (x : A) (xs : List A) (y : B) → Source P xs y → Source P (x ∷ xs) y
later P x xs y s = record { item = s.item; has = inr s.has; gives = s.gives }

pub Source-flat_map : {A B : Type 0} (f : A → List B) (xs : List A) (y : B) → Has (flat_map f xs) y
    → Source (λ x z. Has (f x) z) xs y
Source-flat_map f [] y has = absurd has
Source-flat_map f (x ∷ xs) y has = elim (Has-either (f x) (flat_map f xs) y has) [
  | inl first ↦ record { item = x; has = inl refl; gives = first }
  | inr others ↦ later (λ z w. Has (f z) w) x xs y (Source-flat_map f xs y others)
]

pub Has-flat_map : {A B : Type 0} (f : A → List B) (xs : List A) (x : A) (y : B) → Has xs x → Has (f x) y
    → Has (flat_map f xs) y
Has-flat_map f [] x y has gives = absurd has
Has-flat_map f (z ∷ xs) x y (inl same) gives =
    Has-left (f z) (flat_map f xs) y (subst (λ w. Has (f w) y) (sym same) gives)
Has-flat_map f (z ∷ xs) x y (inr has) gives = Has-right (f z) (flat_map f xs) y (Has-flat_map f xs x y has gives)

-- a front item that gives something, and one that gives nothing
pub filter_map-some : {A B : Type 0} (h : A → Option B) (x : A) (xs : List A) (y : B) → h x ≡ Some y
    → filter_map h (x ∷ xs) ≡ y ∷ filter_map h xs
filter_map-some h x xs y e = rw e refl

pub filter_map-none : {A B : Type 0} (h : A → Option B) (x : A) (xs : List A) → h x ≡ None
    → filter_map h (x ∷ xs) ≡ filter_map h xs
filter_map-none h x xs e = rw e refl

-- an item of a list that was made comes from an item of the list
pub Source-filter_map : {A B : Type 0} (h : A → Option B) (xs : List A) (y : B) → Has (filter_map h xs) y
    → Source (λ x z. h x ≡ Some z) xs y
Source-filter_map h [] y has = absurd has
Source-filter_map h (x ∷ xs) y has = elim (cases_Option (h x)) [
  | inl none ↦
      later (λ z w. h z ≡ Some w) x xs y
      (Source-filter_map h xs y (subst (λ l. Has l y) (filter_map-none h x xs none) has))
  | inr some ↦
      let either : Has (some.0 ∷ filter_map h xs) y = subst (λ l. Has l y) (filter_map-some h x xs some.0 some.1) has in
      elim either [
        | inl same ↦ record { item = x; has = inl refl; gives = some.1 ∙ ap Some same }
        | inr others ↦ later (λ z w. h z ≡ Some w) x xs y (Source-filter_map h xs y others)
      ]
]

pub Has-filter_map : {A B : Type 0} (h : A → Option B) (xs : List A) (x : A) (y : B) → Has xs x → h x ≡ Some y
    → Has (filter_map h xs) y
Has-filter_map h [] x y has gives = absurd has
Has-filter_map h (z ∷ xs) x y (inl same) gives =
    subst (λ l. Has l y) (sym (filter_map-some h z xs y (ap h same ∙ gives))) (inl refl)
Has-filter_map h (z ∷ xs) x y (inr has) gives = elim (cases_Option (h z)) [
  | inl none ↦ subst (λ l. Has l y) (sym (filter_map-none h z xs none)) (Has-filter_map h xs x y has gives)
  | inr some ↦
      subst (λ l. Has l y) (sym (filter_map-some h z xs some.0 some.1)) (inr (Has-filter_map h xs x y has gives))
]

-- the numbers of a range
pub within_range : (a n k : ℕ) → Has (range_with_len a n) k → (a ≤ k) × (k < a + n)
within_range a zero k has = absurd has
within_range a (suc n) k (inl same) = (omega arith, omega arith)
within_range a (suc n) k (inr has) = let parts = within_range (a + 1) n k has in (omega arith, omega arith)

pub Has-range : (a n k : ℕ) → a ≤ k → k < a + n → Has (range_with_len a n) k
Has-range a zero k low high = absurd (omega arith)
Has-range a (suc n) k low high = elim (cases_eq a k) [
  | inl same ↦ inl same
  | inr apart ↦ inr (Has-range (a + 1) n k (omega arith) (omega arith))
]

-- the items of a list with their indices
pub slice_get-numbered : {A : Type 0} (n : ℕ) (xs : List A) (pair : ℕ × A) → Has (enumerate_from n xs) pair
    → (i : ℕ) × (pair.0 ≡ n + i) × (slice_get xs i ≡ Some pair.1)
slice_get-numbered n [] pair has = absurd has
slice_get-numbered n (x ∷ xs) pair (inl same) =
    (0, sym (ap (λ p. p.0) same) ∙ sym (add-zero n), ap (λ p. Some p.1) same)
slice_get-numbered n (x ∷ xs) pair (inr has) =
    let found = slice_get-numbered (n + 1) xs pair has in (suc found.0, omega (arith, found.1), found.2)

pub Has-numbered : {A : Type 0} (n : ℕ) (xs : List A) (i : ℕ) (x : A) → slice_get xs i ≡ Some x
    → Has (enumerate_from n xs) (n + i, x)
Has-numbered n [] i x e = absurd (none-some x e)
Has-numbered n (y ∷ xs) zero x e = inl (ap₂ (λ (k : ℕ) z. (k, z)) (omega arith) (same_Some y x e))
Has-numbered n (y ∷ xs) (suc i) x e =
    inr (subst (λ (k : ℕ). Has (enumerate_from (n + 1) xs) (k, x)) (omega arith) (Has-numbered (n + 1) xs i x e))

-- no item passes, or some item does
pub none_passes : {A : Type 0} (p : A → Bool) (xs : List A) (x : A) → list_any p xs ≡ false → Has xs x → p x ≡ false
none_passes p [] x none has = absurd has
none_passes p (y ∷ ys) x none (inl same) = ap p (sym same) ∙ (or_parts (p y) (list_any p ys) none).0
none_passes p (y ∷ ys) x none (inr has) = none_passes p ys x (or_parts (p y) (list_any p ys) none).1 has

-- some item passes a test
pub some_passes : {A : Type 0} (p : A → Bool) (xs : List A) → list_any p xs ≡ true → (x : A) × Has xs x × (p x ≡ true)
some_passes p [] e = absurd (true≢false (sym e))
some_passes p (x ∷ xs) e = elim (or_cases (p x) (list_any p xs) e) [
  | inl first ↦ (x, inl refl, first)
  | inr others ↦ let s = some_passes p xs others in (s.0, inr s.1, s.2)
]

pub any_passes : {A : Type 0} (p : A → Bool) (xs : List A) (x : A) → Has xs x → p x ≡ true → list_any p xs ≡ true
any_passes p [] x has e = absurd has
any_passes p (y ∷ xs) x (inl same) e = or_left (p y) (list_any p xs) (ap p same ∙ e)
any_passes p (y ∷ xs) x (inr has) e = or_right (p y) (list_any p xs) (any_passes p xs x has e)

-- each item gives something
pub filter_map-each : {A B : Type 0} (h : A → Option B) (g : A → B) (xs : List A)
    → ((x : A) → Has xs x → h x ≡ Some (g x)) → filter_map h xs ≡ map g xs
filter_map-each h g [] each = refl
filter_map-each h g (x ∷ xs) each =
    filter_map-some h x xs (g x) (each x (inl refl))
    ∙ ap (λ l. g x ∷ l) (filter_map-each h g xs (λ y has. each y (inr has)))

pub items-numbered : {A : Type 0} (n : ℕ) (xs : List A) → map (λ (p : ℕ × A). p.1) (enumerate_from n xs) ≡ xs
items-numbered n [] = refl
items-numbered n (x ∷ xs) = ap (λ l. x ∷ l) (items-numbered (n + 1) xs)

pub map-same : {A : Type 0} (f : A → A) (xs : List A) → ((x : A) → f x ≡ x) → map f xs ≡ xs
map-same f [] same = refl
map-same f (x ∷ xs) same = ap₂ (λ y l. y ∷ l) (same x) (map-same f xs same)

pub map-map : {A B C : Type 0} (f : B → C) (g : A → B) (h : A → C) (xs : List A) → ((x : A) → f (g x) ≡ h x)
    → map f (map g xs) ≡ map h xs
map-map f g h [] same = refl
map-map f g h (x ∷ xs) same = ap₂ (λ y l. y ∷ l) (same x) (map-map f g h xs same)

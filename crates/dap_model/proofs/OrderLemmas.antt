-- Lists in which each item stands before the later ones.
use Rattle.std.proofs.Common.{◌≡◌, ℕ, zero, suc, ◌+◌, ◌<◌, List, [], ◌∷◌, ◌++◌, length, get_or, Option, Some, refl, sym, subst, inl, inr, arith}
use Rattle.std.specs.List.{AllPairs, enumerate_from, filter_map, flat_map, range_with_len}
use Rattle.fm_base.proofs.OptionLemmas.{cases_Option}
use Rattle.dap_model.proofs.ListLemmas.{Has, Has-at, contains_from_Has, Has-either, Source-flat_map, filter_map-some, filter_map-none, Source-filter_map, within_range, slice_get-numbered}

-- each item stands before each later one
abbrev pub Ordered : {A : Type 0} → (A → A → Type 0) → List A → Type 0
Ordered R [] = Unit {0}
Ordered {A} R (x ∷ xs) = ((y : A) → Has xs y → R x y) × Ordered R xs

pub AllPairs-from_ordered : {A : Type 0} (R : A → A → Type 0) (xs : List A) → Ordered R xs → (i j : ℕ) (d : A) → i < j
    → j < length xs → R (get_or xs i d) (get_or xs j d)
AllPairs-from_ordered R [] ordered i j d before within = absurd (omega arith)
AllPairs-from_ordered R (x ∷ xs) ordered i zero d before within = absurd (omega arith)
AllPairs-from_ordered R (x ∷ xs) ordered zero (suc j) d before within =
    ordered.0 (get_or xs j d) (Has-at xs j d (omega arith))
AllPairs-from_ordered R (x ∷ xs) ordered (suc i) (suc j) d before within =
    AllPairs-from_ordered R xs ordered.1 i j d (omega arith) (omega arith)

pub Ordered-from_pairs : {A : Type 0} (R : A → A → Type 0) (xs : List A) → AllPairs R xs → Ordered R xs
Ordered-from_pairs R [] pairs = tt
Ordered-from_pairs R (x ∷ xs) pairs = (
  λ y has.
      let found = contains_from_Has xs y has in
      subst (R x) found.2 (pairs 0 (suc found.0) y (omega arith) (omega (arith, found.1))),
  Ordered-from_pairs R xs (λ i j d before within. pairs (suc i) (suc j) d (omega arith) (omega arith)),
)

pub Ordered-append : {A : Type 0} (R : A → A → Type 0) (xs ys : List A) → Ordered R xs → Ordered R ys
    → ((x y : A) → Has xs x → Has ys y → R x y) → Ordered R (xs ++ ys)
Ordered-append R [] ys first second across = second
Ordered-append R (x ∷ xs) ys first second across = (
  λ y has. elim (Has-either xs ys y has) [ inl left ↦ first.0 y left | inr right ↦ across x y (inl refl) right ],
  Ordered-append R xs ys first.1 second (λ a b left right. across a b (inr left) right),
)

-- what stands before in a list gives what stands before
pub Ordered-filter_map : {A B : Type 0} (R : A → A → Type 0) (S : B → B → Type 0) (h : A → Option B) (xs : List A)
    → Ordered R xs
    → ((x y : A) (a b : B) → R x y → h x ≡ Some a → h y ≡ Some b → S a b) → Ordered S (filter_map h xs)
Ordered-filter_map R S h [] ordered keeps = tt
Ordered-filter_map R S h (x ∷ xs) ordered keeps =
    let others = Ordered-filter_map R S h xs ordered.1 keeps in
    elim (cases_Option (h x)) [
      | inl none ↦ subst (Ordered S) (sym (filter_map-none h x xs none)) others
      | inr some ↦ subst (Ordered S) (sym (filter_map-some h x xs some.0 some.1)) (
        λ b has.
            let s = Source-filter_map h xs b has in
            keeps x s.item some.0 b (ordered.0 s.item s.has) some.1 s.gives,
        others,
      )
    ]

pub Ordered-flat_map : {A B : Type 0} (R : A → A → Type 0) (S : B → B → Type 0) (f : A → List B) (xs : List A)
    → Ordered R xs → ((x : A) → Ordered S (f x))
    → ((x y : A) (a b : B) → R x y → Has (f x) a → Has (f y) b → S a b) → Ordered S (flat_map f xs)
Ordered-flat_map R S f [] ordered each keeps = tt
Ordered-flat_map R S f (x ∷ xs) ordered each keeps =
    Ordered-append S (f x) (flat_map f xs) (each x) (Ordered-flat_map R S f xs ordered.1 each keeps)
    (λ a b first second.
    let s = Source-flat_map f xs b second in
    keeps x s.item a b (ordered.0 s.item s.has) first s.gives)

pub Ordered-range : (a n : ℕ) → Ordered (λ (i j : ℕ). i < j) (range_with_len a n)
Ordered-range a zero = tt
Ordered-range a (suc n) = (λ k has. let parts = within_range (a + 1) n k has in omega arith, Ordered-range (a + 1) n)

pub Ordered-numbered : {A : Type 0} (n : ℕ) (xs : List A) → Ordered (λ (p q : ℕ × A). p.0 < q.0) (enumerate_from n xs)
Ordered-numbered n [] = tt
Ordered-numbered n (x ∷ xs) =
    (λ q has. let found = slice_get-numbered (n + 1) xs q has in omega (arith, found.1), Ordered-numbered (n + 1) xs)

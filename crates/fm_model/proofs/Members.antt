-- Membership by recursion on a list, and what it says of the lists that definitions make.
use Rattle.std.proofs.Common.{◌≡◌, ◌⊎◌, ℕ, zero, suc, ◌<◌, Bool, true, false, cond, List, [], ◌∷◌, ◌++◌, map, length, get_or, Option, Some, None, refl, sym, ap, subst, ◌∙◌, inl, inr, arith}
use Rattle.std.specs.List.{AllPairs, All, Any, Contains, filter, filter_map, flat_map, cons_option}
use Rattle.std.proofs.lemmas.List.Elements.{All-head, All-tail, All-nil}
use Rattle.std.proofs.lemmas.List.Kept.{AllPairs-cons}

-- an item is among these
abbrev pub In : {A : Type 0} → A → List A → Type 0
In x [] = ⊥
In x (y ∷ ys) = (y ≡ x) ⊎ In x ys

-- a list contains an item that is in it
pub Contains-from_in : {A : Type 0} (x : A) (xs : List A) → In x xs → Contains xs x
Contains-from_in x [] h = absurd h
Contains-from_in x (y ∷ ys) (inl e) = (0, omega arith, e)
Contains-from_in x (y ∷ ys) (inr h) = let found = Contains-from_in x ys h in
    (suc found.0, omega (arith, found.1), found.2)

-- an item that a list contains is in it
pub in_from_Contains : {A : Type 0} (x : A) (xs : List A) → Contains xs x → In x xs
in_from_Contains {A} x xs c = go xs c.0 c.1 c.2
  where
    go : (l : List A) (k : ℕ) → k < length l → get_or l k x ≡ x → In x l
    go [] k lt e = absurd (omega arith)
    go (y ∷ ys) zero lt e = inl e
    go (y ∷ ys) (suc k) lt e = inr (go ys k (omega arith) e)

-- an item of the first of two lists
pub In-append_left : {A : Type 0} (x : A) (xs ys : List A) → In x xs → In x (xs ++ ys)
In-append_left x [] ys h = absurd h
In-append_left x (y ∷ xs) ys (inl e) = inl e
In-append_left x (y ∷ xs) ys (inr h) = inr (In-append_left x xs ys h)

-- an item of the second of two lists
pub In-append_right : {A : Type 0} (x : A) (xs ys : List A) → In x ys → In x (xs ++ ys)
In-append_right x [] ys h = h
In-append_right x (y ∷ xs) ys h = inr (In-append_right x xs ys h)

-- an item of two lists is in one of them
pub In-append_cases : {A : Type 0} (x : A) (xs ys : List A) → In x (xs ++ ys) → In x xs ⊎ In x ys
In-append_cases x [] ys h = inr h
In-append_cases x (y ∷ xs) ys (inl e) = inl (inl e)
In-append_cases x (y ∷ xs) ys (inr h) = elim (In-append_cases x xs ys h) [ inl l ↦ inl (inr l) | inr r ↦ inr r ]

-- what a function makes of an item is in the list that it makes
pub In-map : {A B : Type 0} (f : A → B) (x : A) (xs : List A) → In x xs → In (f x) (map f xs)
In-map f x [] h = absurd h
In-map f x (y ∷ ys) (inl e) = inl (ap f e)
In-map f x (y ∷ ys) (inr h) = inr (In-map f x ys h)

-- an item of a mapped list is that of one of the items
pub in_map : {A B : Type 0} (f : A → B) (b : B) (xs : List A) → In b (map f xs) → (x : A) × In x xs × (f x ≡ b)
in_map f b [] h = absurd h
in_map f b (y ∷ ys) (inl e) = (y, inl refl, e)
in_map f b (y ∷ ys) (inr h) = let found = in_map f b ys h in (found.0, inr found.1, found.2)

-- an item of one of some lists is in all of them in a row
pub In-flat_map : {A B : Type 0} (f : A → List B) (b : B) (x : A) (xs : List A) → In x xs → In b (f x)
    → In b (flat_map f xs)
In-flat_map f b x [] h i = absurd h
In-flat_map f b x (y ∷ ys) (inl e) i = In-append_left b (f y) (flat_map f ys) (subst (λ a. In b (f a)) (sym e) i)
In-flat_map f b x (y ∷ ys) (inr h) i = In-append_right b (f y) (flat_map f ys) (In-flat_map f b x ys h i)

-- an item of lists in a row is in one of them
pub in_flat_map : {A B : Type 0} (f : A → List B) (b : B) (xs : List A) → In b (flat_map f xs)
    → (x : A) × In x xs × In b (f x)
in_flat_map f b [] h = absurd h
in_flat_map f b (y ∷ ys) h = elim (In-append_cases b (f y) (flat_map f ys) h) [
  | inl here ↦ (y, inl refl, here)
  | inr there ↦ let found = in_flat_map f b ys there in (found.0, inr found.1, found.2)
]

pub In-filter_map : {A B : Type 0} (f : A → Option B) (b : B) (x : A) (xs : List A) → In x xs → f x ≡ Some b
    → In b (filter_map f xs)
In-filter_map f b x [] h e = absurd h
In-filter_map f b x (y ∷ ys) (inl same) e = subst (λ o. In b (cons_option o (filter_map f ys))) (sym (ap f same ∙ e))
    (inl refl)
In-filter_map {B} f b x (y ∷ ys) (inr h) e = later (f y) (In-filter_map f b x ys h e)
  where
    later : (o : Option B) → In b (filter_map f ys) → In b (cons_option o (filter_map f ys))
    later None i = i
    later (Some c) i = inr i

pub in_filter_map : {A B : Type 0} (f : A → Option B) (b : B) (xs : List A) → In b (filter_map f xs)
    → (x : A) × In x xs × (f x ≡ Some b)
in_filter_map f b [] h = absurd h
in_filter_map {A} {B} f b (y ∷ ys) h = by_first (f y) refl h (in_filter_map f b ys)
  where
    by_first : (o : Option B) → f y ≡ o → In b (cons_option o (filter_map f ys))
        → (In b (filter_map f ys) → (x : A) × In x ys × (f x ≡ Some b)) → (x : A) × In x (y ∷ ys) × (f x ≡ Some b)
    by_first None e i more = let found = more i in (found.0, inr found.1, found.2)
    by_first (Some c) e (inl same) more = (y, inl refl, e ∙ ap Some same)
    by_first (Some c) e (inr i) more = let found = more i in (found.0, inr found.1, found.2)

-- an item that passes the test is left
pub In-filter : {A : Type 0} (p : A → Bool) (x : A) (xs : List A) → In x xs → p x ≡ true → In x (filter p xs)
In-filter p x [] h e = absurd h
In-filter p x (y ∷ ys) (inl same) e = subst (λ b. In x (cond b (y ∷ filter p ys) (filter p ys))) (sym (ap p same ∙ e))
    (inl same)
In-filter p x (y ∷ ys) (inr h) e = later (p y) (In-filter p x ys h e)
  where
    later : (b : Bool) → In x (filter p ys) → In x (cond b (y ∷ filter p ys) (filter p ys))
    later true i = inr i
    later false i = i

-- an item that is left is in the list and passes the test
pub in_filter : {A : Type 0} (p : A → Bool) (x : A) (xs : List A) → In x (filter p xs) → In x xs × (p x ≡ true)
in_filter p x [] h = absurd h
in_filter p x (y ∷ ys) h = by_first (p y) refl h (in_filter p x ys)
  where
    by_first : (b : Bool) → p y ≡ b → In x (cond b (y ∷ filter p ys) (filter p ys))
        → (In x (filter p ys) → In x ys × (p x ≡ true)) → In x (y ∷ ys) × (p x ≡ true)
    by_first true e (inl same) more = (inl same, ap p (sym same) ∙ e)
    by_first true e (inr i) more = let found = more i in (inr found.0, found.1)
    by_first false e i more = let found = more i in (inr found.0, found.1)

-- a fact of each item, by recursion
abbrev pub Each : {A : Type 0} → (A → Type 0) → List A → Type 0
Each P [] = Unit {0}
Each P (x ∷ xs) = P x × Each P xs

-- a fact of each item holds of one of them
pub Each-in : {A : Type 0} (P : A → Type 0) (x : A) (xs : List A) → Each P xs → In x xs → P x
Each-in P x [] each h = absurd h
Each-in P x (y ∷ ys) each (inl e) = subst P e each.0
Each-in P x (y ∷ ys) each (inr h) = Each-in P x ys each.1 h

-- a fact of whatever is in a list is one of each item
pub Each-from_in : {A : Type 0} (P : A → Type 0) (xs : List A) → ((x : A) → In x xs → P x) → Each P xs
Each-from_in P [] h = tt
Each-from_in P (x ∷ xs) h = (h x (inl refl), Each-from_in P xs (λ y i. h y (inr i)))

-- a weaker fact of each item
pub Each-weaker : {A : Type 0} (P Q : A → Type 0) → ((x : A) → P x → Q x) → (xs : List A) → Each P xs → Each Q xs
Each-weaker P Q w [] each = tt
Each-weaker P Q w (x ∷ xs) each = (w x each.0, Each-weaker P Q w xs each.1)

-- a fact of each item, as one of all
pub All-from_each : {A : Type 0} (P : A → Type 0) (xs : List A) → Each P xs → All P xs
All-from_each P [] each = All-nil P
All-from_each {A} P (x ∷ xs) each = λ k d lt. go (All-from_each P xs each.1) k d lt
  where
    go : All P xs → (k : ℕ) (d : A) → k < length (x ∷ xs) → P (get_or (x ∷ xs) k d)
    go others zero d lt = each.0
    go others (suc k) d lt = others k d (omega arith)

-- a fact of all items, as one of each
pub each_from_All : {A : Type 0} (P : A → Type 0) (xs : List A) → All P xs → Each P xs
each_from_All P [] all = tt
each_from_All P (x ∷ xs) all = (All-head P x xs all, each_from_All P xs (All-tail P x xs all))

-- a fact of each item and each later one, by recursion
abbrev pub EachPair : {A : Type 0} → (A → A → Type 0) → List A → Type 0
EachPair R [] = Unit {0}
EachPair R (x ∷ xs) = Each (R x) xs × EachPair R xs

-- a relation of each pair, as one of all pairs
pub AllPairs-from_each : {A : Type 0} (R : A → A → Type 0) (xs : List A) → EachPair R xs → AllPairs R xs
AllPairs-from_each R [] each = λ i j d lt within. absurd (omega arith)
AllPairs-from_each R (x ∷ xs) each = AllPairs-cons R x xs (All-from_each (R x) xs each.0)
    (AllPairs-from_each R xs each.1)

-- a relation of all pairs, as one of each pair
pub each_from_AllPairs : {A : Type 0} (R : A → A → Type 0) (xs : List A) → AllPairs R xs → EachPair R xs
each_from_AllPairs R [] pairs = tt
each_from_AllPairs R
    (x ∷ xs) pairs = (
      each_from_All (R x) xs
          (λ k d lt. pairs 0 (suc k) d (omega arith) (omega arith)),
      each_from_AllPairs R xs
          (λ i j d lt within. pairs (suc i) (suc j) d (omega arith) (omega arith)),
    )

-- some item has the fact that one in the list has
pub Any-from_in : {A : Type 0} (P : A → Type 0) (x : A) (xs : List A) → In x xs → P x → Any P xs
Any-from_in P x xs h p = let c = Contains-from_in x xs h in (c.0, x, c.1, c.2, p)

-- one of the items has the fact that some item has
pub in_from_Any : {A : Type 0} (P : A → Type 0) (xs : List A) → Any P xs → (x : A) × In x xs × P x
in_from_Any P xs any = (any.1, in_from_Contains any.1 xs (any.0, any.2, any.3), any.4)

-- a fact of each item, and of one more behind them
pub Each-push : {A : Type 0} (P : A → Type 0) (xs : List A) (x : A) → Each P xs → P x → Each P (xs ++ x ∷ [])
Each-push P [] x each p = (p, tt)
Each-push P (y ∷ xs) x each p = (each.0, Each-push P xs x each.1 p)

-- a relation of each pair, and of each item with one more behind them
pub EachPair-push : {A : Type 0} (R : A → A → Type 0) (items : List A) (last : A) → EachPair R items
    → Each (λ x. R x last) items → EachPair R (items ++ last ∷ [])
EachPair-push R [] last pairs each = (tt, tt)
EachPair-push R (item ∷ items) last pairs each =
    (Each-push (R item) items last pairs.0 each.0, EachPair-push R items last pairs.1 each.1)

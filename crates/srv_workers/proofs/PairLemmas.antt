-- Two lists of one length, and what is made of their pairs.
use Rattle.std.proofs.Common.{◌≡◌, ℕ, suc, ◌<◌, ◌≤◌, List, [], ◌∷◌, length, map, take, All, Option, Some, None, IfSome, refl, ap₂, subst, ◌∙◌, arith, slice_index_or, option_map}
use Rattle.std.proofs.lemmas.List.{take_all}
use Rattle.std.proofs.lemmas.List.Elements.{All-nil, All-cons}
use Rattle.std.specs.List.{AllZip, cons_option, filter_map}
use Rattle.srv_workers.specs.Pairs.{pick}

-- what holds of two items holds of their equals
pub of-equals : {A : Type 0} (Is : A → A → Type 0) (x x' y y' : A) → x ≡ x' → y ≡ y' → Is x y → Is x' y'
of-equals {A} Is x x' y y' one two is = subst (λ (z : A). Is x' z) two (subst (λ (z : A). Is z y) one is)

-- what holds of all the first items
pub All-whole : {A : Type 0} (P : A → Type 0) (n : ℕ) (xs : List A) → length xs ≤ n → All P (take n xs) → All P xs
All-whole {A} P n xs within all = subst (λ (l : List A). All P l) (take_all n xs within) all

-- a fact at each index holds of each pair
pub AllZip-at : {A : Type 0} (Is : A → A → Type 0) (xs ys : List A) → length ys ≡ length xs
    → ((i : ℕ) (d : A) → i < length xs → Is (slice_index_or xs i d) (slice_index_or ys i d)) → AllZip Is xs ys
AllZip-at Is [] [] same at = tt
AllZip-at Is [] (y ∷ ys) same at = absurd (omega (arith, same))
AllZip-at Is (x ∷ xs) [] same at = absurd (omega (arith, same))
AllZip-at {A} Is (x ∷ xs) (y ∷ ys) same at =
    (at 0 x (omega arith), AllZip-at Is xs ys (omega (arith, same)) (λ i d below. at (suc i) d (omega (arith, below))))

-- what holds of each pair, with one step more for the second
pub AllZip-then : {A B C : Type 0} (Is : A → B → Type 0) (Then : B → C → Type 0) (Both : A → C → Type 0)
    (xs : List A) (ys : List B) (zs : List C) → AllZip Is xs ys → AllZip Then ys zs
    → ((x : A) (y : B) (z : C) → Is x y → Then y z → Both x z) → AllZip Both xs zs
AllZip-then Is Then Both [] [] [] one two both = tt
AllZip-then Is Then Both (x ∷ xs) (y ∷ ys) (z ∷ zs) one two both =
    (both x y z one.0 two.0, AllZip-then Is Then Both xs ys zs one.1 two.1 both)
AllZip-then Is Then Both [] [] (z ∷ zs) one two both = absurd two
AllZip-then Is Then Both [] (y ∷ ys) zs one two both = absurd one
AllZip-then Is Then Both (x ∷ xs) [] zs one two both = absurd one
AllZip-then Is Then Both (x ∷ xs) (y ∷ ys) [] one two both = absurd two

-- a function of what may be there, of each
map-cons_option : {X Y : Type 0} (h : X → Y) (x : Option X) (xs : List X)
    → map h (cons_option x xs) ≡ cons_option (option_map h x) (map h xs)
map-cons_option h None xs = refl
map-cons_option h (Some x) xs = refl

-- a function of the first items, over the results of pairs
pub pick-first : {A B R Z : Type 0} (Is : A → B → Type 0) (made : A → B → Option R) (h : R → Z) (g : A → Option Z)
    (xs : List A) (ys : List B) → AllZip Is xs ys → ((x : A) (y : B) → Is x y → option_map h (made x y) ≡ g x)
    → map h (pick made xs ys) ≡ filter_map g xs
pick-first Is made h g [] [] each is = refl
pick-first Is made h g [] (y ∷ ys) each is = absurd each
pick-first Is made h g (x ∷ xs) [] each is = absurd each
pick-first {Z = Z} Is made h g (x ∷ xs) (y ∷ ys) each is =
    map-cons_option h (made x y) (pick made xs ys)
    ∙ ap₂ (λ (o : Option Z) (l : List Z). cons_option o l) (is x y each.0) (pick-first Is made h g xs ys each.1 is)

-- a function of the second items, over the results of pairs
pub pick-second : {A B R Z : Type 0} (Is : A → B → Type 0) (made : A → B → Option R) (h : R → Z) (g : B → Option Z)
    (xs : List A) (ys : List B) → AllZip Is xs ys → ((x : A) (y : B) → Is x y → option_map h (made x y) ≡ g y)
    → map h (pick made xs ys) ≡ filter_map g ys
pick-second Is made h g [] [] each is = refl
pick-second Is made h g [] (y ∷ ys) each is = absurd each
pick-second Is made h g (x ∷ xs) [] each is = absurd each
pick-second {Z = Z} Is made h g (x ∷ xs) (y ∷ ys) each is =
    map-cons_option h (made x y) (pick made xs ys)
    ∙ ap₂ (λ (o : Option Z) (l : List Z). cons_option o l) (is x y each.0) (pick-second Is made h g xs ys each.1 is)

-- what holds of what may be there, and of all others
all_more : {R : Type 0} (P : R → Type 0) (o : Option R) (rs : List R) → IfSome o P → All P rs → All P (cons_option o rs)
all_more P None rs there all = all
all_more P (Some r) rs there all = All-cons P r rs there all

-- a fact of all results of pairs
pub pick-all : {A B R : Type 0} (Is : A → B → Type 0) (made : A → B → Option R) (P : R → Type 0)
    (xs : List A) (ys : List B) → AllZip Is xs ys → ((x : A) (y : B) → Is x y → IfSome (made x y) P)
    → All P (pick made xs ys)
pick-all Is made P [] [] each is = All-nil P
pick-all Is made P [] (y ∷ ys) each is = absurd each
pick-all Is made P (x ∷ xs) [] each is = absurd each
pick-all {A} {B} {R} Is made P (x ∷ xs) (y ∷ ys) each is =
    all_more P (made x y) (pick made xs ys) (is x y each.0) (pick-all Is made P xs ys each.1 is)

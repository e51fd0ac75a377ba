-- Equally many of each number below a count.
use Rattle.std.proofs.Common.{◌≡◌, ℕ, zero, suc, ◌<◌, ◌≤◌, List, [], ◌∷◌, ◌++◌, length, map, All, replicate, refl, ap, ap₂, ◌∙◌, length-append, arith}
use Rattle.std.proofs.lemmas.List.{length-replicate, map-append}
use Rattle.std.proofs.lemmas.List.Elements.{All-append, All-cons, All-head, All-nil, All-replicate, All-tail}
use Rattle.srv_workers.specs.Given.{each_of}

-- a function of equal items
pub map-equals : {A B : Type 0} (f : A → B) (n : ℕ) (x : A) → map f (replicate n x) ≡ replicate n (f x)
map-equals f zero x = refl
map-equals {B = B} f (suc n) x = ap (λ (l : List B). f x ∷ l) (map-equals f n x)

-- a function of n of each
pub map-each : {A B : Type 0} (f : A → B) (times count : ℕ) (made : ℕ → A)
    → map f (each_of times count made) ≡ each_of times count (λ (n : ℕ). f (made n))
map-each f times zero made = refl
map-each {B = B} f times (suc count) made =
    map-append f (replicate times (made 0)) (each_of times count (λ (n : ℕ). made (suc n)))
    ∙ ap₂ (λ (l m : List B). l ++ m) (map-equals f times (made 0))
    (map-each f times count (λ (n : ℕ). made (suc n)))

-- equals of each number below a count
pub each-same : {A : Type 0} (times count : ℕ) (f g : ℕ → A) → ((n : ℕ) → n < count → f n ≡ g n)
    → each_of times count f ≡ each_of times count g
each-same times zero f g same = refl
each-same {A} times (suc count) f g same =
    ap₂ (λ (x : A) (l : List A). replicate times x ++ l) (same 0 (omega arith))
    (each-same times count (λ (n : ℕ). f (suc n)) (λ (n : ℕ). g (suc n))
    (λ n below. same (suc n) (omega (arith, below))))

-- there are as many whatever they are
pub length-each : {A B : Type 0} (times count : ℕ) (f : ℕ → A) (g : ℕ → B)
    → length (each_of times count f) ≡ length (each_of times count g)
length-each times zero f g = refl
length-each times (suc count) f g = omega (
  arith,
  length-append (replicate times (f 0)) (each_of times count (λ (n : ℕ). f (suc n))),
  length-append (replicate times (g 0)) (each_of times count (λ (n : ℕ). g (suc n))),
  length-replicate times (f 0),
  length-replicate times (g 0),
  length-each times count (λ (n : ℕ). f (suc n)) (λ (n : ℕ). g (suc n)),
)

-- one of each is as many as there are
pub length-once : {A : Type 0} (count : ℕ) (f : ℕ → A) → length (each_of 1 count f) ≡ count
length-once zero f = refl
length-once (suc count) f = ap suc (length-once count (λ (n : ℕ). f (suc n)))

-- none of each is none
pub length-never : {A : Type 0} (count : ℕ) (f : ℕ → A) → length (each_of 0 count f) ≡ 0
length-never zero f = refl
length-never (suc count) f = length-never count (λ (n : ℕ). f (suc n))

-- at most one of each is at most as many
pub length-each-le : {A : Type 0} (times count : ℕ) (f : ℕ → A) → times ≤ 1 → length (each_of times count f) ≤ count
length-each-le times zero f few = omega arith
length-each-le times (suc count) f few = omega (
  arith,
  few,
  length-append (replicate times (f 0)) (each_of times count (λ (n : ℕ). f (suc n))),
  length-replicate times (f 0),
  length-each-le times count (λ (n : ℕ). f (suc n)) few,
)

-- what holds of each number below a count holds of n of each
pub all-each : {A : Type 0} (P : A → Type 0) (times count : ℕ) (made : ℕ → A) → ((n : ℕ) → n < count → P (made n))
    → All P (each_of times count made)
all-each P times zero made is = All-nil P
all-each P times (suc count) made is =
    All-append P (replicate times (made 0)) (each_of times count (λ (n : ℕ). made (suc n)))
    (All-replicate P times (made 0) (is 0 (omega arith)))
    (all-each P times count (λ (n : ℕ). made (suc n)) (λ n below. is (suc n) (omega (arith, below))))

-- what holds of a function of each
pub all-back : {A B : Type 0} (P : B → Type 0) (f : A → B) (xs : List A) → All P (map f xs)
    → All (λ (x : A). P (f x)) xs
all-back P f [] all = All-nil (λ x. P (f x))
all-back P f (x ∷ xs) all =
    All-cons (λ x. P (f x)) x xs (All-head P (f x) (map f xs) all)
    (all-back P f xs (All-tail P (f x) (map f xs) all))

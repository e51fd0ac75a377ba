-- Items that are taken off lists and put behind others, one after the other, until none is left.
use Rattle.std.proofs.Common.{◌≡◌, ℕ, ◌<◌, ◌+◌, ◌-◌, List, [], ◌∷◌, ◌++◌, length, map, refl, sym, ap, ap₂, ◌∙◌, append_assoc, append-nil, arith}
use Rattle.srv_many.specs.declared.several.Several.{Several}
use Rattle.srv_workers.specs.Joined.{rows}

-- an item is left where some are
pub some-left : {A : Type 0} (items : List A) (all n : ℕ) → n < all → length items ≡ all - n → 0 < length items
some-left items all n below is = omega (arith, below, is)

-- one less is left after the next
pub less-left : {A : Type 0} (items more : List A) (item : A) (all n : ℕ) → length items ≡ all - n
    → items ≡ item ∷ more → length more ≡ all - (n + 1)
less-left {A} items more item all n is first = omega (arith, is, ap (λ (l : List A). length l) first)

-- the next item is behind the others
pub map-next : {A B : Type 0} (f : A → B) (put put' whole : List B) (items more : List A) (item : A)
    → put ++ map f items ≡ whole → items ≡ item ∷ more → put' ≡ put ++ f item ∷ [] → put' ++ map f more ≡ whole
map-next {A} {B} f put put' whole items more item is first next =
    ap (λ (l : List B). l ++ map f more) next
    ∙ append_assoc put (f item ∷ []) (map f more)
    ∙ ap (λ (l : List A). put ++ map f l) (sym first)
    ∙ is

-- all of them are
pub map-end : {A B : Type 0} (f : A → B) (put whole : List B) (items : List A) → length items ≡ 0
    → put ++ map f items ≡ whole → put ≡ whole
map-end {A} {B} f put whole items none is =
    sym (append-nil put) ∙ ap (λ (l : List A). put ++ map f l) (sym (empty items none)) ∙ is
  where
    empty : (l : List A) → length l ≡ 0 → l ≡ []
    empty [] of_none = refl
    empty (x ∷ xs) of_none = absurd (omega (arith, of_none))

-- the next pair is behind the others
pub rows-next : {A B : Type 0} (put put' whole : List (Several A B)) (xs more : List A) (x : A) (ys others : List B)
    (y : B) → put ++ rows xs ys ≡ whole → xs ≡ x ∷ more → ys ≡ y ∷ others
    → put' ≡ put ++ (record { first = x; others = y }) ∷ [] → put' ++ rows more others ≡ whole
rows-next {A} {B} put put' whole xs more x ys others y is first second next =
    ap (λ (l : List (Several A B)). l ++ rows more others) next
    ∙ append_assoc put ((record { first = x; others = y }) ∷ []) (rows more others)
    ∙ ap₂ (λ (l : List A) (m : List B). put ++ rows l m) (sym first) (sym second)
    ∙ is

-- all of them are
pub rows-end : {A B : Type 0} (put whole : List (Several A B)) (xs : List A) (ys : List B) → length xs ≡ 0
    → put ++ rows xs ys ≡ whole → put ≡ whole
rows-end put whole [] ys none is = sym (append-nil put) ∙ is
rows-end put whole (x ∷ xs) ys none is = absurd (omega (arith, none))

-- Items of lists by their index, how many are left of a list, and texts that are the same.
use Rattle.std.proofs.Common.{◌≡◌, ℕ, zero, suc, ◌+◌, ◌<◌, ◌≤◌, Bool, true, List, [], ◌∷◌, ◌++◌, length, take, drop, find, get_or, Option, Some, None, refl, sym, ap, ◌∙◌, arith}
use Rattle.std.proofs.lemmas.List.{take-take, drop-take}
use Rattle.std.specs.List.{cons_option, filter_map, slice_get}
use Rattle.std.specs.Str.{bytes_eq}
use Rattle.std.proofs.lemmas.Slice.Eq.{bytes_eq-Decides}

-- no more is made than there are items
pub length-filter_map : {A B : Type 0} (make : A → Option B) (items : List A)
    → length (filter_map make items) ≤ length items
length-filter_map make [] = omega arith
length-filter_map {A} {B} make (item ∷ items) = by_item (make item) (length-filter_map make items)
  where
    by_item : (o : Option B) → length (filter_map make items) ≤ length items
        → length (cons_option o (filter_map make items)) ≤ length (item ∷ items)
    by_item None le = omega (arith, le)
    by_item (Some made) le = omega (arith, le)

-- an item of the first of two lists
pub slice_get-append : {A : Type 0} (xs ys : List A) (n : ℕ) → n < length xs → slice_get (xs ++ ys) n ≡ slice_get xs n
slice_get-append [] ys n below = absurd (omega arith)
slice_get-append (x ∷ xs) ys zero below = refl
slice_get-append (x ∷ xs) ys (suc n) below = slice_get-append xs ys n (omega arith)

-- the item behind a list
pub slice_get-push : {A : Type 0} (xs : List A) (x : A) → slice_get (xs ++ x ∷ []) (length xs) ≡ Some x
slice_get-push [] x = refl
slice_get-push (y ∷ xs) x = slice_get-push xs x

-- a search from an item that passes finds that item
pub find-there : {A : Type 0} (p : A → Bool) (xs : List A) (x : A) (n : ℕ) → n < length xs → x ≡ get_or xs n x
    → p x ≡ true → find p (drop n xs) ≡ slice_get xs n
find-there p [] x n within there passes = grind arith
find-there p (y ∷ ys) x zero within there passes = grind arith
find-there p (y ∷ ys) x (suc n) within there passes = find-there p ys x n (omega arith) there passes

-- the test of two texts that are the same
pub same_bytes : (xs ys : List ℕ) → xs ≡ ys → bytes_eq xs ys ≡ true
same_bytes xs ys is = (bytes_eq-Decides xs ys).1 is

-- two texts that pass the test are the same
pub bytes_same : (xs ys : List ℕ) → bytes_eq xs ys ≡ true → xs ≡ ys
bytes_same xs ys is = (bytes_eq-Decides xs ys).0 is

-- the fronts of two texts that are the same, each in another form
pub turned : (a b c d us vs : List ℕ) → a ≡ b → c ≡ d → a ++ us ≡ c ++ vs → b ++ us ≡ d ++ vs
turned a b c d us vs p q e = cc

-- two texts begin with the same n bytes
abbrev pub Agree : ℕ → List ℕ → List ℕ → Type 0
Agree n xs ys = take n xs ≡ take n ys

-- texts that begin with the same bytes begin with fewer the same
pub agree_less : (m n : ℕ) (xs ys : List ℕ) → m ≤ n → Agree n xs ys → Agree m xs ys
agree_less m n xs ys less e = sym (take-take m n xs less) ∙ ap (λ (l : List ℕ). take m l) e ∙ take-take m n ys less

-- what follows the first bytes of texts that begin with the same
pub agree_drop : (m n : ℕ) (xs ys : List ℕ) → Agree (m + n) xs ys → Agree n (drop m xs) (drop m ys)
agree_drop m n xs ys e = sym (drop-take m n xs) ∙ ap (λ (l : List ℕ). drop m l) e ∙ drop-take m n ys

-- A walk through pages, and what it comes by.
use Rattle.std.proofs.Common.{◌≡◌, ℕ, ◌+◌, ◌<◌, List, [], ◌∷◌, ◌++◌, length, get_or, take, Option, Some, None, ℤ, refl, sym, ap, subst, ◌∙◌}
use Rattle.std.specs.Prelude.{All, map}
use Rattle.std.specs.List.{filter_map, cons_option}
use Rattle.std.specs.Map.{keys_of}
use Rattle.std.specs.Option.{option_to_list}
use Rattle.std.proofs.lemmas.List.{append_assoc, map-append, take_more}
use Rattle.std.proofs.lemmas.List.Elements.{filter_map-append}
use Rattle.fm_model.specs.declared.loaded.Loaded.{Loaded}
use Rattle.fm_model.proofs.Members.{Each, All-from_each, each_from_All}

-- one more key
pub key_taken : (keys total : List ℤ) (key : ℤ) (files : List Loaded) (rest before : List (ℤ × List Loaded))
    → before ≡ (key, files) ∷ rest → keys ++ keys_of before ≡ total → (keys ++ key ∷ []) ++ keys_of rest ≡ total
key_taken keys total key files rest before is sum = append_assoc keys (key ∷ []) (keys_of rest)
    ∙ ap (λ l. keys ++ keys_of l) (sym is) ∙ sum

keys-append : (entries rest : List (ℤ × List Loaded)) → keys_of (entries ++ rest) ≡ keys_of entries ++ keys_of rest
keys-append [] rest = refl
keys-append (entry ∷ entries) rest = ap (λ l. entry.0 ∷ l) (keys-append entries rest)

-- some more keys
pub keys_taken : (keys total : List ℤ) (entries rest : List (ℤ × List Loaded))
    → keys ++ keys_of (entries ++ rest) ≡ total → (keys ++ keys_of entries) ++ keys_of rest ≡ total
keys_taken keys total entries rest sum = append_assoc keys (keys_of entries) (keys_of rest)
    ∙ ap (λ l. keys ++ l) (sym (keys-append entries rest)) ∙ sum

-- what a function gives of one more item
pub mapped_taken : {A B : Type 0} (f : A → B) (made whole : List B) (item : A) (rest before : List A)
    → before ≡ item ∷ rest → made ++ map f before ≡ whole → (made ++ f item ∷ []) ++ map f rest ≡ whole
mapped_taken f made whole item rest before is sum = append_assoc made (f item ∷ []) (map f rest)
    ∙ ap (λ l. made ++ map f l) (sym is) ∙ sum

-- one more item is made, which gives the next of those that are left
pub made_taken : {A B : Type 0} (f : A → B) (made : List A) (whole : List B) (item : A) (next : B)
    (rest before : List B) → before ≡ next ∷ rest → map f made ++ before ≡ whole → f item ≡ next
    → map f (made ++ item ∷ []) ++ rest ≡ whole
made_taken f made whole item next rest before is sum gives =
    ap (λ l. l ++ rest) (map-append f made (item ∷ []) ∙ ap (λ x. map f made ++ x ∷ []) gives)
    ∙ append_assoc (map f made) (next ∷ []) rest ∙ ap (λ l. map f made ++ l) (sym is) ∙ sum

-- what is made of one more item
pub filter_map-more : {A B : Type 0} (make : A → Option B) (items : List A) (i : ℕ) (d : A) → i < length items
    → filter_map make (take (i + 1) items) ≡ filter_map make (take i items) ++ option_to_list (make (get_or items i d))
filter_map-more {A} {B} make items i d lt =
    ap (filter_map make) (take_more items i d lt) ∙ filter_map-append make (take i items) (get_or items i d ∷ [])
    ∙ ap (λ l. filter_map make (take i items) ++ l) (alone (make (get_or items i d)))
  where
    alone : (o : Option B) → cons_option o [] ≡ option_to_list o
    alone None = refl
    alone (Some x) = refl

-- one more item may make one more
pub one_more : {A B : Type 0} (make : A → Option B) (made : List B) (o : Option B) (items : List A) (i : ℕ) (d : A)
    → i < length items
    → made ≡ filter_map make (take i items) → o ≡ make (get_or items i d) → made ++ option_to_list o
    ≡ filter_map make (take (i + 1) items)
one_more make made o items i d lt before is = cc (filter_map-more make items i d lt, before, is)

-- what is made of the items so far and of those that are left, with one item more
pub one_taken : {A B : Type 0} (make : A → Option B) (made : List B) (o : Option B) (item : A) (rest before : List A)
    (whole : List B) → before ≡ item ∷ rest → made ++ filter_map make before ≡ whole → o ≡ make item
    → (made ++ option_to_list o) ++ filter_map make rest ≡ whole
one_taken {A} {B} make made o item rest before whole is sum found =
    joined made o (filter_map make rest) ∙ ap (λ x. made ++ cons_option x (filter_map make rest)) found
    ∙ ap (λ l. made ++ filter_map make l) (sym is) ∙ sum
  where
    joined : (made : List B) (o : Option B) (more : List B) → (made ++ option_to_list o) ++ more
        ≡ made ++ cons_option o more
    joined [] None more = refl
    joined [] (Some x) more = refl
    joined (x ∷ made) o more = ap (λ l. x ∷ l) (joined made o more)

-- what is made of the items so far, of some more and of those that are left
pub some_taken : {A B : Type 0} (make : A → Option B) (made : List B) (items rest : List A) (whole : List B)
    → made ++ filter_map make (items ++ rest) ≡ whole → (made ++ filter_map make items) ++ filter_map make rest ≡ whole
some_taken make made items rest whole sum = append_assoc made (filter_map make items) (filter_map make rest)
    ∙ ap (λ l. made ++ l) (sym (filter_map-append make items rest)) ∙ sum

each_parts : {A : Type 0} (P : A → Type 0) (xs ys : List A) → Each P (xs ++ ys) → Each P xs × Each P ys
each_parts P [] ys each = (tt, each)
each_parts P (x ∷ xs) ys each =
    let more = each_parts P xs ys each.1 in
    ((each.0, more.0), more.1)

-- what holds of each item of two lists holds of each item of either
pub all_parts : {A : Type 0} (P : A → Type 0) (xs ys : List A) → All P (xs ++ ys) → All P xs × All P ys
all_parts P xs ys all =
    let parts = each_parts P xs ys (each_from_All P (xs ++ ys) all) in
    (All-from_each P xs parts.0, All-from_each P ys parts.1)

-- what holds of each item holds of the first
pub all_first : {A : Type 0} (P : A → Type 0) (x : A) (xs before : List A) → before ≡ x ∷ xs → All P before → P x
all_first P x xs before is all = (each_from_All P (x ∷ xs) (subst (All P) is all)).0

-- what holds of each item holds of those after the first
pub all_rest : {A : Type 0} (P : A → Type 0) (x : A) (xs before : List A) → before ≡ x ∷ xs → All P before → All P xs
all_rest P x xs before is all = All-from_each P xs (each_from_All P (x ∷ xs) (subst (All P) is all)).1

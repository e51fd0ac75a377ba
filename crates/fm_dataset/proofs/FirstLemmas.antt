-- The first item that passes among one item more, and the coordinate variables among one variable more.
use Rattle.std.proofs.Common.{◌≡◌, ◌≢◌, ℕ, ◌+◌, ◌<◌, ◌≤◌, List, [], ◌∷◌, ◌++◌, take, find, length, get_or, set, Bool, true, false, cond, Option, Some, None, refl, sym, ap, subst, ◌∙◌, ◌⊎◌, inl, inr, arith}
use Rattle.std.specs.List.{slice_get}
use Rattle.std.proofs.lemmas.List.{take_more, take_all, get_or-set_same, get_or-set_other, length-set}
use Rattle.std.specs.Prelude.{nat_eq, not, ◌&&◌}
use Rattle.std.specs.Option.{option_map_or}
use Rattle.std.specs.Str.{bytes_eq}
use Rattle.std.proofs.lemmas.Bool.{true≢false}
use Rattle.std.proofs.lemmas.Bool.Decides.{nat_tests}
use Rattle.std.proofs.lemmas.Option.{get_or_from_slice_get, none-some, slice_get_past, slice_get-get_or, slice_get_within}
use Rattle.nc_model.specs.declared.header.Dim.{Dim}
use Rattle.fm_model.specs.declared.proto.Proto.{Proto}
use Rattle.fm_model.specs.declared.proto.ProtoVar.{ProtoVar}
use Rattle.fm_model.specs.Attribute.{is_char}
use Rattle.fm_model.specs.Variable.{are_same, is_coordinate, is_named}
use Rattle.fm_dataset.specs.Declarations.{coordinate_of, is_coordinate_of}
use Rattle.fm_dataset.specs.Kept.{AreFirstOf, HasCoordinates}

-- an item that fails is not found
find-push_failing : {A : Type 0} (p : A → Bool) (xs : List A) (x : A) → p x ≡ false
    → find p (xs ++ x ∷ []) ≡ find p xs
find-push_failing p [] x fails = rw fails refl
find-push_failing p (y ∷ ys) x fails = ap (λ (o : Option _). cond (p y) (Some y) o) (find-push_failing p ys x fails)

-- what was found before is found still
find-push_found : {A : Type 0} (p : A → Bool) (xs : List A) (x y : A) → find p xs ≡ Some y
    → find p (xs ++ x ∷ []) ≡ Some y
find-push_found p [] x y found = absurd (none-some y found)
find-push_found {A} p (z ∷ zs) x y found = by_test (p z) refl (find-push_found p zs x y)
  where
    by_test : (b : Bool) → p z ≡ b → (find p zs ≡ Some y → find p (zs ++ x ∷ []) ≡ Some y)
        → find p (z ∷ zs ++ x ∷ []) ≡ Some y
    by_test true is rest = rw is (rw is at found)
    by_test false is rest = rw is (rest (rw is at found))

-- where nothing was found before, an item that passes is
find-push_new : {A : Type 0} (p : A → Bool) (xs : List A) (x : A) → find p xs ≡ None → p x ≡ true
    → find p (xs ++ x ∷ []) ≡ Some x
find-push_new p [] x none passes = rw passes refl
find-push_new {A} p (z ∷ zs) x none passes =
    by_test (p z) refl (λ left. find-push_new p zs x left passes)
  where
    by_test : (b : Bool) → p z ≡ b → (find p zs ≡ None → find p (zs ++ x ∷ []) ≡ Some x)
        → find p (z ∷ zs ++ x ∷ []) ≡ Some x
    by_test true is rest = absurd (none-some z (sym (rw is at none)))
    by_test false is rest = rw is (rest (rw is at none))

-- where no item passes, none is found
find-none : {A : Type 0} (p : A → Bool) (xs : List A) → ((x : A) → p x ≡ false) → find p xs ≡ None
find-none p [] fails = refl
find-none p (x ∷ xs) fails = rw (fails x) (find-none p xs fails)

-- no variable is the coordinate variable of a dimension past the last
past-fails : (proto : Proto) (id : ℕ) → length proto.dims ≤ id → (var : ProtoVar)
    → is_coordinate_of proto id var ≡ false
unfolding is_coordinate_of is_coordinate is_named
past-fails proto id past var = by_dims var.dims refl
  where
    by_dims : (dims : List ℕ) → var.dims ≡ dims → is_coordinate_of proto id var ≡ false
    by_dims [] is = rw is refl
    by_dims (only ∷ []) is = rw is (by_test (nat_eq only id) refl)
      where
        by_test : (b : Bool) → nat_eq only id ≡ b → ((nat_eq only id && true)
            && (option_map_or (λ (dim : Dim). bytes_eq dim.name var.name) (slice_get proto.dims only) false
            && not (is_char var.kind))) ≡ false
        by_test true same =
            let equal : only ≡ id = grind (arith, nat_tests, same) in
            rw (same, slice_get_past proto.dims only (omega (arith, equal, past))) refl
        by_test false other = rw other refl
    by_dims (first ∷ second ∷ more) is = rw is (and_false (are_same (first ∷ second ∷ more) (id ∷ [])))
      where
        and_false : (b : Bool) → (b && false) ≡ false
        and_false true = refl
        and_false false = refl

pub coordinate-past : (proto : Proto) (id : ℕ) → length proto.dims ≤ id → coordinate_of proto id ≡ None
unfolding coordinate_of
coordinate-past proto id past = find-none (is_coordinate_of proto id) proto.vars (past-fails proto id past)

-- the variable of a number is the one more of those up to it
with_one : (proto : Proto) (n : ℕ) (var : ProtoVar) → slice_get proto.vars n ≡ Some var
    → take (n + 1) proto.vars ≡ take n proto.vars ++ var ∷ []
with_one proto n var there = take_more proto.vars n var (slice_get_within proto.vars n var there)
    ∙ ap (λ (v : ProtoVar). take n proto.vars ++ v ∷ []) (get_or_from_slice_get proto.vars n var var there)

-- a variable that is the coordinate variable of no dimension, or of one that has one already, changes nothing
pub first-passed : (proto : Proto) (n : ℕ) (var : ProtoVar) (numbers : List ℕ) → slice_get proto.vars n ≡ Some var
    → AreFirstOf proto n numbers
    → ((id : ℕ) → id < length proto.dims
    → (is_coordinate_of proto id var ≡ false) ⊎ (get_or numbers id 0 < length proto.vars))
    → AreFirstOf proto (n + 1) numbers
first-passed proto n var numbers there are passed = record {
  count = are.count;
  each = λ id below. are.each id below ∙ same id below (passed id below)
      ∙ ap (find (is_coordinate_of proto id)) (sym (with_one proto n var there));
}
  where
    same : (id : ℕ) → id < length proto.dims
        → (is_coordinate_of proto id var ≡ false) ⊎ (get_or numbers id 0 < length proto.vars)
        → find (is_coordinate_of proto id) (take n proto.vars)
        ≡ find (is_coordinate_of proto id) (take n proto.vars ++ var ∷ [])
    same id below (inl fails) = sym (find-push_failing (is_coordinate_of proto id) (take n proto.vars) var fails)
    same id below (inr within) =
        let held = slice_get-get_or proto.vars (get_or numbers id 0) var within in
        let found = sym (are.each id below) ∙ held in
        found ∙ sym (find-push_found (is_coordinate_of proto id) (take n proto.vars) var _ found)

-- whether a dimension is the one whose coordinate variable a variable is
abbrev Decides : Proto → ProtoVar → ℕ → Type 0
Decides proto var own = (id : ℕ) → id < length proto.dims → is_coordinate_of proto id var ≡ nat_eq own id

-- the variable is the first one of its dimension
pub first-noted : (proto : Proto) (n : ℕ) (var : ProtoVar) (numbers : List ℕ) (own : ℕ)
    → slice_get proto.vars n ≡ Some var → AreFirstOf proto n numbers → Decides proto var own → own < length numbers
    → length proto.vars ≤ get_or numbers own 0 → AreFirstOf proto (n + 1) (set numbers own n)
first-noted proto n var numbers own there are is_own below past = record {
  count = length-set numbers own n ∙ are.count;
  each = λ id within. each id within (nat_eq own id) refl;
}
  where
    each : (id : ℕ) → id < length proto.dims → (b : Bool) → nat_eq own id ≡ b
        → slice_get proto.vars (get_or (set numbers own n) id 0)
        ≡ find (is_coordinate_of proto id) (take (n + 1) proto.vars)
    each id within true is =
        let same : own ≡ id = grind (arith, nat_tests, is) in
        let none : find (is_coordinate_of proto id) (take n proto.vars) ≡ None =
        sym (are.each id within) ∙ ap (λ k. slice_get proto.vars (get_or numbers k 0)) (sym same)
        ∙ slice_get_past proto.vars (get_or numbers own 0) past in
        ap (λ k. slice_get proto.vars (get_or (set numbers own n) k 0)) (sym same)
        ∙ ap (slice_get proto.vars) (get_or-set_same numbers own n 0 below) ∙ there
        ∙ sym (find-push_new (is_coordinate_of proto id) (take n proto.vars) var none (is_own id within ∙ is))
        ∙ ap (find (is_coordinate_of proto id)) (sym (with_one proto n var there))
    each id within false is =
        let other : id ≢ own = λ e. apart own id is e in
        ap (slice_get proto.vars) (get_or-set_other numbers own id n 0 other) ∙ are.each id within
        ∙ sym (find-push_failing (is_coordinate_of proto id) (take n proto.vars) var (is_own id within ∙ is))
        ∙ ap (find (is_coordinate_of proto id)) (sym (with_one proto n var there))
      where
        apart : (a b : ℕ) → nat_eq a b ≡ false → b ≡ a → ⊥
        apart a b differ same =
            let equal : nat_eq a b ≡ true = grind (arith, nat_tests, same) in true≢false (sym equal ∙ differ)

-- the variable is the coordinate variable of no dimension
pub first-none : (proto : Proto) (n : ℕ) (var : ProtoVar) (numbers : List ℕ) (own : ℕ)
    → slice_get proto.vars n ≡ Some var → AreFirstOf proto n numbers → Decides proto var own → length numbers ≤ own
    → AreFirstOf proto (n + 1) numbers
first-none proto n var numbers own there are is_own late =
    first-passed proto n var numbers there are (λ id within.
    inl (is_own id within ∙ apart own id (omega (arith, are.count, late, within))))
  where
    apart : (a b : ℕ) → b < a → nat_eq a b ≡ false
    apart a b less = grind (arith, nat_tests)

-- the dimension has a coordinate variable already
pub first-held : (proto : Proto) (n : ℕ) (var : ProtoVar) (numbers : List ℕ) (own : ℕ)
    → slice_get proto.vars n ≡ Some var → AreFirstOf proto n numbers → Decides proto var own
    → get_or numbers own 0 < length proto.vars → AreFirstOf proto (n + 1) numbers
first-held proto n var numbers own there are is_own held =
    first-passed proto n var numbers there are (λ id within. by_test id within (nat_eq own id) refl)
  where
    by_test : (id : ℕ) → id < length proto.dims → (b : Bool) → nat_eq own id ≡ b
        → (is_coordinate_of proto id var ≡ false) ⊎ (get_or numbers id 0 < length proto.vars)
    by_test id within true is =
        let same : own ≡ id = grind (arith, nat_tests, is) in
        inr (subst (λ k. get_or numbers k 0 < length proto.vars) same held)
    by_test id within false is = inl (is_own id within ∙ is)

pub ruleset firsts = (first-noted, first-none, first-held)

-- among no variables there is none
pub first-start : (proto : Proto) (numbers : List ℕ) → length numbers ≡ length proto.dims
    → ((id : ℕ) → id < length proto.dims → get_or numbers id 0 ≡ length proto.vars) → AreFirstOf proto 0 numbers
first-start proto numbers count past = record {
  count = count;
  each = λ id within. slice_get_past proto.vars (get_or numbers id 0) (omega (arith, past id within));
}

-- all variables
pub first-all : (proto : Proto) (n : ℕ) (numbers : List ℕ) → length proto.vars ≤ n → AreFirstOf proto n numbers
    → HasCoordinates proto numbers
unfolding coordinate_of
first-all proto n numbers past are = record {
  count = are.count;
  each = λ id within. are.each id within
      ∙ ap (find (is_coordinate_of proto id)) (take_all n proto.vars past);
}

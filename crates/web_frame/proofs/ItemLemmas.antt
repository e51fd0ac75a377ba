-- The heads of a stream, one after the other, and what bytes that follow leave as it was.
use Rattle.std.proofs.Common.{◌≡◌, ℕ, zero, suc, ◌+◌, ◌-◌, ◌<◌, ◌≤◌, ◌⊎◌, Bool, true, false, if◌then◌else◌, ltb, leb, List, [], ◌∷◌, ◌++◌, length, take, drop, Option, Some, None, refl, sym, ap, subst, ◌∙◌, arith, append_assoc, append-nil, inl, inr}
use Rattle.std.proofs.lemmas.Bool.{cases_lt, lt-ltb, le-ltb, le-leb, lt-leb, leb-true, leb-false, ltb-true, ltb-false, cases_Bool}
use Rattle.std.proofs.lemmas.List.{drop-append-le, take-append-le, length-drop, length-append, nil_from_length, take_at, length-take-le}
use Rattle.web_frame.specs.Limit.{MAX_HEAD}
use Rattle.web_frame.specs.declared.request.Request.{Request}
use Rattle.web_frame.specs.Cut.{Cut, none_yet, whole, too_long, cut_at, cut_of, head_len}
use Rattle.web_frame.specs.Items.{Item, request, bad_head, head_too_long, item_of, Heads, item_before, heads_by, heads_within, heads_of, items_before, ReadsTo, AreFirst}
use Rattle.web_frame.proofs.CutLemmas.{head_len_fits, head_len-append, head_len_later}

-- where the first head ends, or that none does
cases_len : (o : Option ℕ) → (o ≡ None) ⊎ ((n : ℕ) × (o ≡ Some n))
cases_len None = inl refl
cases_len (Some n) = inr (n, refl)

-- why bytes are cut so
data Why (bytes : List ℕ) : Cut → Type 0 where
  no_end_yet : head_len bytes ≡ None → length bytes < MAX_HEAD → Why bytes none_yet
  ends : (n : ℕ) → head_len bytes ≡ Some n → n ≤ MAX_HEAD → Why bytes (whole n)
  late : (n : ℕ) → head_len bytes ≡ Some n → MAX_HEAD < n → Why bytes too_long
  none_at_all : head_len bytes ≡ None → MAX_HEAD ≤ length bytes → Why bytes too_long

why : (bytes : List ℕ) → (cut : Cut) × (cut_of bytes ≡ cut) × Why bytes cut
unfolding cut_of
why bytes = elim (cases_len (head_len bytes)) [
  | inl none ↦ elim (cases_lt (length bytes) MAX_HEAD) [
    | inl below ↦ (
      none_yet,
      ap (λ o. cut_at o (length bytes)) none
          ∙ ap (λ t. if t then none_yet else too_long) (lt-ltb (length bytes) MAX_HEAD below),
      no_end_yet none below,
    )
    | inr past ↦ (
      too_long,
      ap (λ o. cut_at o (length bytes)) none
          ∙ ap (λ t. if t then none_yet else too_long) (le-ltb (length bytes) MAX_HEAD past),
      none_at_all none past,
    )
  ]
  | inr found ↦ elim (cases_lt MAX_HEAD found.0) [
    | inl past ↦ (
      too_long,
      ap (λ o. cut_at o (length bytes)) found.1
          ∙ ap (λ t. if t then whole found.0 else too_long) (lt-leb found.0 MAX_HEAD past),
      late found.0 found.1 past,
    )
    | inr within ↦ (
      whole found.0,
      ap (λ o. cut_at o (length bytes)) found.1
          ∙ ap (λ t. if t then whole found.0 else too_long) (le-leb found.0 MAX_HEAD within),
      ends found.0 found.1 within,
    )
  ]
]

-- ---- what a cut says

whole_by : (bytes : List ℕ) (cut : Cut) (n : ℕ) → Why bytes cut → cut ≡ whole n → (head_len bytes ≡ Some n)
    × (n ≤ MAX_HEAD)
whole_by bytes none_yet n (no_end_yet none below) is = absurd (cc)
whole_by bytes (whole k) n (ends _ found within) is =
    let same : k ≡ n = cc in
    (found ∙ ap Some same, omega arith)
whole_by bytes too_long n (late k found past) is = absurd (cc)
whole_by bytes too_long n (none_at_all none past) is = absurd (cc)

pub cut_whole : (bytes : List ℕ) (n : ℕ) → cut_of bytes ≡ whole n → (head_len bytes ≡ Some n) × (n ≤ MAX_HEAD)
cut_whole bytes n is =
    let w = why bytes in
    whole_by bytes w.0 n w.2 (sym w.1 ∙ is)

-- a head has a byte, and lies within the bytes
pub cut_whole_fits : (bytes : List ℕ) (n : ℕ) → cut_of bytes ≡ whole n → (0 < n) × (n ≤ length bytes)
cut_whole_fits bytes n is = head_len_fits bytes n (cut_whole bytes n is).0

none_yet_by : (bytes : List ℕ) (cut : Cut) → Why bytes cut → cut ≡ none_yet → length bytes < MAX_HEAD
none_yet_by bytes none_yet (no_end_yet none below) is = below
none_yet_by bytes (whole k) (ends _ found within) is = absurd (cc)
none_yet_by bytes too_long (late k found past) is = absurd (cc)
none_yet_by bytes too_long (none_at_all none past) is = absurd (cc)

-- where no head is whole, there is room for more
pub cut_none_yet : (bytes : List ℕ) → cut_of bytes ≡ none_yet → length bytes < MAX_HEAD
cut_none_yet bytes is =
    let w = why bytes in
    none_yet_by bytes w.0 w.2 (sym w.1 ∙ is)

-- ---- bytes that follow

pub cut_whole-append : (bytes more : List ℕ) (n : ℕ) → cut_of bytes ≡ whole n → cut_of (bytes ++ more) ≡ whole n
unfolding cut_of
cut_whole-append bytes more n is =
    let w = cut_whole bytes n is in
    ap (λ o. cut_at o (length (bytes ++ more))) (head_len-append bytes more n w.0)
    ∙ ap (λ t. if t then whole n else too_long) (le-leb n MAX_HEAD w.1)

-- a head that ends late is too long
ends_late : (bytes : List ℕ) (n : ℕ) → head_len bytes ≡ Some n → MAX_HEAD < n → cut_of bytes ≡ too_long
unfolding cut_of
ends_late bytes n is past =
    ap (λ o. cut_at o (length bytes)) is ∙ ap (λ t. if t then whole n else too_long) (lt-leb n MAX_HEAD past)

no_end : (bytes : List ℕ) → head_len bytes ≡ None → MAX_HEAD ≤ length bytes → cut_of bytes ≡ too_long
unfolding cut_of
no_end bytes is past = ap (λ o. cut_at o (length bytes)) is
    ∙ ap (λ t. if t then none_yet else too_long) (le-ltb (length bytes) MAX_HEAD past)

too_long_by : (bytes more : List ℕ) (cut : Cut) → Why bytes cut → cut ≡ too_long → cut_of (bytes ++ more) ≡ too_long
too_long_by bytes more none_yet (no_end_yet none below) is = absurd (cc)
too_long_by bytes more (whole k) (ends _ found within) is = absurd (cc)
too_long_by bytes more too_long (late k found past) is =
    ends_late (bytes ++ more) k (head_len-append bytes more k found) past
too_long_by bytes more too_long (none_at_all none past) is = elim (cases_len (head_len (bytes ++ more))) [
  | inl absent ↦ no_end (bytes ++ more) absent (omega (arith, length-append bytes more))
  | inr found ↦ ends_late (bytes ++ more) found.0 found.1
      (omega (arith, head_len_later bytes more found.0 none found.1))
]

pub cut_too_long-append : (bytes more : List ℕ) → cut_of bytes ≡ too_long → cut_of (bytes ++ more) ≡ too_long
cut_too_long-append bytes more is =
    let w = why bytes in
    too_long_by bytes more w.0 w.2 (sym w.1 ∙ is)

-- ---- the heads of bytes, one head at a time

by_cut : (bytes : List ℕ) (cut : Cut) (f g : ℕ → Heads) → cut_of bytes ≡ cut
    → ((n : ℕ) → cut_of bytes ≡ whole n → f n ≡ g n) → heads_by cut bytes f ≡ heads_by cut bytes g
by_cut bytes none_yet f g is same = refl
by_cut bytes (whole n) f g is same = ap (item_before (item_of (take n bytes)) (drop n bytes)) (same n is)
by_cut bytes too_long f g is same = refl

heads_within_nothing : (n : ℕ) → heads_within n [] ≡ record { items = []; rest = [] }
unfolding heads_within cut_of head_len
heads_within_nothing zero = refl
heads_within_nothing (suc n) = refl

-- more turns than bytes change nothing
heads_within_enough : (n m : ℕ) (bytes : List ℕ) → length bytes ≤ n → length bytes ≤ m
    → heads_within n bytes ≡ heads_within m bytes
unfolding heads_within
heads_within_enough zero m bytes small fits =
    let none : bytes ≡ [] = nil_from_length bytes (omega arith) in
    ap (heads_within zero) none ∙ heads_within_nothing zero ∙ sym (heads_within_nothing m)
    ∙ ap (heads_within m) (sym none)
heads_within_enough (suc n) zero bytes fits small =
    let none : bytes ≡ [] = nil_from_length bytes (omega arith) in
    ap (heads_within (suc n)) none ∙ heads_within_nothing (suc n) ∙ sym (heads_within_nothing zero)
    ∙ ap (heads_within zero) (sym none)
heads_within_enough (suc n) (suc m) bytes fits small =
    by_cut bytes (cut_of bytes) (λ len. heads_within n (drop len bytes)) (λ len. heads_within m (drop len bytes)) refl
    (λ len is.
    let some = (cut_whole_fits bytes len is).0 in
    heads_within_enough n m (drop len bytes) (omega (arith, length-drop len bytes, some))
    (omega (arith, length-drop len bytes, some)))

-- the heads of bytes are the first, and the heads of what follows it
pub heads_of-step : (bytes : List ℕ) → heads_of bytes ≡ heads_by (cut_of bytes) bytes (λ len. heads_of (drop len bytes))
unfolding heads_of heads_within
heads_of-step bytes =
    heads_within_enough (length bytes) (suc (length bytes)) bytes (omega arith) (omega arith)
    ∙ by_cut bytes (cut_of bytes) (λ len. heads_within (length bytes) (drop len bytes))
    (λ len. heads_of (drop len bytes)) refl
    (λ len is. heads_within_enough (length bytes) (length (drop len bytes)) (drop len bytes)
    (omega (arith, length-drop len bytes)) (omega arith))

-- the heads of some bytes, by where the first one ends
pub heads_of-cut : (bytes : List ℕ) (cut : Cut) → cut_of bytes ≡ cut
    → heads_of bytes ≡ heads_by cut bytes (λ len. heads_of (drop len bytes))
heads_of-cut bytes cut is =
    heads_of-step bytes ∙ ap (λ (k : Cut). heads_by k bytes (λ len. heads_of (drop len bytes))) is

-- ---- the law of cuts

first_item : (item : Item) (rest more : List ℕ) (heads longer : Heads) → AreFirst heads.items longer.items
    → AreFirst (item_before item rest heads).items (item_before item more longer).items
first_item (request r target) rest more heads longer first = ap (λ (l : List Item). request r target ∷ l) first
first_item bad_head rest more heads longer first = refl
first_item head_too_long rest more heads longer first = refl

-- the heads of bytes that begin with a whole head, with more bytes
heads_of-whole_append : (bytes more : List ℕ) (n : ℕ) → cut_of bytes ≡ whole n
    → heads_of (bytes ++ more) ≡ item_before (item_of (take n bytes)) (drop n bytes ++ more)
    (heads_of (drop n bytes ++ more))
heads_of-whole_append bytes more n is =
    let fits = cut_whole_fits bytes n is in
    let front : take n (bytes ++ more) ≡ take n bytes = take-append-le n bytes more fits.1 in
    let back : drop n (bytes ++ more) ≡ drop n bytes ++ more = drop-append-le n bytes more fits.1 in
    heads_of-cut (bytes ++ more) (whole n) (cut_whole-append bytes more n is)
    ∙ ap (λ (l : List ℕ). item_before (item_of l) (drop n (bytes ++ more)) (heads_of (drop n (bytes ++ more)))) front
    ∙ ap (λ (l : List ℕ). item_before (item_of (take n bytes)) l (heads_of l)) back

items_first_by : (n : ℕ) (bytes more : List ℕ) → length bytes ≤ n → (cut : Cut) → cut_of bytes ≡ cut
    → AreFirst (heads_of bytes).items (heads_of (bytes ++ more)).items
items_first_by n bytes more small none_yet is =
    subst (λ (h : Heads). AreFirst h.items (heads_of (bytes ++ more)).items) (sym (heads_of-cut bytes none_yet is)) refl
items_first_by n bytes more small too_long is =
    subst (λ (h : Heads). AreFirst h.items (heads_of (bytes ++ more)).items) (sym (heads_of-cut bytes too_long is))
    (subst (λ (h : Heads). AreFirst (head_too_long ∷ []) h.items)
    (sym (heads_of-cut (bytes ++ more) too_long (cut_too_long-append bytes more is))) refl)
items_first_by zero bytes more small (whole len) is =
    let fits = cut_whole_fits bytes len is in
    absurd (omega (arith, fits.0, fits.1))
items_first_by (suc n) bytes more small (whole len) is =
    let fits = cut_whole_fits bytes len is in
    let others : AreFirst (heads_of (drop len bytes)).items (heads_of (drop len bytes ++ more)).items =
    items_first_by n (drop len bytes) more (omega (arith, length-drop len bytes, fits.0))
    (cut_of (drop len bytes)) refl in
    subst (λ (h : Heads). AreFirst h.items (heads_of (bytes ++ more)).items) (sym (heads_of-cut bytes (whole len) is))
    (subst (λ (h : Heads). AreFirst
    (item_before (item_of (take len bytes)) (drop len bytes) (heads_of (drop len bytes))).items h.items)
    (sym (heads_of-whole_append bytes more len is))
    (first_item (item_of (take len bytes)) (drop len bytes) (drop len bytes ++ more) (heads_of (drop len bytes))
    (heads_of (drop len bytes ++ more)) others))

-- the items of some bytes are the first of those of the bytes and more
pub items_first : (bytes more : List ℕ) → AreFirst (heads_of bytes).items (heads_of (bytes ++ more)).items
items_first bytes more = items_first_by (length bytes) bytes more (omega arith) (cut_of bytes) refl

-- ---- reading item by item

-- bytes are read to nothing first, and all of them are left
pub ReadsTo-start : (bytes : List ℕ) → ReadsTo bytes [] bytes
ReadsTo-start bytes = record { reads = λ more. refl }

-- bytes that follow are left to read
pub ReadsTo-feed : {bytes : List ℕ} {items : List Item} {left : List ℕ} (piece : List ℕ) → ReadsTo bytes items left
    → ReadsTo (bytes ++ piece) items (left ++ piece)
ReadsTo-feed {bytes} {items} {left} piece r = record {
  reads = λ more. ap heads_of (append_assoc bytes piece more) ∙ r.reads (piece ++ more)
      ∙ ap (λ (l : List ℕ). items_before items (heads_of l)) (sym (append_assoc left piece more));
}

-- one head more is read
pub ReadsTo-item : {bytes : List ℕ} {items : List Item} {left : List ℕ} (n : ℕ) (r : Request) (target : List ℕ)
    → ReadsTo bytes items left
    → cut_of left ≡ whole n → item_of (take n left) ≡ request r target
    → ReadsTo bytes (items ++ request r target ∷ []) (drop n left)
ReadsTo-item {bytes} {items} {left} n r target reads is item = record {
  reads = λ more.
      let after : Heads = heads_of (drop n left ++ more) in
      reads.reads more ∙ ap (items_before items)
      (heads_of-whole_append left more n is ∙ ap (λ (i : Item). item_before i (drop n left ++ more) after) item)
      ∙ ap (λ (l : List Item). as_heads l after.rest) (sym (append_assoc items (request r target ∷ []) after.items));
}
  where
    as_heads : List Item → List ℕ → Heads
    as_heads items rest = record { items = items; rest = rest }

-- Texts one after the other, written over the front of a buffer from an offset on.
use Rattle.std.proofs.Common.{◌≡◌, ℕ, ◌+◌, ◌-◌, ◌<◌, ◌≤◌, List, [], ◌++◌, length, get_or, min, take, drop, sym, ap, subst, ◌∙◌, arith}
use Rattle.std.specs.List.{flat_map}
use Rattle.std.proofs.Math.Seq.{drop-cons, take-add}
use Rattle.std.proofs.lemmas.Grind.{flat_map-append}
use Rattle.std.proofs.lemmas.List.{append-nil, drop_all, length-append, length-drop, take_all, take-append-drop}
use Rattle.dap_number.specs.Overlay.{overlay, IsPut}
use Rattle.dap_number.proofs.FrontLemmas.{drop-both, put-behind, put-full, put-long}

-- the first texts
abbrev pub before : {A : Type 0} → (A → List ℕ) → List A → ℕ → List ℕ
before f xs at = flat_map f (take at xs)

-- the texts so far are written, as far as they fit, and `left` bytes are still to be passed over
pub record SoFar {A : Type 0} (f : A → List ℕ) (xs : List A) (from filled at left : ℕ) (old now : List ℕ)
    : Type 0 where
  pub put_is : IsPut (drop from (before f xs at)) old now filled
  pub left_is : left ≡ from - length (before f xs at)

-- some texts more
abbrev pub next_texts : {A : Type 0} → (A → List ℕ) → List A → ℕ → ℕ → List ℕ
next_texts f xs at many = flat_map f (take many (drop at xs))

pub before-more : {A : Type 0} (f : A → List ℕ) (xs : List A) (at many : ℕ)
    → before f xs (at + many) ≡ before f xs at ++ next_texts f xs at many
before-more f xs at many =
    ap (flat_map f) (take-add at many xs) ∙ flat_map-append f (take at xs) (take many (drop at xs))

-- one text
pub next-one : {A : Type 0} (f : A → List ℕ) (xs : List A) (at : ℕ) (x : A) → at < length xs → get_or xs at x ≡ x
    → next_texts f xs at 1 ≡ f x
next-one {A} f xs at x within is =
    ap (λ (l : List A). flat_map f (take 1 l)) (drop-cons xs at x within)
    ∙ append-nil (f (get_or xs at x)) ∙ ap f is

-- all texts are the first ones and those after them
pub before-split : {A : Type 0} (f : A → List ℕ) (xs : List A) (at : ℕ)
    → flat_map f xs ≡ before f xs at ++ flat_map f (drop at xs)
before-split f xs at =
    ap (flat_map f) (sym (take-append-drop at xs)) ∙ flat_map-append f (take at xs) (drop at xs)

-- nothing is left of a text behind its end
pub put-past : (bytes old : List ℕ) (from : ℕ) → length bytes ≤ from → IsPut (drop from bytes) old old 0
unfolding overlay
put-past bytes old from past =
    let none : drop from bytes ≡ [] = drop_all from bytes past in
    subst (λ (l : List ℕ). IsPut l old old 0) (sym none) (record {
      count_is = omega arith;
      new_is = ap (λ (l : List ℕ). l ++ old) (sym (take_all (length old) [] (omega arith)));
    })

-- where the first texts are passed over whole, nothing is written yet
pub so-far-first : {A : Type 0} (f : A → List ℕ) (xs : List A) (from at left : ℕ) (old : List ℕ)
    → length (before f xs at) ≤ from → left ≡ from - length (before f xs at)
    → SoFar f xs from 0 at left old old
so-far-first f xs from at left old past is =
    record { put_is = put-past (before f xs at) old from past; left_is = is }

-- the next texts
pub so-far-more : {A : Type 0} (f : A → List ℕ) (xs : List A)
    (from filled at left many count next_left : ℕ) (old now front back rest : List ℕ)
    → SoFar f xs from filled at left old now → now ≡ front ++ back → length front ≡ filled
    → IsPut (drop left (next_texts f xs at many)) back rest count
    → next_left ≡ left - length (next_texts f xs at many)
    → SoFar f xs from (filled + count) (at + many) next_left old (front ++ rest)
so-far-more f xs from filled at left many count next_left old now front back rest so split long put passed =
    let texts = next_texts f xs at many in
    let more : before f xs at ++ texts ≡ before f xs (at + many) = sym (before-more f xs at many) in
    let so_many : filled ≡ min (length old) (length (before f xs at) - from) =
    so.put_is.count_is ∙ ap (λ (m : ℕ). min (length old) m) (length-drop from (before f xs at)) in
    record {
      put_is = subst (λ (l : List ℕ). IsPut (drop from l) old (front ++ rest) (filled + count)) more
          (put-behind (before f xs at) texts old now front back rest from filled count left so_many
          so.put_is.new_is split long so.left_is put);
      left_is = omega (
        arith,
        passed,
        so.left_is,
        ap length more,
        length-append (before f xs at) texts,
      );
    }

-- the next text
pub so-far-next : {A : Type 0} (f : A → List ℕ) (xs : List A) (x : A)
    (from filled at left count len next_left : ℕ) (old now front back rest : List ℕ)
    → SoFar f xs from filled at left old now → at < length xs → get_or xs at x ≡ x
    → now ≡ front ++ back → length front ≡ filled → len ≡ length (f x)
    → IsPut (drop left (f x)) back rest count → next_left ≡ left - len
    → SoFar f xs from (filled + count) (at + 1) next_left old (front ++ rest)
so-far-next f xs x from filled at left count len next_left old now front back rest so within is split long len_is put
    passed =
    let one = next-one f xs at x within is in
    so-far-more f xs from filled at left 1 count next_left old now front back rest so split long
    (subst (λ (l : List ℕ). IsPut (drop left l) back rest count) (sym one) put)
    (passed ∙ ap (λ (n : ℕ). left - n) (len_is ∙ sym (ap length one)))

-- where the buffer is full
pub so-far-full : {A : Type 0} (f : A → List ℕ) (xs : List A) (from filled at left : ℕ) (old now : List ℕ)
    → SoFar f xs from filled at left old now → length now ≤ filled
    → IsPut (drop from (flat_map f xs)) old now filled
so-far-full f xs from filled at left old now so full =
    subst (λ (l : List ℕ). IsPut l old now filled)
    (sym (ap (drop from) (before-split f xs at)
    ∙ drop-both (before f xs at) (flat_map f (drop at xs)) from))
    (put-full (drop from (before f xs at)) _ old now filled so.put_is
    (subst (λ (m : ℕ). m ≤ filled) (put-long _ old now filled so.put_is) full))

-- where no text is left
pub so-far-done : {A : Type 0} (f : A → List ℕ) (xs : List A) (from filled at left : ℕ) (old now : List ℕ)
    → SoFar f xs from filled at left old now → length xs ≤ at
    → IsPut (drop from (flat_map f xs)) old now filled
so-far-done {A} f xs from filled at left old now so past =
    subst (λ (l : List A). IsPut (drop from (flat_map f l)) old now filled) (take_all at xs past) so.put_is

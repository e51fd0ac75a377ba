-- The requests of an input that is read in several calls.
use Rattle.std.proofs.Common.{◌≡◌, ℕ, zero, suc, ◌+◌, List, [], ◌∷◌, ◌++◌, length, drop, Some, sym, ap, ◌∙◌, arith, append-nil, append_assoc, length-append}
use Rattle.std.specs.Prelude.{slice_get}
use Rattle.std.proofs.lemmas.Option.{none-some}
use Rattle.web_frame.specs.Items.{heads_of, items_before, Heads, Item, ReadsTo}
use Rattle.web_frame.proofs.ItemLemmas.{items_first}
use Rattle.srv_conn.proofs.HeadLemmas.{rest_of}

-- the items that are read next
pub ReadsTo-then : {bytes middle left : List ℕ} {first more : List Item} → ReadsTo bytes first middle
    → ReadsTo middle more left → ReadsTo bytes (first ++ more) left
ReadsTo-then {bytes} {middle} {left} {first} {more} reads then = record {
  reads = λ text.
      let after : Heads = heads_of (left ++ text) in
      reads.reads text ∙ ap (items_before first) (then.reads text)
      ∙ ap (λ (l : List Item). as_heads l after.rest) (sym (append_assoc first more after.items));
}
  where
    as_heads : List Item → List ℕ → Heads
    as_heads items rest = record { items = items; rest = rest }

-- an item after others
later-at : (first others : List Item) (index : ℕ)
    → slice_get (first ++ others) (length first + index) ≡ slice_get others index
later-at [] others index =
    let same : 0 + index ≡ index = omega arith in
    ap (slice_get others) same
later-at (item ∷ first) others index =
    let same : suc (length first) + index ≡ suc (length first + index) = omega arith in
    ap (slice_get (item ∷ first ++ others)) same ∙ later-at first others index

-- an item of a front
pub front-there : {A : Type 0} (front others : List A) (index : ℕ) (item : A) → slice_get front index ≡ Some item
    → slice_get (front ++ others) index ≡ Some item
front-there [] others index item is = absurd (none-some item is)
front-there (first ∷ front) others zero item is = is
front-there (first ∷ front) others (suc index) item is = front-there front others index item is

-- the items of an input: the ones read before, then those of the next bytes and of others
pub record Reads (input : List ℕ) (before : ℕ) (text : List ℕ) : Type 0 where
  pub done : List Item
  pub count : length done ≡ before
  pub later : List ℕ
  pub items_are : (heads_of input).items ≡ done ++ (heads_of (text ++ later)).items

-- the items of an input, some bytes of which were read and some are taken next
pub items-next : (so_far held taken later : List ℕ) (done : List Item) → ReadsTo so_far done held
    → (heads_of (so_far ++ (taken ++ later))).items ≡ done ++ (heads_of ((held ++ taken) ++ later)).items
items-next so_far held taken later done reads =
    ap (λ (h : Heads). h.items) (reads.reads (taken ++ later)
    ∙ ap (λ (l : List ℕ). items_before done (heads_of l)) (sym (append_assoc held taken later)))

-- an item that is read next stands at its index in the input
pub Reads-there : {input text : List ℕ} {before : ℕ} (index : ℕ) (item : Item) → Reads input before text
    → slice_get (heads_of text).items index ≡ Some item
    → slice_get (heads_of input).items (before + index) ≡ Some item
Reads-there {input} {text} {before} index item reads is =
    let longer : List Item = (heads_of (text ++ reads.later)).items in
    let front : List Item = (heads_of text).items in
    ap (slice_get (heads_of input).items) (ap (λ (n : ℕ). n + index) (sym reads.count))
    ∙ ap (λ (l : List Item). slice_get l (length reads.done + index)) reads.items_are
    ∙ later-at reads.done longer index
    ∙ ap (λ (l : List Item). slice_get l index) (rest_of front longer (items_first text reads.later))
    ∙ front-there front (drop (length front) longer) index item is

-- where no other bytes follow, these are all items of the input
pub Reads-all : {input text : List ℕ} {before : ℕ} (reads : Reads input before text) → reads.later ≡ []
    → length (heads_of input).items ≡ before + length (heads_of text).items
Reads-all {input} {text} {before} reads none =
    let whole : text ++ reads.later ≡ text = ap (λ (l : List ℕ). text ++ l) none ∙ append-nil text in
    omega (
      arith,
      reads.count,
      ap length reads.items_are,
      length-append reads.done (heads_of (text ++ reads.later)).items,
      ap (λ (l : List ℕ). length (heads_of l).items) whole,
    )

-- The longest text, text by text.
use Rattle.std.proofs.Common.{◌≡◌, ℕ, suc, ◌+◌, ◌^◌, ◌<◌, ◌≤◌, List, [], ◌∷◌, length, map, max, drop, All, sym, ap, subst, ◌∙◌, arith}
use Rattle.std.proofs.lemmas.List.{drop_all}
use Rattle.dap_model.specs.declared.projection.Sent.{Sent}
use Rattle.dap_model.specs.declared.declaration.Array.{Array}
use Rattle.dap_model.specs.declared.declaration.DapKind.TheVariants.{Text}
use Rattle.dap_model.specs.Box.{box_len, box_of, index_at, HasStride}
use Rattle.dap_model.proofs.BoxLemmas.{length-box_of}
use Rattle.dap_slab.specs.Walking.{HasIndex}
use Rattle.fm_dataset.specs.Values.{HasText, Shown}
use Rattle.dap_xdr.specs.Content.{Content}
use Rattle.dap_xdr.specs.Portion.{Portion}
use Rattle.dap_xdr.proofs.DataLemmas.{few-slabs}
use Rattle.dap_xdr.proofs.DatasetLemmas.{has_text}
use Rattle.dap_xdr.proofs.ExtentLemmas.{count-most, have_strides}
use Rattle.dap_xdr.proofs.PickedLemmas.{drop-element, has-text}
use Rattle.dap_xdr.proofs.StretchLemmas.{extent-count}
use Rattle.nc_writer.specs.Facts.{IsSentPart}
use Rattle.nc_writer.specs.Variables.{longest, texts_sent}

-- the longest of the texts from an element on
unfoldable pub longest_from : Content → Sent → ℕ → ℕ
longest_from content sent element =
    longest (map (content.text sent.decl sent.part) (drop element (box_of sent.slabs)))

-- the longest text so far, and those that are left
abbrev pub LongestSoFar : Content → Sent → ℕ → ℕ → Type 0
LongestSoFar content sent element most =
    max most (longest_from content sent element) ≡ longest (texts_sent content sent)

one-more : (content : Content) (sent : Sent) (element : ℕ) → element < box_len sent.slabs
    → longest_from content sent element
    ≡ max (length (content.text sent.decl sent.part (index_at sent.slabs element)))
    (longest_from content sent (element + 1))
unfolding longest_from longest
one-more content sent element within =
    let next : suc element ≡ element + 1 = omega arith in
    ap (λ (l : List (List ℕ)). longest (map (content.text sent.decl sent.part) l))
    (drop-element sent.slabs element within
    ∙ ap (λ (n : ℕ). index_at sent.slabs element ∷ drop n (box_of sent.slabs)) next)

-- each field of texts has a byte
pub longest-least : (texts : List (List ℕ)) → 1 ≤ longest texts
unfolding longest
longest-least [] = omega arith
longest-least (text ∷ texts) = let rest = longest-least texts in omega (arith, rest)

pub longest-first : (content : Content) (sent : Sent) → LongestSoFar content sent 0 1
unfolding longest_from
longest-first content sent = let some = longest-least (texts_sent content sent) in omega (arith, some)

pub longest-next : (content : Content) (sent : Sent) (element most len next : ℕ) → element < box_len sent.slabs
    → len ≡ length (content.text sent.decl sent.part (index_at sent.slabs element)) → next ≡ max most len
    → LongestSoFar content sent element most → LongestSoFar content sent (element + 1) next
longest-next content sent element most len next within is longer so =
    let more = one-more content sent element within in omega (arith, more, is, longer, so)

pub longest-done : (content : Content) (sent : Sent) (element most : ℕ) → 1 ≤ most → box_len sent.slabs ≤ element
    → LongestSoFar content sent element most → most ≡ longest (texts_sent content sent)
unfolding longest_from longest
longest-done content sent element most some past so =
    let none : longest_from content sent element ≡ 1 =
    ap (λ (l : List (List ℕ)). longest (map (content.text sent.decl sent.part) l))
    (drop_all element (box_of sent.slabs) (subst (λ (n : ℕ). n ≤ element) (sym (length-box_of sent.slabs)) past)) in
    omega (arith, none, some, so)

-- a part and its array
abbrev part_of : Shown → Sent → Array → Portion
part_of shown sent array = record { shown = shown; sent = sent; array = array }

-- the text of an element is there
pub text-at : (shown : Shown) (sent : Sent) (array : Array) (element : ℕ) (index : List ℕ) → IsSentPart shown sent array
    → array.kind ≡ Text → element < box_len sent.slabs → index ≡ index_at sent.slabs element
    → HasText shown sent.decl sent.part index
text-at shown sent array element index part text within is =
    has_text shown sent.decl sent.part index
    (has-text (part_of shown sent array) element index part.portion text within is)

-- the slabs of a part have strides, and pick few index lists
pub strides-of : (shown : Shown) (sent : Sent) (array : Array) → IsSentPart shown sent array → All HasStride sent.slabs
strides-of shown sent array part = have_strides array.dims sent.slabs part.portion.fits

pub few-picked : (shown : Shown) (sent : Sent) (array : Array) → IsSentPart shown sent array
    → box_len sent.slabs < 2 ^ 64
few-picked shown sent array part =
    let fits = part.portion.fits in
    omega (
      arith,
      extent-count array.dims sent.slabs fits,
      count-most array.dims sent.slabs fits,
      part.portion.small.few,
    )

pub few-ranks : (shown : Shown) (sent : Sent) (array : Array) → IsSentPart shown sent array
    → length sent.slabs ≤ 1025
few-ranks shown sent array part = few-slabs (part_of shown sent array) part.portion

pub indices-of : (shown : Shown) (sent : Sent) (array : Array) → IsSentPart shown sent array → All HasIndex sent.slabs
indices-of shown sent array part = part.some

pub ruleset parts = (strides-of, indices-of, few-picked, few-ranks)

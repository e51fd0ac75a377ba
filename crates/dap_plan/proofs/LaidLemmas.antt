-- Where the data of each part lies.
use Rattle.std.proofs.Common.{◌≡◌, ℕ, ◌+◌, ◌^◌, ◌<◌, ◌≤◌, List, [], ◌∷◌, ◌++◌, length, get_or, slice_get, Option, Some, inl, inr, sym, ap, subst, ◌∙◌, arith}
use Rattle.std.specs.List.Sorted.{IsNonDecreasingBy}
use Rattle.std.proofs.Math.Path.{subst₂}
use Rattle.std.proofs.lemmas.Bool.{cases_lt, leb-false, leb-true}
use Rattle.std.proofs.lemmas.List.{get_or_append_left, get_or_push, length_push}
use Rattle.std.proofs.lemmas.List.Elements.{All-get_or, All-push}
use Rattle.std.proofs.lemmas.Option.{get_or_from_slice_get, same_Some, slice_get_within, slice_get-get_or}
use Rattle.dap_model.specs.declared.projection.Sent.{Sent}
use Rattle.fm_dataset.specs.Values.{Shown}
use Rattle.dap_xdr.specs.Content.{data_of, Content}
use Rattle.dap_xdr.specs.Datasets.{content_of}
use Rattle.dap_xdr.specs.Marks.{AreMarksOf}
use Rattle.dap_plan.specs.declared.laid.Laid.{Laid}
use Rattle.dap_plan.specs.declared.laid.Position.{Position}
use Rattle.dap_plan.specs.declared.laid.TextMarks.{TextMarks}
use Rattle.dap_plan.specs.Laid.{AreBegins, AreBegun, AreLaid, AreLaidOf, AreMarked, IsBegin, IsKept, IsLastBegun, IsMarkedAt, StandsAt}
use Rattle.dap_plan.proofs.DataLemmas.{before-rise, before-small, data-none, part-past, data_before, DataSoFar, EndsBehind}

-- where a part begins whose begin fits in 64 bits
begin-at : (shown : Shown) (sent : List Sent) (begins : List ℕ) (index begin : ℕ) → AreBegins shown sent begins
    → length (data_of (content_of shown) sent) < 2 ^ 64 → slice_get begins index ≡ Some begin
    → begin ≡ length (data_before (content_of shown) sent index)
begin-at shown sent begins index begin are small at =
    are index begin at (before-small (content_of shown) sent index (2 ^ 64) small)

-- what is before an offset, by the position of the offset
pub stands-from : (shown : Shown) (sent : List Sent) (begins : List ℕ) (from : ℕ) (at : Position)
    → AreBegins shown sent begins → length (data_of (content_of shown) sent) < 2 ^ 64 → StandsAt begins from at
    → at.left + length (data_before (content_of shown) sent at.index) ≡ from
stands-from shown sent begins from at are small stands = elim stands [
  | inl first ↦
      let none : length (data_before (content_of shown) sent at.index) ≡ 0 =
      ap (λ (n : ℕ). length (data_before (content_of shown) sent n)) first.0 ∙ data-none (content_of shown) sent in
      omega (arith, none, first.1)
  | inr later ↦
      omega (arith, later.2, begin-at shown sent begins at.index later.0 are small later.1)
]

-- before the part in which an offset lies nothing is written
pub data-from : (content : Content) (sent : List Sent) (from index left : ℕ) (old : List ℕ)
    → left + length (data_before content sent index) ≡ from → DataSoFar content sent from 0 index left old old
data-from content sent from index left old is = record {
  put_is = part-past (data_before content sent index) old from (omega (arith, is));
  left_is = λ within. omega (arith, is);
}

-- the part in which an offset lies ends behind it, or is the last
pub ends-behind : (shown : Shown) (sent : List Sent) (begins : List ℕ) (from index : ℕ)
    → AreBegins shown sent begins → length begins ≡ length sent
    → length (data_of (content_of shown) sent) < 2 ^ 64 → IsLastBegun begins from index
    → EndsBehind (content_of shown) sent from index
ends-behind shown sent begins from index are count small last = λ within.
    (let begin = get_or begins (index + 1) 0 in
    let at = slice_get-get_or begins (index + 1) 0 (omega (arith, within, count)) in
    omega (
      arith,
      last (index + 1) begin (omega arith) at,
      begin-at shown sent begins (index + 1) begin are small at,
    ))

-- no part begins
pub begins-none : (shown : Shown) (sent : List Sent) → AreBegins shown sent []
begins-none shown sent = λ index begin at. absurd (omega (arith, slice_get_within [] index begin at))

-- one more part begins
pub begins-more : (shown : Shown) (sent : List Sent) (begins : List ℕ) (count begin : ℕ)
    → AreBegins shown sent begins → length begins ≡ count → IsBegin shown sent count begin
    → AreBegins shown sent (begins ++ begin ∷ [])
begins-more shown sent begins count begin some many is = λ index found at.
    (let long : length (begins ++ begin ∷ []) ≡ length begins + 1 = length_push begins begin in
    let below = slice_get_within (begins ++ begin ∷ []) index found at in
    elim (cases_lt index (length begins)) [
      | inl before ↦
          some index found
          (slice_get-get_or begins index found before
          ∙ ap Some (sym (get_or_append_left begins (begin ∷ []) found index before)
          ∙ get_or_from_slice_get (begins ++ begin ∷ []) index found found at))
      | inr past ↦
          let end : length begins ≡ index = omega (arith, past, below, long) in
          let begin_is : begin ≡ found =
          sym (get_or_push begins begin found index end)
          ∙ get_or_from_slice_get (begins ++ begin ∷ []) index found found at in
          subst₂ (IsBegin shown sent) (sym many ∙ end) begin_is is
    ])

-- the marks of one more part are kept
pub marks-kept : (shown : Shown) (sent : List Sent) (old new : List TextMarks) (index : ℕ) (offsets : List ℕ)
    (part : Sent) → AreMarked shown sent old → IsKept old index offsets new → slice_get sent index ≡ Some part
    → AreMarksOf shown part offsets → AreMarked shown sent new
marks-kept shown sent old new index offsets part marked kept at are = elim kept [
  | inl same ↦ subst (AreMarked shown sent) (sym same) marked
  | inr more ↦
      let one : TextMarks = record { index = index; offsets = offsets } in
      subst (AreMarked shown sent) (sym more)
      (All-push (IsMarkedAt shown sent) old one marked (λ other found.
      subst (λ (p : Sent). AreMarksOf shown p offsets) (same_Some part other (sym at ∙ found)) are))
]

-- the marks of the part at an index
pub marks-there : (shown : Shown) (sent : List Sent) (marks : List TextMarks) (at index : ℕ) (one : TextMarks)
    (part : Sent) → AreMarked shown sent marks → at < length marks → one ≡ get_or marks at one
    → one.index ≡ index → slice_get sent index ≡ Some part → AreMarksOf shown part one.offsets
marks-there shown sent marks at index one part marked within is here there =
    let its : IsMarkedAt shown sent one =
    subst (IsMarkedAt shown sent) (sym is) (All-get_or (IsMarkedAt shown sent) marks at one within marked) in
    its part (ap (slice_get sent) here ∙ there)

-- the parts of a plan with data are laid
pub laid-data : (source : Option Shown) (sent items : List Sent) (laid : Laid) (shown : Shown)
    → AreLaidOf source sent laid → source ≡ Some shown → items ≡ sent → AreLaid shown items laid
laid-data source sent items laid shown are some same =
    subst (λ (l : List Sent). AreLaid shown l laid) (sym same)
    (subst (λ (o : Option Shown). AreLaidOf o sent laid) some are)

-- parts begin in their order
pub begins-rise : (shown : Shown) (sent : List Sent) (begins : List ℕ) → AreBegins shown sent begins
    → length (data_of (content_of shown) sent) < 2 ^ 64 → IsNonDecreasingBy (λ (begin : ℕ). begin) begins
begins-rise shown sent begins are small = λ i j d le lt.
    (let is : (index : ℕ) → index < length begins
    → get_or begins index d ≡ length (data_before (content_of shown) sent index) =
    λ index within. begin-at shown sent begins index (get_or begins index d) are small
    (slice_get-get_or begins index d within) in
    omega (arith, is i (omega (arith, le, lt)), is j lt, before-rise (content_of shown) sent i j le))

-- a part among those that begin at or before an offset
pub begun-part : (begins : List ℕ) (from begun index : ℕ) → AreBegun begins from begun → index < begun
    → get_or begins index 0 ≤ from
begun-part begins from begun index point within =
    leb-true (get_or begins index 0) from (point.0 index 0 (omega arith) within)

-- the parts behind the last of these
pub last-begun : (begins : List ℕ) (from begun index : ℕ) → AreBegun begins from begun → begun ≤ index + 1
    → IsLastBegun begins from index
last-begun begins from begun index point past = λ later begin behind at. omega (
  arith,
  get_or_from_slice_get begins later begin begin at,
  leb-false (get_or begins later begin) from
      (point.1 later begin (omega (arith, past, behind)) (slice_get_within begins later begin at)),
)

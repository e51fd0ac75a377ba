-- The data of parts, one after the other, written over the front of a buffer.
use Rattle.std.proofs.Common.{◌≡◌, ℕ, suc, ◌+◌, ◌-◌, ◌<◌, ◌≤◌, List, [], ◌∷◌, ◌++◌, length, get_or, min, take, drop, inl, inr, refl, sym, ap, subst, ◌∙◌, arith}
use Rattle.std.specs.List.{flat_map}
use Rattle.std.proofs.Math.Seq.{drop-append-add, take-suc}
use Rattle.std.proofs.lemmas.Bool.{cases_lt}
use Rattle.std.proofs.lemmas.Grind.{flat_map-append}
use Rattle.std.proofs.lemmas.List.{append-nil, append_assoc, drop_all, drop-append-le, length-append, length-drop, length-take, take_all, take-append-drop, take-append-le, take-take}
use Rattle.dap_model.specs.declared.projection.Sent.{Sent}
use Rattle.dap_xdr.specs.Content.{data_of, part_data, Content}
use Rattle.dap_number.specs.Overlay.{overlay, IsPut}
use Rattle.dap_number.proofs.FrontLemmas.{drop-both, put-behind, put-full, put-long}

-- the data of the parts before an index
abbrev pub data_before : Content → List Sent → ℕ → List ℕ
data_before content sent index = data_of content (take index sent)

-- the data so far is written, as far as it fits, and `left` bytes of the next part are to be passed over
pub record DataSoFar (content : Content) (sent : List Sent) (from filled index left : ℕ) (old now : List ℕ)
    : Type 0 where
  pub put_is : IsPut (drop from (data_before content sent index)) old now filled
  pub left_is : index < length sent → left ≡ from - length (data_before content sent index)

-- the part at an index ends behind an offset, unless it is the last
abbrev pub EndsBehind : Content → List Sent → ℕ → ℕ → Type 0
EndsBehind content sent from index =
    index + 1 < length sent → from < length (data_before content sent (index + 1))

-- one part more
pub data-more : (content : Content) (sent : List Sent) (index : ℕ) (part : Sent) → index < length sent
    → part ≡ get_or sent index part
    → data_before content sent (index + 1) ≡ data_before content sent index ++ part_data content part
unfolding data_of
data-more content sent index part within is =
    let next : index + 1 ≡ suc index = omega arith in
    ap (λ (n : ℕ). flat_map (part_data content) (take n sent)) next
    ∙ ap (flat_map (part_data content)) (take-suc sent index part within)
    ∙ flat_map-append (part_data content) (take index sent) (get_or sent index part ∷ [])
    ∙ ap (λ (l : List ℕ). data_before content sent index ++ l)
    (append-nil (part_data content (get_or sent index part)) ∙ ap (part_data content) (sym is))

-- all data is that of the parts before an index and of those from there on
pub data-split : (content : Content) (sent : List Sent) (index : ℕ)
    → data_of content sent ≡ data_before content sent index ++ data_of content (drop index sent)
unfolding data_of
data-split content sent index =
    ap (flat_map (part_data content)) (sym (take-append-drop index sent))
    ∙ flat_map-append (part_data content) (take index sent) (drop index sent)

-- the data of all parts
pub data-whole : (content : Content) (sent : List Sent) (index : ℕ) → length sent ≤ index
    → data_before content sent index ≡ data_of content sent
data-whole content sent index past = ap (data_of content) (take_all index sent past)

-- the data before an index is no longer than all data
pub before-small : (content : Content) (sent : List Sent) (index bound : ℕ) → length (data_of content sent) < bound
    → length (data_before content sent index) < bound
before-small content sent index bound small = omega (
  arith,
  small,
  ap length (data-split content sent index),
  length-append (data_before content sent index) (data_of content (drop index sent)),
)

-- before a later part there is no less data
pub before-rise : (content : Content) (sent : List Sent) (i j : ℕ) → i ≤ j
    → length (data_before content sent i) ≤ length (data_before content sent j)
before-rise content sent i j le = omega (
  arith,
  ap length (data-split content (take j sent) i),
  length-append (data_before content (take j sent) i) (data_of content (drop i (take j sent))),
  ap (λ (l : List Sent). length (data_of content l)) (take-take i j sent le),
)

-- the next part ends behind the offset, too
pub ends-next : (content : Content) (sent : List Sent) (from index : ℕ) → EndsBehind content sent from index
    → EndsBehind content sent from (index + 1)
ends-next content sent from index ends = λ within. omega (
  arith,
  ends (omega (arith, within)),
  before-rise content sent (index + 1) (index + 1 + 1) (omega arith),
)

-- the data of a part is no longer than that of all
pub part-small : (content : Content) (sent : List Sent) (index bound : ℕ) (part : Sent) → index < length sent
    → part ≡ get_or sent index part → length (data_of content sent) < bound
    → length (part_data content part) < bound
part-small content sent index bound part within is small =
    omega (
      arith,
      small,
      ap length (data-split content sent (index + 1)),
      length-append (data_before content sent (index + 1)) (data_of content (drop (index + 1) sent)),
      ap length (data-more content sent index part within is),
      length-append (data_before content sent index) (part_data content part),
    )

-- nothing is left of the data of a part behind its end
pub part-past : (bytes old : List ℕ) (from : ℕ) → length bytes ≤ from → IsPut (drop from bytes) old old 0
unfolding overlay
part-past bytes old from past =
    let none : drop from bytes ≡ [] = drop_all from bytes past in
    subst (λ (l : List ℕ). IsPut l old old 0) (sym none) (record {
      count_is = omega arith;
      new_is = ap (λ (l : List ℕ). l ++ old) (sym (take_all (length old) [] (omega arith)));
    })

-- some bytes are written from an offset on
pub piece-put : (bytes old new : List ℕ) (from count : ℕ) → count ≡ min (length old) (length bytes - from)
    → new ≡ overlay (drop from bytes) old → IsPut (drop from bytes) old new count
piece-put bytes old new from count many written = record {
  count_is = many ∙ ap (λ (m : ℕ). min (length old) m) (sym (length-drop from bytes));
  new_is = written;
}

-- the next part, of which nothing is passed over
pub data-next : (content : Content) (sent : List Sent) (from filled index left count : ℕ) (part : Sent)
    (old now front back rest : List ℕ)
    → DataSoFar content sent from filled index left old now → EndsBehind content sent from index → index < length sent
    → part ≡ get_or sent index part → now ≡ front ++ back → length front ≡ filled
    → IsPut (drop left (part_data content part)) back rest count
    → DataSoFar content sent from (filled + count) (index + 1) 0 old (front ++ rest)
data-next content sent from filled index left count part old now front back rest so ends within is split long put =
    let before = data_before content sent index in
    let more : before ++ part_data content part ≡ data_before content sent (index + 1) =
    sym (data-more content sent index part within is) in
    let many : filled ≡ min (length old) (length before - from) =
    so.put_is.count_is ∙ ap (λ (m : ℕ). min (length old) m) (length-drop from before) in
    record {
      put_is = subst (λ (l : List ℕ). IsPut (drop from l) old (front ++ rest) (filled + count)) more
          (put-behind before (part_data content part) old now front back rest from filled count left many
          so.put_is.new_is split long (so.left_is within) put);
      left_is = λ next. omega (arith, ends next);
    }

-- where the buffer is full
pub data-full : (content : Content) (sent : List Sent) (from filled index left : ℕ) (old now : List ℕ)
    → DataSoFar content sent from filled index left old now → length now ≤ filled
    → IsPut (drop from (data_of content sent)) old now filled
data-full content sent from filled index left old now so full =
    subst (λ (l : List ℕ). IsPut l old now filled)
    (sym (ap (drop from) (data-split content sent index)
    ∙ drop-both (data_before content sent index) (data_of content (drop index sent)) from))
    (put-full (drop from (data_before content sent index)) _ old now filled so.put_is
    (subst (λ (m : ℕ). m ≤ filled) (put-long _ old now filled so.put_is) full))

-- where no part is left
pub data-done : (content : Content) (sent : List Sent) (from filled index left : ℕ) (old now : List ℕ)
    → DataSoFar content sent from filled index left old now → length sent ≤ index
    → IsPut (drop from (data_of content sent)) old now filled
data-done content sent from filled index left old now so past =
    subst (λ (l : List ℕ). IsPut (drop from l) old now filled) (data-whole content sent index past) so.put_is

-- before the first part there is no data
pub data-none : (content : Content) (sent : List Sent) → length (data_before content sent 0) ≡ 0
unfolding data_of
data-none content sent = refl

-- the data with one part more
pub data-longer : (content : Content) (sent : List Sent) (index len : ℕ) (part : Sent) → index < length sent
    → part ≡ get_or sent index part → len ≡ length (part_data content part)
    → length (data_before content sent (index + 1)) ≡ length (data_before content sent index) + len
data-longer content sent index len part within is len_is = omega (
  arith,
  len_is,
  ap length (data-more content sent index part within is),
  length-append (data_before content sent index) (part_data content part),
)

-- what is left of the data within a part begins with what is left of the part
pub data-lent : (content : Content) (sent : List Sent) (index from left : ℕ) (part : Sent) (lent : List ℕ)
    → index < length sent → part ≡ get_or sent index part
    → left + length (data_before content sent index) ≡ from → left ≤ length (part_data content part)
    → take (length lent) (drop left (part_data content part)) ≡ lent
    → take (length lent) (drop from (data_of content sent)) ≡ lent
data-lent content sent index from left part lent within is passed inside front =
    let before = data_before content sent index in
    let bytes = part_data content part in
    let after = data_of content (drop (index + 1) sent) in
    let all : data_of content sent ≡ before ++ (bytes ++ after) =
    data-split content sent (index + 1) ∙ ap (λ (l : List ℕ). l ++ after) (data-more content sent index part within is)
    ∙ append_assoc before bytes after in
    let reached : drop from (data_of content sent) ≡ drop left bytes ++ after =
    ap (drop from) all ∙ ap (λ (n : ℕ). drop n (before ++ (bytes ++ after))) (omega (arith, passed))
    ∙ drop-append-add before (bytes ++ after) left ∙ drop-append-le left bytes after inside in
    let short : length lent ≤ length (drop left bytes) =
    omega (arith, ap length front, length-take (length lent) (drop left bytes)) in
    ap (take (length lent)) reached ∙ take-append-le (length lent) (drop left bytes) after short ∙ front

-- nothing is lent of a part behind its end
lent-past : (bytes rest lent : List ℕ) (left : ℕ) → length bytes ≤ left → take (length lent) (drop left bytes) ≡ lent
    → take (length lent) rest ≡ lent
lent-past bytes rest lent left past front =
    let none : length (drop left bytes) ≡ 0 = ap length (drop_all left bytes past) in
    let short : length lent ≡ 0 = omega (arith, ap length front, length-take (length lent) (drop left bytes), none) in
    let empty : lent ≡ [] = sym (take_all 0 lent (omega (arith, short))) in
    rw empty refl

-- what is lent of a part is a front of the data from the offset on
pub data-lent-any : (content : Content) (sent : List Sent) (index from left : ℕ) (part : Sent) (lent : List ℕ)
    → index < length sent → part ≡ get_or sent index part → left + length (data_before content sent index) ≡ from
    → take (length lent) (drop left (part_data content part)) ≡ lent
    → take (length lent) (drop from (data_of content sent)) ≡ lent
data-lent-any content sent index from left part lent within is passed front =
    elim (cases_lt left (length (part_data content part))) [
      | inl inside ↦ data-lent content sent index from left part lent within is passed (omega (arith, inside)) front
      | inr past ↦
          lent-past (part_data content part) (drop from (data_of content sent)) lent left (omega (arith, past)) front
    ]

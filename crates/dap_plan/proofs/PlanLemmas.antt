-- The bytes of a plan: what stands ready, and the data behind it.
use Rattle.std.proofs.Common.{◌≡◌, ℕ, ◌+◌, ◌-◌, ◌^◌, ◌<◌, ◌≤◌, List, ◌++◌, length, min, take, drop, All, Some, None, refl, sym, ap, ap₂, subst, ◌∙◌, arith}
use Rattle.std.proofs.Math.Seq.{drop-append-add}
use Rattle.std.proofs.lemmas.List.{append-nil, drop_all, drop-append-le, length-append, length-drop, take_all, take-append-le}
use Rattle.dap_model.specs.declared.projection.Sent.{Sent}
use Rattle.fm_dataset.specs.Values.{Shown}
use Rattle.dap_xdr.specs.Content.{data_of}
use Rattle.dap_xdr.specs.Datasets.{content_of}
use Rattle.dap_number.specs.Overlay.{overlay, IsPut}
use Rattle.dap_number.proofs.FrontLemmas.{put-behind}
use Rattle.dap_plan.specs.Parts.{bytes_of, data_behind, ready, IsPlan, IsSentOf, Parts}

-- a plan without data
pub ready-plan : (front : List ℕ) (len : ℕ) → len ≡ length front → IsPlan (ready front) len
unfolding bytes_of data_behind
ready-plan front len is = record {
  sent_fits = refl;
  len_is = is ∙ ap length (sym (append-nil front));
  few = omega arith;
}

-- a plan with data
pub data-plan : (front : List ℕ) (shown : Shown) (sent : List Sent) (len : ℕ) → All (IsSentOf shown) sent
    → len ≡ length (bytes_of (record { front = front; source = Some shown; sent = sent })) → len < 2 ^ 63
    → IsPlan (record { front = front; source = Some shown; sent = sent }) len
unfolding bytes_of data_behind
data-plan front shown sent len fits is few = record {
  sent_fits = fits;
  len_is = is;
  few = omega (arith, is, few, length-append front (data_of (content_of shown) sent));
}

-- the bytes where there is no data
pub bytes-ready : (parts : Parts) → parts.source ≡ None → bytes_of parts ≡ parts.front
unfolding bytes_of data_behind
bytes-ready parts none = ap (λ source. parts.front ++ data_behind source parts.sent) none ∙ append-nil parts.front

-- the bytes where there is
pub bytes-data : (parts : Parts) (shown : Shown) → parts.source ≡ Some shown
    → bytes_of parts ≡ parts.front ++ data_of (content_of shown) parts.sent
unfolding bytes_of data_behind
bytes-data parts shown some = ap (λ source. parts.front ++ data_behind source parts.sent) some

-- the data is short
pub data-small : (parts : Parts) (shown : Shown) (sent : List Sent) (len : ℕ) → IsPlan parts len
    → parts.source ≡ Some shown → sent ≡ parts.sent → length (data_of (content_of shown) sent) < 2 ^ 64
unfolding data_behind
data-small parts shown sent len plan some is = omega (
  arith,
  plan.few,
  ap (λ s. length (data_of (content_of shown) s)) is,
  ap (λ source. length (data_behind source parts.sent)) some,
)

-- how many of the bytes of a plan are data
pub data-count : (parts : Parts) (len : ℕ) → IsPlan parts len
    → (length parts.front ≤ len) × (len - length parts.front ≡ length (data_behind parts.source parts.sent))
unfolding bytes_of
data-count parts len plan =
    let all = length-append parts.front (data_behind parts.source parts.sent) in
    (omega (arith, plan.len_is, all), omega (arith, plan.len_is, all))

-- a front of what is left of some bytes is one of what is left of them with others behind
pub lent-ready : (front back lent : List ℕ) (from : ℕ) → from ≤ length front → lent ≡ drop from front
    → take (length lent) (drop from (front ++ back)) ≡ lent
lent-ready front back lent from within is =
    ap (take (length lent)) (drop-append-le from front back within)
    ∙ take-append-le (length lent) (drop from front) back (omega (arith, ap length is))
    ∙ take_all (length lent) (drop from front) (omega (arith, ap length is)) ∙ sym is

-- the bytes that stand ready are written, and nothing stands behind them
pub piece-ready : (parts : Parts) (front old new : List ℕ) (from count : ℕ) → parts.source ≡ None
    → front ≡ parts.front → count ≡ min (length old) (length front - from) → new ≡ overlay (drop from front) old
    → IsPut (drop from (bytes_of parts)) old new count
piece-ready parts front old new from count none is many written =
    subst (λ (l : List ℕ). IsPut (drop from l) old new count) (is ∙ sym (bytes-ready parts none)) (record {
      count_is = many ∙ ap (min (length old)) (sym (length-drop from front));
      new_is = written;
    })

-- the bytes that stand ready are written, and the data behind them
pub piece-data : (parts : Parts) (shown : Shown) (sent : List Sent) (begin old now front back rest : List ℕ)
    (from first second left : ℕ) → parts.source ≡ Some shown → begin ≡ parts.front → sent ≡ parts.sent
    → first ≡ min (length old) (length begin - from) → now ≡ overlay (drop from begin) old
    → now ≡ front ++ back → length front ≡ first → left ≡ from - length begin
    → IsPut (drop left (data_of (content_of shown) sent)) back rest second
    → IsPut (drop from (bytes_of parts)) old (front ++ rest) (first + second)
piece-data parts shown sent begin old now front back rest from first second left some is same many written split long
    passed put =
    let behind = data_of (content_of shown) sent in
    let all : begin ++ behind ≡ bytes_of parts =
    ap (λ l. l ++ behind) is ∙ ap (λ s. parts.front ++ data_of (content_of shown) s) same
    ∙ sym (bytes-data parts shown some) in
    subst (λ (l : List ℕ). IsPut (drop from l) old (front ++ rest) (first + second)) all
    (put-behind begin behind old now front back rest from first second left many written split long passed put)

-- what is lent of the data
pub lent-data : (parts : Parts) (shown : Shown) (sent : List Sent) (lent : List ℕ) (begin from : ℕ)
    → parts.source ≡ Some shown → begin ≡ length parts.front → sent ≡ parts.sent → begin ≤ from
    → take (length lent) (drop (from - begin) (data_of (content_of shown) sent)) ≡ lent
    → take (length lent) (drop from (bytes_of parts)) ≡ lent
lent-data parts shown sent lent begin from some is same past front =
    let behind = data_of (content_of shown) parts.sent in
    ap (take (length lent)) (
    ap (drop from) (bytes-data parts shown some)
    ∙ ap (λ n. drop n (parts.front ++ behind)) (omega (arith, is, past))
    ∙ drop-append-add parts.front behind (from - begin)
    ∙ ap (λ s. drop (from - begin) (data_of (content_of shown) s)) (sym same)
    ) ∙ front

-- what is lent of the bytes that stand ready
pub lent-front : (parts : Parts) (front lent : List ℕ) (from : ℕ) → front ≡ parts.front → from ≤ length front
    → lent ≡ drop from front → take (length lent) (drop from (bytes_of parts)) ≡ lent
unfolding bytes_of
lent-front parts front lent from is within lent_is =
    ap (λ l. take (length lent) (drop from (l ++ data_behind parts.source parts.sent))) (sym is)
    ∙ lent-ready front (data_behind parts.source parts.sent) lent from within lent_is

-- the same bytes behind others
pub behind-plan : (parts : Parts) (len stands left : ℕ) (first new : List ℕ) → IsPlan parts len → stands ≡ length new
    → left ≡ len - length parts.front → new ≡ first ++ parts.front
    → IsPlan (record { front = new; source = parts.source; sent = parts.sent }) (stands + left)
unfolding bytes_of
behind-plan parts len stands left first new plan is rest joined = record {
  sent_fits = plan.sent_fits;
  len_is = omega (
    arith,
    is,
    rest,
    (data-count parts len plan).1,
    length-append new (data_behind parts.source parts.sent),
  );
  few = plan.few;
}

-- bytes behind a text stand before it where they are rotated by its length
pub rotated : (head text : List ℕ) (len : ℕ) → len ≡ length text
    → drop len (text ++ head) ++ take len (text ++ head) ≡ head ++ text
rotated head text len is =
    ap₂ (λ (a b : List ℕ). a ++ b)
    (drop-append-le len text head (omega (arith, is))
    ∙ ap (λ (l : List ℕ). l ++ head) (drop_all len text (omega (arith, is))))
    (take-append-le len text head (omega (arith, is)) ∙ take_all len text (omega (arith, is)))

-- Bytes that are sent in pieces.
use Rattle.std.proofs.Common.{◌≡◌, ◌≤◌, ℕ, ◌+◌, List, ◌++◌, length, take, drop, Option, sym, ap, ◌∙◌, arith}
use Rattle.std.proofs.Math.Seq.{take-append_seam}
use Rattle.std.proofs.lemmas.List.{length-drop, length-take, take_all, take-take}
use Rattle.dev_traits.specs.Link.{Wire, after_put}
use Rattle.dev_traits.proofs.LinkLemmas.{after_put_more}
use Rattle.dap_number.specs.Overlay.{IsPut}
use Rattle.dap_number.proofs.FrontLemmas.{overlay-front}

-- the front of a buffer that bytes were written over
pub piece-is : (bytes old new piece : List ℕ) (count : ℕ) → IsPut bytes old new count → piece ≡ take count new
    → piece ≡ take count bytes
piece-is bytes old new piece count put cut =
    let front = overlay-front bytes old count put.count_is in
    let fits : length (take count bytes) ≡ count = omega (arith, length-take count bytes, front.within) in
    cut ∙ ap (take count) (put.new_is ∙ front.new_is)
    ∙ ap (λ (n : ℕ). take n (take count bytes ++ drop count old)) (sym fits)
    ∙ take-append_seam (take count bytes) (drop count old)

-- a front of what is left of some bytes was sent whole
pub front-sent : (rest front : List ℕ) (count : ℕ) (start after : Option Wire) → front ≡ take count rest
    → after ≡ after_put front start → after ≡ after_put (take count rest) start
front-sent rest front count start after is put = put ∙ ap (λ (l : List ℕ). after_put l start) is

-- it was cut
pub front-cut : (bytes front : List ℕ) (from many : ℕ) (start after : Option Wire) → from ≤ length bytes
    → front ≡ take many (drop from bytes)
    → (count : ℕ) × (count ≤ length front) × (after ≡ after_put (take count front) start)
    → (count : ℕ) × (from + count ≤ length bytes) × (after ≡ after_put (take count (drop from bytes)) start)
front-cut bytes front from many start after below is cut =
    let rest = drop from bytes in
    let short : length front ≡ length (take many rest) = ap length is in (
      cut.0,
      omega (arith, cut.1, short, length-take many rest, length-drop from bytes, below),
      cut.2 ∙ ap (λ (l : List ℕ). after_put l start)
          (ap (take cut.0) is
          ∙ take-take cut.0 many rest (omega (arith, cut.1, short, length-take many rest))),
    )

-- a piece was sent behind the bytes before it
pub sent-more : (bytes : List ℕ) (sent count : ℕ) (start before after : Option Wire)
    → before ≡ after_put (take sent bytes) start → after ≡ after_put (take count (drop sent bytes)) before
    → after ≡ after_put (take (sent + count) bytes) start
sent-more bytes sent count start before after so_far more =
    more ∙ ap (after_put (take count (drop sent bytes))) so_far ∙ sym (after_put_more sent count bytes start)

-- all bytes were sent
pub sent-all : (bytes : List ℕ) (sent : ℕ) (start after : Option Wire) → length bytes ≤ sent
    → after ≡ after_put (take sent bytes) start → after ≡ after_put bytes start
sent-all bytes sent start after whole put = put ∙ ap (λ (l : List ℕ). after_put l start) (take_all sent bytes whole)

pub ruleset sending = (sent-more, sent-all)

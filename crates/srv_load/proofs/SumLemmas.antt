-- Sums of bytes modulo 2^32, slice by slice.
use Rattle.std.proofs.Common.{◌≡◌, ◌≤◌, ℕ, ◌+◌, ◌%◌, ◌^◌, ◌<◌, List, ◌++◌, length, min, take, drop, sym, ap, ◌∙◌, arith}
use Rattle.std.specs.Prelude.{sum}
use Rattle.std.proofs.Math.Seq.{take-append_seam}
use Rattle.std.proofs.lemmas.List.{drop-drop, drop_all, length-take}
use Rattle.std.proofs.lemmas.List.Sums.{sum_by-take-drop}
use Rattle.dap_number.specs.Overlay.{overlay}
use Rattle.dap_number.proofs.FrontLemmas.{overlay-front}
use Rattle.srv_load.specs.Asked.{sum_of}

-- a sum from an offset on is that of the next bytes and of those after them
sum-split : (bytes : List ℕ) (offset count : ℕ)
    → sum (take count (drop offset bytes)) + sum (drop (offset + count) bytes) ≡ sum (drop offset bytes)
sum-split bytes offset count =
    ap (λ (l : List ℕ). sum (take count (drop offset bytes)) + sum l) (sym (drop-drop count offset bytes))
    ∙ sum_by-take-drop (λ x. x) (drop offset bytes) count

-- the sum so far, and the bytes from an offset on, make the sum from the start on
pub record Adds (bytes : List ℕ) (start offset total : ℕ) : Type 0 where
  pub sum_is : (total + sum (drop offset bytes)) % 2 ^ 32 ≡ sum (drop start bytes) % 2 ^ 32

pub Adds-next : (bytes : List ℕ) (start offset total count next : ℕ) → Adds bytes start offset total
    → next ≡ (total + sum (take count (drop offset bytes))) % 2 ^ 32 → Adds bytes start (offset + count) next
Adds-next bytes start offset total count next so_far is =
    let split = sum-split bytes offset count in
    let before = so_far.sum_is in
    record { sum_is = omega (arith, split, before, is) }

pub sum_of-whole : (bytes : List ℕ) (start offset total : ℕ) → length bytes ≤ offset → total < 2 ^ 32
    → Adds bytes start offset total → total ≡ sum_of (drop start bytes)
unfolding sum_of
sum_of-whole bytes start offset total past small adds =
    let none : sum (drop offset bytes) ≡ 0 = ap sum (drop_all offset bytes past) in
    let is = adds.sum_is in
    omega (arith, none, is, small)

-- the front of a room is what a plan wrote into it
pub room-front : (bytes old new piece : List ℕ) (count : ℕ) → count ≡ min (length old) (length bytes)
    → new ≡ overlay bytes old → piece ≡ take count new → piece ≡ take count bytes
room-front bytes old new piece count is over cut =
    let front = overlay-front bytes old count is in
    let fits : length (take count bytes) ≡ count = omega (arith, length-take count bytes, front.within) in
    cut ∙ ap (take count) (over ∙ front.new_is)
    ∙ ap (λ (n : ℕ). take n (take count bytes ++ drop count old)) (sym fits)
    ∙ take-append_seam (take count bytes) (drop count old)

pub ruleset sums = (Adds-next, sum_of-whole)

-- Zero bytes, written over the front of a buffer.
use Rattle.std.proofs.Common.{◌≡◌, ℕ, ◌-◌, List, ◌++◌, length, min, replicate, take, drop, inl, inr, sym, ap, ap₂, ◌∙◌, arith}
use Rattle.std.proofs.lemmas.Bool.{cases_lt}
use Rattle.std.proofs.lemmas.List.{drop_all, drop-replicate, length-replicate, take_all, take-replicate}
use Rattle.std.proofs.lemmas.List.Edits.{fill_more, fill_none}
use Rattle.dap_number.specs.Overlay.{overlay, IsPut}

pub ruleset clearing = (fill_more, fill_none)

-- as many zero bytes as fit of those that are left
pub put-zeros : (len from count : ℕ) (old new : List ℕ) → count ≡ min (len - from) (length old)
    → new ≡ replicate count 0 ++ drop count old → IsPut (drop from (replicate len 0)) old new count
unfolding overlay
put-zeros len from count old new is written =
    let left : drop from (replicate {A = ℕ} len 0) ≡ replicate (len - from) 0 =
    drop-replicate from len 0 in
    let long : length (drop from (replicate {A = ℕ} len 0)) ≡ len - from =
    ap length left ∙ length-replicate (len - from) 0 in
    record {
      count_is = omega (arith, is, long);
      new_is = elim (cases_lt (len - from) (length old)) [
        | inl high ↦
            let all : len - from ≡ count = omega (arith, is, high) in
            written
            ∙ ap₂ (λ (l : List ℕ) (n : ℕ). l ++ drop n old)
            (sym (take_all (length old) (drop from (replicate len 0)) (omega (arith, long, high))
            ∙ left ∙ ap (λ (n : ℕ). replicate {A = ℕ} n 0) all))
            (omega (arith, long, all))
        | inr low ↦
            let all : length old ≡ count = omega (arith, is, low) in
            written
            ∙ ap₂ (λ (l r : List ℕ). l ++ r)
            (sym (ap (take (length old)) left ∙ take-replicate (length old) (len - from) 0 low
            ∙ ap (λ (n : ℕ). replicate {A = ℕ} n 0) all))
            (drop_all count old (omega (arith, all))
            ∙ sym (drop_all (length (drop from (replicate len 0))) old (omega (arith, long, low))))
      ];
    }

-- A slice of a buffer that begins later.
use Rattle.std.proofs.Common.{◌≡◌, ℕ, ◌+◌, ◌-◌, ◌≤◌, List, length, take, drop, refl, sym, ap, ◌∙◌, arith}
use Rattle.std.specs.Prelude.{slice_range}
use Rattle.std.proofs.lemmas.List.{drop-take, drop-drop, length-take}

pub slice_range_later : (xs : List ℕ) (start end n : ℕ) → start ≤ end → n ≤ length (slice_range xs start end)
    → slice_range xs (start + n) end ≡ drop n (slice_range xs start end)
slice_range_later xs start end n ordered fits =
    let most : n ≤ end - start = omega (arith, simp length-take at fits) in
    let split : end - start ≡ n + (end - (start + n)) = omega arith in
    ap (λ l. take (end - (start + n)) l) (sym (drop-drop n start xs))
    ∙ sym (drop-take n (end - (start + n)) (drop start xs)) ∙ ap (λ m. drop n (take m (drop start xs))) (sym split)

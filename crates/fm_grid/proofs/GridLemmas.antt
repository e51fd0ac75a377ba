-- Where one of two lists ends, nothing more is common.
use Rattle.std.proofs.Common.{◌≡◌, ℕ, ◌+◌, ◌≤◌, List, [], ◌∷◌, length, drop, refl, ap, ◌∙◌, arith}
use Rattle.std.specs.Prelude.{nat_eq}
use Rattle.std.specs.List.{common_prefix_len}
use Rattle.std.proofs.lemmas.List.{drop_all}

nothing_common : (xs : List ℕ) → common_prefix_len nat_eq xs [] ≡ 0
nothing_common [] = refl
nothing_common (x ∷ xs) = refl

pub common-ends : (xs ys : List ℕ) (n : ℕ) → length ys ≤ n
    → common_prefix_len nat_eq xs ys ≡ n + common_prefix_len nat_eq (drop n xs) (drop n ys)
    → n ≡ common_prefix_len nat_eq xs ys
common-ends xs ys n ends is =
    let none = ap (common_prefix_len nat_eq (drop n xs)) (drop_all n ys ends) ∙ nothing_common (drop n xs) in
    omega (arith, is, none)

pub ruleset commons = (common-ends)

-- A search that stops at the first item that passes finds that item, which stands at the number reached.
use Rattle.std.proofs.Common.{◌≡◌, ℕ, ◌<◌, List, [], drop, find, length, get_or, Bool, true, sym, ◌∙◌}
use Rattle.std.specs.List.{slice_get}
use Rattle.fm_base.proofs.ListLemmas.{find-there}

pub find-at : {A : Type 0} (p : A → Bool) (xs : List A) (x : A) (n : ℕ) → find p (drop n xs) ≡ find p xs
    → n < length xs → x ≡ get_or xs n x → p x ≡ true → find p xs ≡ slice_get xs n
find-at p xs x n left within there passes = sym left ∙ find-there p xs x n within there passes

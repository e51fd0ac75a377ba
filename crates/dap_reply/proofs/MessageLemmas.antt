-- Words and values, one after the other.
use Rattle.std.proofs.Common.{◌≡◌, ℕ, List, ◌++◌, OnOk, Result, Ok, Err, ap, ◌∙◌}
use Rattle.std.proofs.lemmas.List.{append_assoc}

-- three pairs of a word and a value, where writing ends well
pub of_three : {E : Type 0} (result : Result (Unit {0}) E) (old first second new a b c d e f : List ℕ)
    → first ≡ old ++ (a ++ b) → second ≡ first ++ (c ++ d) → OnOk result (new ≡ second ++ (e ++ f))
    → OnOk result (new ≡ old ++ (a ++ b ++ c ++ d ++ e ++ f))
of_three (Ok x) old first second new a b c d e f one two three =
    three ∙ ap (λ l. l ++ (e ++ f)) (two ∙ ap (λ l. l ++ (c ++ d)) one) ∙ whole
  where
    whole : ((old ++ (a ++ b)) ++ (c ++ d)) ++ (e ++ f) ≡ old ++ (a ++ b ++ c ++ d ++ e ++ f)
    whole = search (append_assoc)
of_three (Err x) old first second new a b c d e f one two three = three

-- what follows where writing ends well
pub on_ok : {T E P Q : Type 0} (result : Result T E) → (P → Q) → OnOk result P → OnOk result Q
on_ok (Ok x) follows is = follows is
on_ok (Err x) follows is = is

-- A search over two lists, one after the other.
use Rattle.std.proofs.Common.{◌≡◌, ℕ, List, ◌++◌, None, not, ap, ◌∙◌}
use Rattle.std.specs.Option.{option_or}
use Rattle.std.proofs.lemmas.List.Folds.{find-append}
use Rattle.fm_model.specs.Prototype.{is_plain_name}
use Rattle.fm_proto.specs.Searches.{first_bad_name}

-- where none of the names before is bad, the first bad name is the first of those after
pub first_bad_name-append : (names others : List (List ℕ)) → first_bad_name names ≡ None
    → first_bad_name (names ++ others) ≡ first_bad_name others
first_bad_name-append names others none =
    find-append (λ name. not (is_plain_name name)) names others
    ∙ ap (λ found. option_or found (first_bad_name others)) none

pub ruleset appended = (find-append)

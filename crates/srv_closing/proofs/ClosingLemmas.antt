-- The first end at devices that are numbered.
use Rattle.std.proofs.Common.{◌≡◌, ℕ, ◌+◌, ◌<◌, ◌≤◌, List, length, drop, slice_index_or, Option, Some, None, ap, ◌∙◌}
use Rattle.std.proofs.lemmas.List.{drop_all, drop_more}
use Rattle.std.proofs.lemmas.List.Sums.{sum_by_more, sum_by_more_le}
use Rattle.std.specs.Option.{option_or}
use Rattle.srv_alone.specs.declared.end.End.{End}
use Rattle.srv_closing.specs.Closing.{first_from}

-- the first end from a device on is that of the device, or the first one after it
first-of : {R : Type 0} (end_of : ℕ → R → Option End) (n : ℕ) (reports : List R) (d : R) → n < length reports
    → first_from end_of n (drop n reports)
    ≡ option_or (end_of n (slice_index_or reports n d)) (first_from end_of (n + 1) (drop (n + 1) reports))
unfolding first_from
first-of {R} end_of n reports d below = ap (λ (l : List R). first_from end_of n l) (drop_more reports n d below)

-- the run ends at a device
pub first-here : {R : Type 0} (end_of : ℕ → R → Option End) (n : ℕ) (reports : List R) (d : R) (end : End)
    → n < length reports → end_of n (slice_index_or reports n d) ≡ Some end
    → first_from end_of n (drop n reports) ≡ Some end
first-here end_of n reports d end below is =
    first-of end_of n reports d below
    ∙ ap (λ (o : Option End). option_or o (first_from end_of (n + 1) (drop (n + 1) reports))) is

-- the run doesn't end at a device
pub first-next : {R : Type 0} (end_of : ℕ → R → Option End) (n : ℕ) (reports : List R) (d : R)
    → n < length reports → end_of n (slice_index_or reports n d) ≡ None
    → first_from end_of n (drop n reports) ≡ first_from end_of (n + 1) (drop (n + 1) reports)
first-next end_of n reports d below is =
    first-of end_of n reports d below
    ∙ ap (λ (o : Option End). option_or o (first_from end_of (n + 1) (drop (n + 1) reports))) is

-- after the last device there is no end
pub first-none : {R : Type 0} (end_of : ℕ → R → Option End) (k n : ℕ) (reports : List R) → length reports ≤ n
    → first_from end_of k (drop n reports) ≡ None
unfolding first_from
first-none {R} end_of k n reports within =
    ap (λ (l : List R). first_from end_of k l) (drop_all n reports within)

pub ruleset ends = (first-here, first-next, first-none)

pub ruleset sums = (sum_by_more, sum_by_more_le)

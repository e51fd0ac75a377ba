-- Where a valid time keeps a least offset, so do all of its stretch that follow.
use Rattle.std.proofs.Common.{◌≡◌, ℕ, ◌+◌, ◌-◌, ◌<◌, ◌≤◌, ◌≤ℤ◌, Bool, true, List, [], ◌∷◌, ◌++◌, length, get_or, map, take, drop, suc, zero, inl, inr, Option, None, Some, ℤ, refl, subst, sym, ap, ◌∙◌, arith}
use Rattle.std.specs.Prelude.{filter}
use Rattle.std.proofs.Math.Path.{subst₂}
use Rattle.std.proofs.lemmas.Bool.{cases_order}
use Rattle.std.proofs.lemmas.Int.{ints}
use Rattle.std.proofs.lemmas.List.{get_or_append_left, get_or_default, get_or_push, get_or-map, length-append, length-map}
use Rattle.std.proofs.lemmas.List.Filters.{length-filter_more}
use Rattle.fm_model.specs.Cell.{has_least_offset}
use Rattle.fm_model.specs.declared.row.Row.{Row}
use Rattle.fm_edition.specs.declared.maps.page_rows.Oldest.{Oldest}
use Rattle.fm_edition.specs.Least.{keeps_least, lies_after, row_time}
use Rattle.fm_edition.specs.Stretches.{lag, IsEnd, Rise}
use Rattle.fm_edition.proofs.EarlyLemmas.{no_time}
use Rattle.fm_edition.proofs.KeepLemmas.{passed_more}
use Rattle.fm_edition.proofs.LeastSteps.{through}

-- a valid time that lies further after its run keeps each offset that one does that lies nearer
further : (least : Option ℤ) (near far : Oldest) → lag near ≤ℤ lag far → lies_after least near ≡ true
    → lies_after least far ≡ true
unfolding has_least_offset
further None near far below keeps = refl
further (Some least) near far below keeps = grind (arith, ints)

-- so do all that follow in its stretch
pub stretch_keeps : (least : Option ℤ) (times : List Oldest) (from to : ℕ) (z : Oldest) → IsEnd times from to
    → lies_after least (get_or times from z) ≡ true → (k : ℕ) → from ≤ k → k < to
    → lies_after least (get_or times k z) ≡ true
stretch_keeps least times from to z end keeps k order lt =
    further least (get_or times from z) (get_or times k z) (end.rise from k z (omega arith) order lt) keeps

-- so do the rows of a stretch, where its valid times are theirs
pub rows_keep : (least : Option ℤ) (rows : List Row) (times : List Oldest) (from to : ℕ) (row : Row)
    → times ≡ map row_time rows → IsEnd times from to → lies_after least (get_or times from no_time) ≡ true
    → (k : ℕ) → from ≤ k → k < to → keeps_least least (get_or rows k row) ≡ true
rows_keep least rows times from to row are end keeps k first lt =
    let within : k < length rows = omega (arith, lt, end.within, ap length are, length-map rows row_time) in
    ap (lies_after least) (sym (ap (λ l. get_or l k no_time) are ∙ get_or-map row_time rows k row no_time within))
    ∙ stretch_keeps least times from to no_time end keeps k first lt

-- one valid time alone
pub rise_one : (times : List Oldest) (from to : ℕ) → to ≡ from + 1 → Rise times from to
rise_one times from to one = λ i k z first order lt.
    let same : i ≡ k = omega (arith, first, order, lt, one) in
    subst (λ n. lag (get_or times i z) ≤ℤ lag (get_or times n z)) same (omega (arith, ints))

-- one valid time more that lies at least as far after its run as the last
pub rise_more : (times : List Oldest) (from to : ℕ) (z : Oldest) → from < to → to < length times → Rise times from to
    → lag (get_or times (to - 1) z) ≤ℤ lag (get_or times to z) → Rise times from (to + 1)
rise_more times from to z some within rise far = λ i k y first order lt.
    elim (cases_order k to) [
      | inl at ↦ elim (cases_order i to) [
        | inl top ↦ same (get_or times i y) (get_or times k y) (ap (λ n. get_or times n y) (top ∙ sym at))
        | inr (inl before) ↦ subst (λ n. lag (get_or times i y) ≤ℤ lag (get_or times n y)) (sym at)
            (through (lag (get_or times i y)) (lag (get_or times (to - 1) y)) (lag (get_or times to y))
            (rise i (to - 1) y first (omega (arith, before)) (omega (arith, some)))
            (subst₂ (λ (a b : Oldest). lag a ≤ℤ lag b)
            (get_or_default times (to - 1) z y (omega (arith, within))) (get_or_default times to z y within) far))
        | inr (inr after) ↦ absurd (omega (arith, order, lt, after))
      ]
      | inr (inl before) ↦ rise i k y first order before
      | inr (inr after) ↦ absurd (omega (arith, lt, after))
    ]
  where
    same : (a b : Oldest) → a ≡ b → lag a ≤ℤ lag b
    same a b e = subst (λ (t : Oldest). lag a ≤ℤ lag t) e (omega (arith, ints))

-- items that pass are counted
pub counted_all : {A : Type 0} (f : A → Bool) (list : List A) (from to : ℕ) (z : A) → from ≤ to → to ≤ length list
    → ((k : ℕ) → from ≤ k → k < to → f (get_or list k z) ≡ true)
    → length (filter f (take to list)) + from ≡ length (filter f (take from list)) + to
counted_all f list from to z order within pass = go (to - from) to (omega (arith, order)) within pass
  where
    go : (n end : ℕ) → end ≡ from + n → end ≤ length list
        → ((k : ℕ) → from ≤ k → k < end → f (get_or list k z) ≡ true)
        → length (filter f (take end list)) + from ≡ length (filter f (take from list)) + end
    go zero end is within pass =
        let same : end ≡ from = omega (arith, is) in
        rw same refl
    go (suc n) end is within pass =
        let last = from + n in
        let one : end ≡ last + 1 = omega (arith, is) in
        let before = go n last refl (omega (arith, one, within))
        (λ k first lt. pass k first (omega (arith, lt, one))) in
        let more = length-filter_more f list last z (omega (arith, one, within)) in
        let keeps = pass last (omega arith) (omega (arith, one)) in
        let here = rw keeps at more in
        rw one (omega (arith, before, here))

-- items that pass, behind others that do
pub passed_all : {A : Type 0} (f : A → Bool) (made first list : List A) (from at to : ℕ) (z : A) → from ≤ at → at ≤ to
    → to ≤ length list → ((k : ℕ) → at ≤ k → k < to → f (get_or list k z) ≡ true)
    → made ++ drop from (take at list) ≡ first ++ filter f (take at list)
    → made ++ drop from (take to list) ≡ first ++ filter f (take to list)
passed_all f made first list from at to z begun order within pass so =
    go (to - at) to (omega (arith, order)) within pass
  where
    go : (n end : ℕ) → end ≡ at + n → end ≤ length list
        → ((k : ℕ) → at ≤ k → k < end → f (get_or list k z) ≡ true)
        → made ++ drop from (take end list) ≡ first ++ filter f (take end list)
    go zero end is within pass =
        let same : end ≡ at = omega (arith, is) in
        rw same so
    go (suc n) end is within pass =
        let last = at + n in
        let one : end ≡ last + 1 = omega (arith, is) in
        let lt : last < length list = omega (arith, one, within) in
        let item = get_or list last z in
        let before = go n last refl (omega (arith, one, within))
        (λ k first lt. pass k first (omega (arith, lt, one))) in
        rw one (passed_more f made first list from last item lt (get_or_default list last z item lt)
        (omega (arith, begun)) (pass last (omega arith) (omega (arith, one))) before)

-- one end more
pub ends_more : (times : List Oldest) (ends : List ℕ) (at end : ℕ) → length ends ≡ at → IsEnd times at end
    → ((i d : ℕ) → i < length ends → IsEnd times i (get_or ends i d))
    → (i d : ℕ) → i < length (ends ++ end ∷ []) → IsEnd times i (get_or (ends ++ end ∷ []) i d)
ends_more times ends at end long stretch are i d lt = elim (cases_order i (length ends)) [
  | inl last ↦ subst₂ (IsEnd times) (sym (last ∙ long)) (sym (get_or_push ends end d i (sym last))) stretch
  | inr (inl before) ↦
      subst (IsEnd times i) (sym (get_or_append_left ends (end ∷ []) d i before)) (are i d before)
  | inr (inr after) ↦ absurd (omega (arith, lt, after, length-append ends (end ∷ [])))
]

-- How far rows lie after their runs.
use Rattle.std.proofs.Common.{◌≡◌, ℕ, ◌+◌, ◌<◌, ◌≤◌, List, length, get_or, take, Some, None, ℤ, ◌≤ℤ◌, ◌-ℤ◌, sym, subst, ap, ◌∙◌, ◌++◌, ◌∷◌, [], arith}
use Rattle.std.proofs.lemmas.Int.{ints}
use Rattle.std.proofs.lemmas.List.{take_all, take_more}
use Rattle.std.proofs.lemmas.List.Elements.{All-push}
use Rattle.fm_model.specs.declared.row.Row.{Row}
use Rattle.fm_model.proofs.BestLemmas.{offset_test}
use Rattle.fm_edition.specs.Least.{KeepLeast, LieAfter}

-- what is at most one number is at most each larger one
pub through : (a b c : ℤ) → a ≤ℤ b → b ≤ℤ c → a ≤ℤ c
through a b c ab bc = omega (arith, ints)

pub least_more : (rows : List Row) (i : ℕ) (row : Row) (least next : ℤ) → i < length rows → row ≡ get_or rows i row
    → LieAfter least (take i rows) → next ≤ℤ least → next ≤ℤ (row.valid -ℤ row.run)
    → LieAfter next (take (i + 1) rows)
least_more rows i row least next lt is all below here =
    let more : take (i + 1) rows ≡ take i rows ++ row ∷ [] = take_more rows i row lt
    ∙ ap (λ y. take i rows ++ y ∷ []) (sym is) in
    subst (LieAfter next) (sym more)
    (All-push (λ (r : Row). next ≤ℤ (r.valid -ℤ r.run)) (take i rows) row
    (λ k d within. through next least _ below (all k d within)) here)

pub least_done : (rows : List Row) (i : ℕ) (least : ℤ) → length rows ≤ i → LieAfter least (take i rows)
    → LieAfter least rows
least_done rows i least past all = subst (LieAfter least) (take_all i rows past) all

pub keep_from : (rows : List Row) (seconds least : ℤ) → seconds ≤ℤ least → LieAfter least rows
    → KeepLeast (Some seconds) rows
keep_from rows seconds least below all = λ k d lt.
    let row = get_or rows k d in
    offset_test (Some seconds) row.run row.valid (through seconds least _ below (all k d lt))

pub keep_none : (rows : List Row) → KeepLeast None rows
keep_none rows = λ k d lt.
    let row = get_or rows k d in
    offset_test None row.run row.valid tt

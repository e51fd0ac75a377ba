-- Which row stands at a run and an offset.
use Rattle.std.proofs.Common.{◌≡◌, ◌+◌, ◌<◌, ◌≤◌, ℕ, List, length, Option, Some, None, All, IfSome, ℤ, refl, sym, subst, arith}
use Rattle.std.specs.Prelude.{position, slice_get, slice_index, option_and_then}
use Rattle.std.specs.Option.{option_map}
use Rattle.std.specs.Ordering.{int_eq}
use Rattle.std.proofs.lemmas.List.Elements.{All-get_or}
use Rattle.std.proofs.lemmas.List.Quantifiers.{position-Some}
use Rattle.std.proofs.lemmas.Option.{get_or_from_slice_get, none-some, same_Some, slice_get_within}
use Rattle.fm_model.specs.declared.limit.TheConstants.{MAX_ROWS}
use Rattle.dap_model.specs.declared.declaration.Decl.{Decl}
use Rattle.fm_twod.specs.declared.cells.RunCells.{RunCells}
use Rattle.fm_twod.specs.Laid.{end_of, number_at, number_by, number_in, IsGrid, Laid}

-- a fact of all items holds of the one at an index
pub all-at : {A : Type 0} (P : A → Type 0) (xs : List A) (n : ℕ) (x : A) → All P xs → slice_get xs n ≡ Some x → P x
all-at P xs n x all is =
    subst P (get_or_from_slice_get xs n x x is) (All-get_or P xs n x (slice_get_within xs n x is) all)

-- the index of an offset is one of a list
pub index-within : (offsets : List ℤ) (offset : ℤ) (o : Option ℕ)
    → o ≡ position (λ other. int_eq other offset) offsets → IfSome o (λ index. index < length offsets)
index-within offsets offset None is = tt
index-within offsets offset (Some index) is =
    (position-Some (λ other. int_eq other offset) offsets index offset (sym is)).0

pub ruleset indices = (index-within)

-- the number of a row of a run is before the end of the run's
pub number-before : (cells : RunCells) (offset : ℤ) (number : ℕ) → number_in cells offset ≡ Some number
    → number < end_of cells
unfolding number_in
number-before cells offset number is = by_index (position (λ other. int_eq other offset) cells.offsets) refl is
  where
    by_index : (o : Option ℕ) → position (λ other. int_eq other offset) cells.offsets ≡ o
        → option_map (λ index. cells.first + index) o ≡ Some number → number < end_of cells
    by_index None here found = absurd (none-some number found)
    by_index (Some index) here found =
        let within = (position-Some (λ other. int_eq other offset) cells.offsets index offset here).0 in
        omega (arith, within, same_Some (cells.first + index) number found)

-- the number at an index list is that of a row
pub number-within : (laid : Laid) (decls : List Decl) (index : List ℕ) (number : ℕ) → IsGrid laid decls
    → number_at laid index ≡ Some number → number < length laid.cells.rows
unfolding number_by
number-within laid decls index number grid is =
    by_run (slice_get laid.runs (slice_index index 0)) refl
    (slice_get laid.offsets (slice_index index 1)) is
  where
    by_run : (r : Option RunCells) → slice_get laid.runs (slice_index index 0) ≡ r → (o : Option ℤ)
        → option_and_then (λ (cells : RunCells). option_and_then (number_in cells) o) r ≡ Some number
        → number < length laid.cells.rows
    by_run None here o found = absurd (none-some number found)
    by_run (Some cells) here None found = absurd (none-some number found)
    by_run (Some cells) here (Some offset) found =
        let before = number-before cells offset number found in
        let last = all-at (λ (c : RunCells). end_of c ≤ length laid.cells.rows) laid.runs (slice_index index 0) cells
        grid.ends here in
        omega (arith, before, last)

-- each run ends within the limit
pub ends-few : (laid : Laid) (decls : List Decl) → IsGrid laid decls
    → All (λ (cells : RunCells). end_of cells ≤ MAX_ROWS) laid.runs
ends-few laid decls grid = λ k d below. omega (arith, grid.ends k d below, grid.rows_are.few)

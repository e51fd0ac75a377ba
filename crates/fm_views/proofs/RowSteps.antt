-- How many rows there are where each look-up finds one.
use Rattle.std.proofs.Common.{◌≡◌, List, [], ◌∷◌, length, Option, ℤ, refl, arith}
use Rattle.std.specs.Prelude.{IsSome}
use Rattle.std.specs.List.{filter_map}
use Rattle.fm_model.specs.declared.loaded.Loaded.{Loaded}
use Rattle.fm_model.specs.Cell.{cell, times_of_run}
use Rattle.fm_model.specs.Rows.{row_at}
use Rattle.fm_model.proofs.BestLemmas.{cell-from_Any, in_times_of_run, value-from_some}
use Rattle.fm_model.proofs.Members.{Each, Each-from_in, Any-from_in}
use Rattle.fm_model.specs.Cell.{HasCell}

-- as many are made as there are items, where each makes one
pub length-filter_map_all : {A B : Type 0} (make : A → Option B) (items : List A)
    → Each (λ item. IsSome (make item)) items
    → length (filter_map make items) ≡ length items
length-filter_map_all make [] each = refl
length-filter_map_all make (item ∷ items) each =
    let made = value-from_some (make item) each.0 in
    let more = length-filter_map_all make items each.1 in
    rw made.1 (omega (arith, more))

-- a cell has its row
pub IsSome-row_at : (files : List Loaded) (run valid : ℤ) → IsSome (cell files run valid)
    → IsSome (row_at files run valid)
unfolding row_at
IsSome-row_at files run valid has = let found = value-from_some (cell files run valid) has in rw found.1 refl

-- a run has a row for each of its valid times
pub length-rows_of_run : (files : List Loaded) (run : ℤ)
    → length (filter_map (row_at files run) (times_of_run files run)) ≡ length (times_of_run files run)
length-rows_of_run files run = length-filter_map_all (row_at files run) (times_of_run files run)
    (Each-from_in (λ valid. IsSome (row_at files run valid)) (times_of_run files run) (λ valid held.
    let file = in_times_of_run files run valid held in
    IsSome-row_at files run valid (cell-from_Any files run valid
    (Any-from_in (HasCell run valid) file.0 files file.1 file.2))))

-- The last item that passes, as a walk from the end finds it.
use Rattle.std.proofs.Common.{◌≡◌, ℕ, suc, ◌+◌, ◌<◌, Bool, true, false, cond, List, [], ◌∷◌, ◌++◌, length, get_or, take, Some, None, ℤ, refl, sym, ap, ◌∙◌, arith}
use Rattle.std.specs.Prelude.{nat_lt, position}
use Rattle.std.specs.List.{list_any, position_or_len}
use Rattle.std.specs.Ordering.{int_eq}
use Rattle.std.proofs.lemmas.Bool.Decides.{nat_tests}
use Rattle.std.proofs.lemmas.List.{take_more}
use Rattle.std.proofs.lemmas.Option.{none-some, same_Some}
use Rattle.fm_model.specs.declared.loaded.Loaded.{Loaded}
use Rattle.fm_model.specs.Cell.{cell, has_cell, has_time, last_such, index_of_time}
use Rattle.fm_model.proofs.LastLemmas.{last_such-is, no_value}
use Rattle.fm_list.specs.Found.{cell_in}

last_such-push_failing : {A : Type 0} (test : A → Bool) (items : List A) (item : A) → test item ≡ false
    → last_such test (items ++ item ∷ []) ≡ last_such test items
last_such-push_failing test [] item fails = rw fails refl
last_such-push_failing test (first ∷ items) item fails = rw (last_such-push_failing test items item fails) refl

-- an item that fails is passed over
last_such-passed_over : {A : Type 0} (test : A → Bool) (items : List A) (i : ℕ) (d : A) → i < length items
    → test (get_or items i d) ≡ false
    → last_such test (take (i + 1) items) ≡ last_such test (take i items)
last_such-passed_over test items i d lt fails = ap (last_such test) (take_more items i d lt)
    ∙ last_such-push_failing test (take i items) (get_or items i d) fails

-- an item that passes is the last of those up to it
last_such-found : {A : Type 0} (test : A → Bool) (items : List A) (i : ℕ) (d : A) → i < length items
    → test (get_or items i d) ≡ true
    → last_such test (take (i + 1) items) ≡ Some (get_or items i d)
last_such-found test items i d lt passes = ap (last_such test) (take_more items i d lt)
    ∙ last_such-is test (take i items) (get_or items i d) [] passes tt

lt_next : (a b : ℕ) → nat_lt (1 + a) (suc b) ≡ nat_lt a b
lt_next a b = grind (arith, nat_tests)

lt_first : (b : ℕ) → nat_lt 0 (suc b) ≡ true
lt_first b = grind (arith, nat_tests)

-- there is a first index exactly where some item passes
pub below_length : {A : Type 0} (test : A → Bool) (items : List A) → nat_lt (position_or_len test items) (length items)
    ≡ list_any test items
below_length test [] = refl
below_length {A} test (item ∷ items) = by_test (test item) refl (below_length test items)
  where
    by_test : (b : Bool) → test item ≡ b → nat_lt (position_or_len test items) (length items) ≡ list_any test items
        → nat_lt (position_or_len test (item ∷ items)) (length (item ∷ items)) ≡ list_any test (item ∷ items)
    by_test true is rest = rw is (lt_first (length items))
    by_test false is rest = rw is (lt_next (position_or_len test items) (length items) ∙ rest)

pub cell_in-other_run : (run valid : ℤ) (file : Loaded) → int_eq file.run run ≡ false → cell_in run valid file ≡ None
unfolding cell_in has_cell
cell_in-other_run run valid file e = rw e refl

pub cell_in-own_run : (run valid : ℤ) (file : Loaded) → int_eq file.run run ≡ true → cell_in run valid file
    ≡ position (λ time. int_eq time valid) file.times
unfolding cell_in has_cell has_time index_of_time
cell_in-own_run run valid file e = rw (e, below_length (λ time. int_eq time valid) file.times) refl

-- the cell of a file, by the time's index in it
found_parts : (run valid : ℤ) (file : Loaded) (index : ℕ) → cell_in run valid file ≡ Some index
    → (has_cell run valid file ≡ true) × (index_of_time valid file ≡ index)
unfolding cell_in
found_parts run valid file index e = by_test (has_cell run valid file) refl e
  where
    by_test : (b : Bool) → has_cell run valid file ≡ b → cond b (Some (index_of_time valid file)) None ≡ Some index
        → (has_cell run valid file ≡ true) × (index_of_time valid file ≡ index)
    by_test true is e = (is, same_Some (index_of_time valid file) index e)
    by_test false is e = absurd (none-some index e)

lacks_cell : (run valid : ℤ) (file : Loaded) → cell_in run valid file ≡ None → has_cell run valid file ≡ false
unfolding cell_in
lacks_cell run valid file e = by_test (has_cell run valid file) refl e
  where
    by_test : (b : Bool) → has_cell run valid file ≡ b → cond b (Some (index_of_time valid file)) None ≡ None
        → has_cell run valid file ≡ false
    by_test true is e = absurd (no_value (index_of_time valid file) e)
    by_test false is e = is

-- the file at which the walk stops has the cell
pub cell-found : (files : List Loaded) (run valid : ℤ) (i before : ℕ) (file : Loaded) (index : ℕ) → i + 1 ≡ before
    → i < length files
    → file ≡ get_or files i file → cell_in run valid file ≡ Some index
    → last_such (has_cell run valid) (take before files) ≡ last_such (has_cell run valid) files
    → cell files run valid ≡ Some (file, index)
unfolding cell
cell-found files run valid i before file index next lt is found same =
    let parts = found_parts run valid file index found in
    let passes : has_cell run valid (get_or files i file) ≡ true = ap (has_cell run valid) (sym is) ∙ parts.0 in
    let last : last_such (has_cell run valid) files ≡ Some file =
    sym same ∙ ap (λ n. last_such (has_cell run valid) (take n files)) (sym next)
    ∙ last_such-found (has_cell run valid) files i file lt passes ∙ ap Some (sym is) in
    rw last (ap (λ n. Some (file, n)) parts.1)

-- a file without the cell is passed over
pub cell-passed : (files : List Loaded) (run valid : ℤ) (i before : ℕ) (file : Loaded) → i + 1 ≡ before
    → i < length files
    → file ≡ get_or files i file → cell_in run valid file ≡ None
    → last_such (has_cell run valid) (take before files) ≡ last_such (has_cell run valid) files
    → last_such (has_cell run valid) (take i files) ≡ last_such (has_cell run valid) files
cell-passed files run valid i before file next lt is none same =
    let fails : has_cell run valid (get_or files i file) ≡ false = ap (has_cell run valid) (sym is)
    ∙ lacks_cell run valid file none in
    sym (last_such-passed_over (has_cell run valid) files i file lt fails)
    ∙ ap (λ n. last_such (has_cell run valid) (take n files)) next ∙ same

-- there is no cell where the walk comes to the front
pub cell-none : (files : List Loaded) (run valid : ℤ) (before : ℕ) → before ≡ 0
    → last_such (has_cell run valid) (take before files) ≡ last_such (has_cell run valid) files
    → cell files run valid ≡ None
unfolding cell
cell-none files run valid before none same =
    let last : last_such (has_cell run valid) files ≡ None = sym same
    ∙ ap (λ n. last_such (has_cell run valid) (take n files)) none in
    rw last refl

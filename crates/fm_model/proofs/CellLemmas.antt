-- Cells: which file stands for a run and a valid time.
use Rattle.std.proofs.Common.{◌≡◌, ◌↔◌, ℕ, zero, suc, ◌+◌, ◌<◌, Bool, true, false, ◌||◌, List, [], ◌∷◌, Option, Some, None, ℤ, refl, sym, ap, subst, ◌∙◌, inl, inr, arith}
use Rattle.std.specs.Prelude.{slice_get, All, IsSome, is_some}
use Rattle.std.specs.List.{list_any, position_or_len}
use Rattle.std.specs.Ordering.{int_eq}
use Rattle.std.specs.Cmp.{signed_Decides}
use Rattle.std.proofs.lemmas.Bool.{and_parts, and_from, both_ways, cases_order, false≢true}
use Rattle.std.proofs.lemmas.Option.{none-some, same_Some, some_pair_parts}
use Rattle.fm_base.proofs.OptionLemmas.{mapped_some, mapped_none}
use Rattle.fm_model.specs.declared.loaded.Loaded.{Loaded}
use Rattle.fm_model.specs.Cell.{last_such, has_time, has_cell, index_of_time, cell, HasCell, IsCell}
use Rattle.fm_model.proofs.Members.{In, Each, Contains-from_in, in_from_Contains, In-append_right, Each-in, Each-weaker, All-from_each, each_from_All}
use Rattle.fm_model.proofs.LastLemmas.{none_passes, last_such-none, last_such-is, is_last}

-- the test of a time among times
pub has-in : (valid : ℤ) (times : List ℤ) → list_any (λ time. int_eq time valid) times ≡ true → In valid times
has-in valid [] e = absurd (false≢true e)
has-in valid (time ∷ times) e = by_first (int_eq time valid) refl e (has-in valid times)
  where
    by_first : (b : Bool) → int_eq time valid ≡ b → (b || list_any (λ t. int_eq t valid) times) ≡ true
        → (list_any (λ t. int_eq t valid) times ≡ true → In valid times) → In valid (time ∷ times)
    by_first true is e more = inl ((signed_Decides time valid).0 is)
    by_first false is e more = inr (more e)

-- a time that is in a list passes the test of its times
pub in-has : (valid : ℤ) (times : List ℤ) → In valid times → list_any (λ time. int_eq time valid) times ≡ true
in-has valid [] h = absurd h
in-has valid (time ∷ times) (inl same) = rw ((signed_Decides time valid).1 same) refl
in-has valid (time ∷ times) (inr later) = rw (in-has valid times later) (or_true (int_eq time valid))
  where
    or_true : (b : Bool) → (b || true) ≡ true
    or_true true = refl
    or_true false = refl

pub HasCell-from_test : (run valid : ℤ) (file : Loaded) → has_cell run valid file ≡ true → HasCell run valid file
unfolding has_cell has_time
HasCell-from_test run valid file e =
    let parts = and_parts (int_eq file.run run) (list_any (λ time. int_eq time valid) file.times) e in
    record {
      run_is = (signed_Decides file.run run).0 parts.0;
      time = Contains-from_in valid file.times
          (has-in valid file.times parts.1);
    }

pub test-from_HasCell : (run valid : ℤ) (file : Loaded) → HasCell run valid file → has_cell run valid file ≡ true
unfolding has_cell has_time
test-from_HasCell run valid file h = and_from (int_eq file.run run) (list_any (λ time. int_eq time valid) file.times)
    ((signed_Decides file.run run).1 h.run_is)
    (in-has valid file.times (in_from_Contains valid file.times h.time))

pub test-from_lack : (run valid : ℤ) (file : Loaded) → ¬ HasCell run valid file → has_cell run valid file ≡ false
test-from_lack run valid file lacks = by_test (has_cell run valid file) refl
  where
    by_test : (b : Bool) → has_cell run valid file ≡ b → has_cell run valid file ≡ false
    by_test true is = absurd (lacks (HasCell-from_test run valid file is))
    by_test false is = is

lack-from_test : (run valid : ℤ) (file : Loaded) → has_cell run valid file ≡ false → ¬ HasCell run valid file
lack-from_test run valid file e h = both_ways (has_cell run valid file) e (test-from_HasCell run valid file h)

-- the first index of a time among times that have it
pub slice_get-index : (valid : ℤ) (times : List ℤ) → In valid times
    → slice_get times (position_or_len (λ time. int_eq time valid) times) ≡ Some valid
slice_get-index valid [] h = absurd h
slice_get-index valid (time ∷ times) h = by_first (int_eq time valid) refl h (slice_get-index valid times)
  where
    by_first : (b : Bool) → int_eq time valid ≡ b → In valid (time ∷ times)
        → (In valid times → slice_get times (position_or_len (λ t. int_eq t valid) times) ≡ Some valid)
        → slice_get (time ∷ times) (position_or_len (λ t. int_eq t valid) (time ∷ times)) ≡ Some valid
    by_first true is h more = rw is (ap Some ((signed_Decides time valid).0 is))
    by_first false is (inl same) more = absurd (both_ways (int_eq time valid) is ((signed_Decides time valid).1 same))
    by_first false is (inr later) more =
        let next : 1 + position_or_len (λ t. int_eq t valid) times ≡ suc
        (position_or_len (λ t. int_eq t valid) times) = omega arith in
        rw (is, next) (more later)

pub before_index : (valid : ℤ) (times : List ℤ) (k : ℕ) → k < position_or_len (λ time. int_eq time valid) times
    → slice_get times k ≡ Some valid → ⊥
before_index valid [] k below e = absurd (omega arith)
before_index valid (time ∷ times) k below e = by_first (int_eq time valid) refl k below e (before_index valid times)
  where
    by_first : (b : Bool) → int_eq time valid ≡ b → (k : ℕ) → k < position_or_len (λ t. int_eq t valid) (time ∷ times)
        → slice_get (time ∷ times) k ≡ Some valid
        → ((j : ℕ) → j < position_or_len (λ t. int_eq t valid) times → slice_get times j ≡ Some valid → ⊥) → ⊥
    by_first true is k below e more = let none : k < 0 = rw is at below in absurd (omega arith)
    by_first false is zero below e more = both_ways (int_eq time valid) is
        ((signed_Decides time valid).1 (same_Some time valid e))
    by_first false is (suc k) below e more = let less : suc k < 1 + position_or_len
        (λ t. int_eq t valid) times = rw is at below in more k (omega arith) e

-- an item at an index is in the list
pub in_from_slice_get : {A : Type 0} (xs : List A) (k : ℕ) (x : A) → slice_get xs k ≡ Some x → In x xs
in_from_slice_get [] k x e = absurd (none-some x e)
in_from_slice_get (y ∷ xs) zero x e = inl (same_Some y x e)
in_from_slice_get (y ∷ xs) (suc k) x e = inr (in_from_slice_get xs k x e)

-- an index that has the time, where none before it does, is the first
index_is : (valid : ℤ) (times : List ℤ) (index : ℕ) → slice_get times index ≡ Some valid
    → ((k : ℕ) → k < index → slice_get times k ≡ Some valid → ⊥)
    → position_or_len (λ time. int_eq time valid) times ≡ index
index_is valid times index e first = elim (cases_order (position_or_len (λ time. int_eq time valid) times) index) [
  | inl same ↦ same
  | inr (inl below) ↦ absurd
      (first (position_or_len (λ time. int_eq time valid) times) below
      (slice_get-index valid times (in_from_slice_get times index valid e)))
  | inr (inr above) ↦ absurd (before_index valid times index above e)
]

pub IsCell-from_cell : (files : List Loaded) (run valid : ℤ) (file : Loaded) (index : ℕ)
    → cell files run valid ≡ Some (file, index) → IsCell files run valid file index
unfolding cell index_of_time
IsCell-from_cell files run valid file index e =
    let found = mapped_some (λ (f : Loaded). (f, index_of_time valid f)) (last_such (has_cell run valid) files)
    (file, index) e in
    let parts = some_pair_parts found.0 file (index_of_time valid found.0) index (ap Some found.2) in
    let last = is_last (has_cell run valid) files file (found.1 ∙ ap Some parts.0) in
    let has = HasCell-from_test run valid file last.passes in
    let at : position_or_len (λ time. int_eq time valid) file.times ≡ index = ap (index_of_time valid) (sym parts.0)
    ∙ parts.1 in
    record {
      before = last.before;
      after = last.after;
      split = last.split;
      run_is = has.run_is;
      time_is = ap (slice_get file.times) (sym at)
          ∙ slice_get-index valid file.times (in_from_Contains valid file.times has.time);
      first = λ k below. before_index valid file.times k (subst (λ n. k < n) (sym at) below);
      last = All-from_each (λ other. ¬ HasCell run valid other) last.after
          (Each-weaker _ _ (lack-from_test run valid) last.after last.fails);
    }

pub cell-from_IsCell : (files : List Loaded) (run valid : ℤ) (file : Loaded) (index : ℕ)
    → IsCell files run valid file index → cell files run valid ≡ Some (file, index)
unfolding cell index_of_time
cell-from_IsCell files run valid file index c =
    let has : HasCell run valid file = record {
      run_is = c.run_is;
      time = Contains-from_in valid file.times
          (in_from_slice_get file.times index valid c.time_is);
    } in
    let fails = Each-weaker _ _ (test-from_lack run valid) c.after
    (each_from_All (λ other. ¬ HasCell run valid other) c.after c.last) in
    let last : last_such (has_cell run valid) files ≡ Some file = ap (last_such (has_cell run valid)) c.split
    ∙ last_such-is (has_cell run valid) c.before file c.after (test-from_HasCell run valid file has) fails in
    rw last (ap (λ n. Some (file, n)) (index_is valid file.times index c.time_is c.first))

-- the cell of a run and a time, by its facts
pub cell_both : (files : List Loaded) (run valid : ℤ) (file : Loaded) (index : ℕ)
    → (cell files run valid ≡ Some (file, index)) ↔ IsCell files run valid file index
cell_both files run valid file index =
    (IsCell-from_cell files run valid file index, cell-from_IsCell files run valid file index)

pub none_from_no_cell : (files : List Loaded) (run valid : ℤ) → cell files run valid ≡ None
    → Each (λ file. ¬ HasCell run valid file) files
unfolding cell
none_from_no_cell files run valid e =
    Each-weaker _ _ (lack-from_test run valid) files
    (none_passes (has_cell run valid) files
    (mapped_none (λ (f : Loaded). (f, index_of_time valid f)) (last_such (has_cell run valid) files) e))

no_cell_from_none : (files : List Loaded) (run valid : ℤ) → Each (λ file. ¬ HasCell run valid file) files
    → cell files run valid ≡ None
unfolding cell
no_cell_from_none files run valid each = rw (last_such-none (has_cell run valid) files
    (Each-weaker _ _ (test-from_lack run valid) files each)) refl

-- there is no cell exactly where no file has one
pub no_cell_both : (files : List Loaded) (run valid : ℤ)
    → (cell files run valid ≡ None) ↔ All (λ file. ¬ HasCell run valid file) files
no_cell_both files run valid = (
  λ e. All-from_each (λ file. ¬ HasCell run valid file) files (none_from_no_cell files run valid e),
  λ all. no_cell_from_none files run valid (each_from_All (λ file. ¬ HasCell run valid file) files all),
)

-- a cell is of a file that is held
pub held-from_cell : (files : List Loaded) (run valid : ℤ) (file : Loaded) (index : ℕ)
    → IsCell files run valid file index → In file files
held-from_cell files run valid file index c = subst (In file) (sym c.split)
    (In-append_right file c.before (file ∷ c.after) (inl refl))

-- a run has a cell where a file of it has the time
pub cell-from_file : (files : List Loaded) (run valid : ℤ) (file : Loaded) → In file files → HasCell run valid file
    → IsSome (cell files run valid)
cell-from_file files run valid file held has = by_cell (cell files run valid) refl
  where
    by_cell : (o : Option (Loaded × ℕ)) → cell files run valid ≡ o → IsSome (cell files run valid)
    by_cell None is = absurd
        (Each-in (λ f. ¬ HasCell run valid f) file files (none_from_no_cell files run valid is) held has)
    by_cell (Some found) is = ap is_some is

-- The best run of some files and one more.
use Rattle.std.proofs.Common.{◌≡◌, Bool, true, false, List, [], ◌∷◌, ◌++◌, Option, Some, None, ℤ, ◌≤ℤ◌, refl, sym, ap, subst, ◌∙◌, inl, inr, arith}
use Rattle.std.specs.Prelude.{All, Any, is_some}
use Rattle.std.specs.List.{list_any}
use Rattle.std.proofs.lemmas.Bool.{true≢false}
use Rattle.std.proofs.lemmas.Int.{ints}
use Rattle.std.proofs.lemmas.List.Folds.{list_any-from_Any, Any-from_list_any}
use Rattle.fm_model.specs.declared.loaded.Loaded.{Loaded}
use Rattle.fm_model.specs.Cell.{best, has_least_offset, has_time, HasCell, HasLeastOffset, HasTimeFrom}
use Rattle.fm_model.proofs.BestLemmas.{IsBest-from_best, best-from_IsBest, best-from_file, no_best_both, offset_from_test, offset_test, value-from_some}
use Rattle.fm_model.proofs.CellLemmas.{has-in}
use Rattle.fm_model.proofs.Members.{Each-push, Each-in, Each-from_in, In-append_left, In-append_right, In-append_cases, Contains-from_in, in_from_Contains, All-from_each, each_from_All, Any-from_in, in_from_Any}

-- what the tests say
pub HasTimeFrom-from_tests : (valid : ℤ) (least : Option ℤ) (file : Loaded) → has_least_offset least file.run valid
    ≡ true → has_time valid file ≡ true
    → HasTimeFrom valid least file
unfolding has_time
HasTimeFrom-from_tests valid least file late has =
    (Contains-from_in valid file.times (has-in valid file.times has), offset_from_test least file.run valid late)

pub late-from : (valid : ℤ) (least : Option ℤ) (file : Loaded) → HasTimeFrom valid least file
    → has_least_offset least file.run valid ≡ true
late-from valid least file has = offset_test least file.run valid has.1

-- a run with a cell, early enough, lies at or before the best
below_best : (files : List Loaded) (valid : ℤ) (least : Option ℤ) (other : ℤ) → Any (HasCell other valid) files
    → HasLeastOffset least other valid
    → (run : ℤ) × (best files valid least ≡ Some run) × (other ≤ℤ run)
below_best files valid least other any late =
    let held = in_from_Any (HasCell other valid) files any in
    let run = value-from_some (best files valid least)
    (best-from_file files valid least held.0 held.1 (in_from_Contains valid held.0.times held.2.time)
    (subst (λ r. HasLeastOffset least r valid) (sym held.2.run_is) late)) in
    (run.0, run.1, (IsBest-from_best files valid least run.0 run.1).greatest other any late)

-- a run with a cell in some files and one more has it in those files, or in that file
in_pushed : {P : Type 0} (files : List Loaded) (file : Loaded) (valid : ℤ) (least : Option ℤ) (other : ℤ)
    → Any (HasCell other valid) (files ++ file ∷ [])
    → HasLeastOffset least other valid → (Any (HasCell other valid) files → P)
    → (file.run ≡ other → HasTimeFrom valid least file → P) → P
in_pushed {P} files file valid least other any late before own =
    let held = in_from_Any (HasCell other valid) (files ++ file ∷ []) any in
    elim (In-append_cases held.0 files (file ∷ []) held.1) [
      | inl earlier ↦ before (Any-from_in (HasCell other valid) held.0 files earlier held.2)
      | inr (inl same) ↦
          let has : HasCell other valid file = subst (HasCell other valid) (sym same) held.2 in
          own has.run_is (has.time, subst (λ r. HasLeastOffset least r valid) (sym has.run_is) late)
      | inr (inr none) ↦ absurd none
    ]

pushed_any : (files : List Loaded) (file : Loaded) (valid run : ℤ) → Any (HasCell run valid) files
    → Any (HasCell run valid) (files ++ file ∷ [])
pushed_any files file valid run any =
    let held = in_from_Any (HasCell run valid) files any in
    Any-from_in (HasCell run valid) held.0 (files ++ file ∷ []) (In-append_left held.0 files (file ∷ []) held.1) held.2

-- a file that lacks the time, or is of a run that lies too late, is passed over
pub best-passed_over : (files : List Loaded) (file : Loaded) (valid : ℤ) (least : Option ℤ)
    → ¬ HasTimeFrom valid least file
    → best (files ++ file ∷ []) valid least ≡ best files valid least
best-passed_over files file valid least lacks = by_best (best files valid least) refl
  where
    by_best : (o : Option ℤ) → best files valid least ≡ o → best (files ++ file ∷ []) valid least
        ≡ best files valid least
    by_best None is = (no_best_both (files ++ file ∷ []) valid least).1
        (All-from_each (λ f. ¬ HasTimeFrom valid least f) (files ++ file ∷ [])
        (Each-push (λ f. ¬ HasTimeFrom valid least f) files file
        (each_from_All (λ f. ¬ HasTimeFrom valid least f) files ((no_best_both files valid least).0 is)) lacks))
        ∙ sym is
    by_best (Some run) is =
        let found = IsBest-from_best files valid least run is in
        best-from_IsBest (files ++ file ∷ []) valid least run (record {
          has = pushed_any files file valid run found.has;
          late = found.late;
          greatest = λ other any late. in_pushed files file valid least other any late
              (λ before. found.greatest other before late)
              (λ own has. absurd (lacks has));
        }) ∙ sym is

-- a file of a run that isn't greater leaves the best run
pub best-kept : (files : List Loaded) (file : Loaded) (valid : ℤ) (least : Option ℤ) (run : ℤ)
    → best files valid least ≡ Some run → file.run ≤ℤ run
    → best (files ++ file ∷ []) valid least ≡ Some run
best-kept files file valid least run is le =
    let found = IsBest-from_best files valid least run is in
    best-from_IsBest (files ++ file ∷ []) valid least run (record {
      has = pushed_any files file valid run found.has;
      late = found.late;
      greatest = λ other any late. in_pushed files file valid least other any late
          (λ before. found.greatest other before late)
          (λ own has. subst (λ r. r ≤ℤ run) own le);
    })

-- a file with the time, of a run that is early enough and greater, is of the best run
pub best-raised : (files : List Loaded) (file : Loaded) (valid : ℤ) (least : Option ℤ) → HasTimeFrom valid least file
    → ((run : ℤ) → best files valid least ≡ Some run → run ≤ℤ file.run)
    → best (files ++ file ∷ []) valid least ≡ Some file.run
best-raised files file valid least has above = best-from_IsBest (files ++ file ∷ []) valid least file.run (record {
  has = Any-from_in (HasCell file.run valid) file (files ++ file ∷ [])
      (In-append_right file files (file ∷ []) (inl refl)) (record { run_is = refl; time = has.0 });
  late = has.1;
  greatest = λ other any late. in_pushed files file valid least other any late
      (λ before.
      let top = below_best files valid least other before late in
      let more : top.0 ≤ℤ file.run = above top.0 top.1 in
      let le : other ≤ℤ top.0 = top.2 in
      omega (arith, ints))
      (λ own later. at_most other file.run (sym own));
})
  where
    at_most : (a b : ℤ) → a ≡ b → a ≤ℤ b
    at_most a b e = omega (arith, ints)

-- of files that have a valid time some run is the best exactly where one of them keeps the least offset
pub some_best : (files : List Loaded) (valid : ℤ) (least : Option ℤ)
    → All (λ (file : Loaded). has_time valid file ≡ true) files
    → list_any (λ (file : Loaded). has_least_offset least file.run valid) files ≡ is_some (best files valid least)
unfolding has_time
some_best files valid least have = by_test (list_any late files) refl
  where
    late : Loaded → Bool
    late file = has_least_offset least file.run valid

    by_test : (b : Bool) → list_any late files ≡ b → list_any late files ≡ is_some (best files valid least)
    by_test true is =
        let file = in_from_Any (λ (f : Loaded). late f ≡ true) files (Any-from_list_any late files is) in
        let has = Each-in (λ (f : Loaded). has_time valid f ≡ true) file.0 files
        (each_from_All (λ (f : Loaded). has_time valid f ≡ true) files have) file.1 in
        is ∙ sym (best-from_file files valid least file.0 file.1 (has-in valid file.0.times has)
        (offset_from_test least file.0.run valid file.2))
    by_test false is =
        let none = (no_best_both files valid least).1 (All-from_each (λ f. ¬ HasTimeFrom valid least f) files
        (Each-from_in (λ f. ¬ HasTimeFrom valid least f) files (λ file held has.
        true≢false (sym (list_any-from_Any late files
        (Any-from_in (λ (f : Loaded). late f ≡ true) file files held (late-from valid least file has))) ∙ is)))) in
        is ∙ sym (ap is_some none)

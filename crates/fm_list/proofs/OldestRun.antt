-- Of some files the least run tells whether one of them keeps a least offset.
use Rattle.std.proofs.Common.{◌≡◌, ◌<◌, Bool, true, false, cond, List, [], ◌∷◌, length, Option, Some, None, ℤ, ◌-ℤ◌, refl, ap, ◌∙◌, arith}
use Rattle.std.specs.Prelude.{◌||◌, int_le, int_lt}
use Rattle.std.specs.List.{list_any}
use Rattle.std.proofs.lemmas.Int.{ints}
use Rattle.fm_model.specs.declared.loaded.Loaded.{Loaded}
use Rattle.fm_model.specs.Cell.{has_least_offset}
use Rattle.fm_list.specs.Found.{is_early, older, oldest_behind}

or_false : (b : Bool) → b ≡ (b || false)
or_false true = refl
or_false false = refl

or_assoc : (a b c : Bool) → ((a || b) || c) ≡ (a || (b || c))
or_assoc true b c = refl
or_assoc false b c = refl

-- the lesser of two runs lies as far before a valid time as one of them
lesser : (seconds valid before run : ℤ)
    → int_le seconds (valid -ℤ cond (int_lt run before) run before)
    ≡ (int_le seconds (valid -ℤ before) || int_le seconds (valid -ℤ run))
lesser seconds valid before run = by_test (int_lt run before) refl
  where
    or_is : (a b : Bool) → (a ≡ true → b ≡ true) → b ≡ (a || b)
    or_is true b more = more refl
    or_is false b more = refl

    or_was : (a b : Bool) → (b ≡ true → a ≡ true) → a ≡ (a || b)
    or_was true b more = refl
    or_was false true more = more refl
    or_was false false more = refl

    by_test : (b : Bool) → int_lt run before ≡ b → int_le seconds (valid -ℤ cond b run before)
        ≡ (int_le seconds (valid -ℤ before) || int_le seconds (valid -ℤ run))
    by_test true is = or_is (int_le seconds (valid -ℤ before)) (int_le seconds (valid -ℤ run))
        (λ early. grind (arith, ints, is, early))
    by_test false is = or_was (int_le seconds (valid -ℤ before)) (int_le seconds (valid -ℤ run))
        (λ early. grind (arith, ints, is, early))

early-older : (least : Option ℤ) (valid before run : ℤ) → has_least_offset least (older (Some before) run) valid
    ≡ (has_least_offset least before valid || has_least_offset least run valid)
unfolding has_least_offset
early-older None valid before run = refl
early-older (Some seconds) valid before run = lesser seconds valid before run

-- the least of a run and of those of some files
pub record IsOldest (least : Option ℤ) (valid : ℤ) (oldest : Option ℤ) (early : Bool) : Type 0 where
  pub run : ℤ
  pub is : oldest ≡ Some run
  pub keeps : has_least_offset least run valid ≡ early

oldest_of : (least : Option ℤ) (valid before : ℤ) (files : List Loaded) → IsOldest least valid
    (oldest_behind (Some before) files) (has_least_offset least before valid || list_any (is_early least valid) files)
oldest_of least valid before [] = record {
  run = before;
  is = refl;
  keeps = or_false (has_least_offset least before valid);
}
oldest_of least valid before (file ∷ files) =
    let more = oldest_of least valid (older (Some before) file.run) files in
    record {
      run = more.run;
      is = more.is;
      keeps = more.keeps
          ∙ ap (λ b. b || list_any (is_early least valid) files) (early-older least valid before file.run)
          ∙ or_assoc (has_least_offset least before valid) (has_least_offset least file.run valid)
          (list_any (is_early least valid) files);
    }

-- where there is a file
pub oldest-early : (least : Option ℤ) (valid : ℤ) (files : List Loaded) → 0 < length files
    → IsOldest least valid (oldest_behind None files) (list_any (is_early least valid) files)
oldest-early least valid [] some = absurd (omega (arith, some))
oldest-early least valid (file ∷ files) some = oldest_of least valid file.run files

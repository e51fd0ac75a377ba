-- An instant of a collection fits eight bytes.
use Rattle.std.proofs.Common.{◌≡◌, ◌≤ℤ◌, ℤ, Bool, true, false, not, List, All, Ok, refl, ap, arith}
use Rattle.std.specs.Prelude.{ℕ}
use Rattle.std.specs.List.{list_any}
use Rattle.std.specs.Ordering.{int_eq}
use Rattle.std.specs.Int.Signed.{le_z}
use Rattle.std.proofs.lemmas.Bool.Decides.{Decides-int_eq}
use Rattle.std.proofs.lemmas.Int.{ints}
use Rattle.std.proofs.lemmas.List.Elements.{All-weaker}
use Rattle.std.proofs.lemmas.List.Folds.{list_any_none}
use Rattle.fm_base.specs.Chain.{◌>>◌, refuse_if}
use Rattle.fm_model.specs.declared.loaded.LoadFault.TheVariants.{RunRange, TimeRange}
use Rattle.fm_model.specs.LoadTimes.{is_instant, run_in_range, time_in_range}

pub run_in_range-ok : (seconds : ℤ) → not (is_instant seconds) ≡ false → run_in_range seconds ≡ Ok seconds
unfolding run_in_range
run_in_range-ok seconds is = ap (λ bad. refuse_if bad (RunRange seconds) >> Ok seconds) is

pub time_in_range-ok : (k : ℕ) (seconds : ℤ) → not (is_instant seconds) ≡ false → time_in_range k seconds ≡ Ok seconds
unfolding time_in_range
time_in_range-ok k seconds is = ap (λ bad. refuse_if bad (TimeRange k seconds) >> Ok seconds) is

no : (b : Bool) → (b ≡ true → ⊥) → b ≡ false
no true other = absurd (other refl)
no false other = refl

clash : (instant latest earlier : ℤ) → le_z instant latest ≡ false → earlier ≤ℤ latest → earlier ≡ instant → ⊥
clash instant latest earlier later at_most same = grind (arith, ints)

differs : (instant latest earlier : ℤ) → le_z instant latest ≡ false → earlier ≤ℤ latest
    → int_eq earlier instant ≡ false
differs instant latest earlier later at_most =
    no (int_eq earlier instant)
    (λ same. clash instant latest earlier later at_most ((Decides-int_eq earlier instant).0 same))

-- an instant that is later than all is new
pub later_is_new : (found : List ℤ) (latest instant : ℤ) → All (λ earlier. earlier ≤ℤ latest) found
    → le_z instant latest ≡ false → list_any (λ earlier. int_eq earlier instant) found ≡ false
later_is_new found latest instant all later =
    list_any_none (λ earlier. int_eq earlier instant) found
    (All-weaker (λ earlier. earlier ≤ℤ latest) (λ earlier. int_eq earlier instant ≡ false)
    (λ earlier. differs instant latest earlier later) found all)

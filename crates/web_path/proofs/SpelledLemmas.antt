-- The path of each view is read as that view.
use Rattle.std.proofs.Common.{◌≡◌, ℕ, ◌-◌, true, false, List, [], ◌∷◌, ◌++◌, length, take, drop, codes, Option, Some, option_map, refl, sym, ap, subst, ◌∙◌, inl, inr, arith, append_assoc, ℤ, ◌+ℤ◌, ◌-ℤ◌}
use Rattle.std.proofs.Math.Seq.{take-append_seam, drop-append_seam}
use Rattle.std.proofs.lemmas.Bool.{cond-true, cond-false, cases_Bool}
use Rattle.std.proofs.lemmas.Int.{ints}
use Rattle.std.proofs.lemmas.List.{length-append}
use Rattle.std.specs.Fmt.{signed_decimal}
use Rattle.std.specs.Option.{option_and_then}
use Rattle.std.specs.Str.{bytes_eq}
use Rattle.nc_model.specs.Instant.{HasFourDigitYear, instant_text_of, text_of_day}
use Rattle.fm_base.proofs.ListLemmas.{same_bytes, bytes_same}
use Rattle.fm_base.proofs.OptionLemmas.{first_some}
use Rattle.fm_model.specs.declared.row.ViewName.{ViewName}
use Rattle.fm_model.specs.declared.row.ViewName.TheVariants.{Best, BestFrom, Run, Offset, Forecast}
use Rattle.fm_model.specs.declared.site.Site.{Site}
use Rattle.web_path.specs.Path.{Spelling, extended, basic, spelled, without_marks, root_of, best_front, run_front, offset_front, forecast_front, path_below, path_of, fits_i64, CanBeWritten}
use Rattle.web_path.specs.Reading.{before_s, seconds_of, moment_of, from_epoch, if_fits, seconds_after, moment_after, other_view, view_below, view_of}
use Rattle.web_path.proofs.FrontLemmas.{after-append}
use Rattle.web_path.proofs.MomentLemmas.{moment_of-spelled}
use Rattle.web_path.proofs.NumberLemmas.{if_fits-some, seconds_of-decimal}

-- ---- texts that end in different bytes differ

last : List ℕ → ℕ
last [] = 0
last (x ∷ []) = x
last (x ∷ y ∷ bytes) = last (y ∷ bytes)

last-append : (front : List ℕ) (x : ℕ) → last (front ++ x ∷ []) ≡ x
unfolding last
last-append [] x = refl
last-append (a ∷ []) x = refl
last-append (a ∷ b ∷ front) x = last-append (b ∷ front) x

last-appended : (first second : List ℕ) (x : ℕ) → last (first ++ (second ++ x ∷ [])) ≡ x
last-appended first second x = ap last (sym (append_assoc first second (x ∷ []))) ∙ last-append (first ++ second) x

-- a path that doesn't end in `d` isn't that of the best time series
not_best : (site : Site) (path : List ℕ) (x : ℕ) → last path ≡ x → (x ≡ 100 → ⊥)
    → bytes_eq path (site.name ++ codes "_best.ncd") ≡ false
not_best site path x ends other =
    elim (cases_Bool (bytes_eq path (site.name ++ codes "_best.ncd"))) [
      | inl best ↦ absurd (other (sym ends ∙ ap last (bytes_same _ _ best)
          ∙ last-appended site.name (codes "_best.nc") 100))
      | inr is ↦ is
    ]

last-spelled : (front : List ℕ) (spelling : Spelling) (t : ℤ) → last (front ++ spelled spelling t) ≡ 90
unfolding instant_text_of text_of_day
last-spelled front extended t = last-appended front (take 19 (instant_text_of t)) 90
last-spelled front basic t = last-appended front (take 15 (without_marks (instant_text_of t))) 90

last-seconds : (front : List ℕ) (z : ℤ) → last (front ++ signed_decimal z ++ codes "s") ≡ 115
last-seconds front z = last-append (front ++ signed_decimal z) 115

-- ---- what follows a front

before_s-append : (front : List ℕ) → before_s (front ++ codes "s") ≡ Some front
unfolding before_s
before_s-append front =
    let all : List ℕ = front ++ codes "s" in
    let n_is : length all - 1 ≡ length front = omega (arith, length-append front (codes "s")) in
    let end : drop (length all - 1) all ≡ codes "s" =
    ap (λ (n : ℕ). drop n all) n_is ∙ drop-append_seam front (codes "s") in
    let begin : take (length all - 1) all ≡ front =
    ap (λ (n : ℕ). take n all) n_is ∙ take-append_seam front (codes "s") in
    cond-true _ _ _ (same_bytes _ _ end) ∙ ap Some begin

seconds_after-append : (front : List ℕ) (z : ℤ) → fits_i64 z ≡ true
    → seconds_after front (front ++ signed_decimal z ++ codes "s") ≡ Some z
seconds_after-append front z fits =
    ap (λ (o : Option (List ℕ)). option_and_then seconds_of (option_and_then before_s o))
    (after-append front (signed_decimal z ++ codes "s") (front ++ signed_decimal z ++ codes "s")
    (append_assoc front (signed_decimal z) (codes "s")))
    ∙ ap (option_and_then seconds_of) (before_s-append (signed_decimal z))
    ∙ seconds_of-decimal z (signed_decimal z) fits refl

from_epoch-shifted : (site : Site) (z : ℤ) → fits_i64 z ≡ true → from_epoch site (site.epoch +ℤ z) ≡ Some z
unfolding from_epoch
from_epoch-shifted site z fits = subst (λ (n : ℤ). if_fits n ≡ Some z) (back site.epoch z) (if_fits-some z fits)
  where
    back : (epoch z : ℤ) → z ≡ (epoch +ℤ z) -ℤ epoch
    back epoch z = omega (arith, ints)

moment_after-append : (site : Site) (front : List ℕ) (spelling : Spelling) (z : ℤ) → fits_i64 z ≡ true
    → HasFourDigitYear (site.epoch +ℤ z)
    → moment_after site front (front ++ spelled spelling (site.epoch +ℤ z)) ≡ Some z
moment_after-append site front spelling z fits within =
    ap (λ (o : Option (List ℕ)). option_and_then (from_epoch site) (option_and_then moment_of o))
    (after-append front (spelled spelling (site.epoch +ℤ z)) _ refl)
    ∙ ap (option_and_then (from_epoch site)) (moment_of-spelled spelling (site.epoch +ℤ z) within)
    ∙ from_epoch-shifted site z fits

-- ---- views

other_view-path : (site : Site) (spelling : Spelling) (view : ViewName) → CanBeWritten site view → (view ≡ Best → ⊥)
    → other_view site (path_below site spelling view) ≡ Some view
unfolding other_view
other_view-path site spelling Best written other = absurd (other refl)
other_view-path site spelling (BestFrom z) written other =
    first_some _ _ _ (ap (option_map BestFrom) (seconds_after-append (best_front site) z written))
other_view-path site spelling (Run z) written other =
    first_some _ _ _
    (ap (option_map Run) (moment_after-append site (run_front site) spelling z written.0 written.1))
other_view-path site spelling (Offset z) written other =
    first_some _ _ _ (ap (option_map Offset) (seconds_after-append (offset_front site) z written))
other_view-path site spelling (Forecast z) written other =
    ap (option_map Forecast) (moment_after-append site (forecast_front site) spelling z written.0 written.1)

unless_best : (site : Site) (path : List ℕ) (view : ViewName)
    → bytes_eq path (site.name ++ codes "_best.ncd") ≡ false → other_view site path ≡ Some view
    → view_below site path ≡ Some view
unfolding view_below
unless_best site path view other is = cond-false _ _ _ other ∙ is

view_below-path : (site : Site) (spelling : Spelling) (view : ViewName) → CanBeWritten site view
    → view_below site (path_below site spelling view) ≡ Some view
unfolding view_below
view_below-path site spelling Best written = cond-true _ _ _ (same_bytes (site.name ++ codes "_best.ncd") _ refl)
view_below-path site spelling (BestFrom z) written =
    unless_best site (path_below site spelling (BestFrom z)) (BestFrom z)
    (not_best site (path_below site spelling (BestFrom z)) 115 (last-seconds (best_front site) z)
    (λ is. omega (arith, is)))
    (other_view-path site spelling (BestFrom z) written (λ is. cc))
view_below-path site spelling (Run z) written =
    unless_best site (path_below site spelling (Run z)) (Run z)
    (not_best site (path_below site spelling (Run z)) 90
    (last-spelled (run_front site) spelling (site.epoch +ℤ z)) (λ is. omega (arith, is)))
    (other_view-path site spelling (Run z) written (λ is. cc))
view_below-path site spelling (Offset z) written =
    unless_best site (path_below site spelling (Offset z)) (Offset z)
    (not_best site (path_below site spelling (Offset z)) 115 (last-seconds (offset_front site) z)
    (λ is. omega (arith, is)))
    (other_view-path site spelling (Offset z) written (λ is. cc))
view_below-path site spelling (Forecast z) written =
    unless_best site (path_below site spelling (Forecast z)) (Forecast z)
    (not_best site (path_below site spelling (Forecast z)) 90
    (last-spelled (forecast_front site) spelling (site.epoch +ℤ z)) (λ is. omega (arith, is)))
    (other_view-path site spelling (Forecast z) written (λ is. cc))

pub view_of-path : (site : Site) (spelling : Spelling) (view : ViewName) → CanBeWritten site view
    → view_of site (path_of site spelling view) ≡ Some view
unfolding view_of path_of
view_of-path site spelling view written =
    ap (option_and_then (view_below site)) (after-append (root_of site) (path_below site spelling view) _ refl)
    ∙ view_below-path site spelling view written

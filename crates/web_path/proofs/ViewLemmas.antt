-- What is read as a view is a path of that view.
use Rattle.std.proofs.Common.{◌≡◌, ℕ, ◌-◌, true, List, ◌++◌, length, take, drop, codes, Option, Some, None, option_map, refl, sym, ap, subst, ◌∙◌, inl, inr, arith, append_assoc, ℤ, ◌+ℤ◌, ◌-ℤ◌}
use Rattle.std.proofs.lemmas.Bool.{cond-true, cond-false, cases_Bool}
use Rattle.std.proofs.lemmas.Int.{ints}
use Rattle.std.proofs.lemmas.List.{take-append-drop}
use Rattle.std.proofs.lemmas.Option.{option_and_then_some, same_Some}
use Rattle.std.specs.Fmt.{signed_decimal}
use Rattle.std.specs.Option.{option_and_then, option_or}
use Rattle.std.specs.Str.{bytes_eq}
use Rattle.nc_model.specs.Instant.{HasFourDigitYear}
use Rattle.fm_base.proofs.ListLemmas.{bytes_same}
use Rattle.fm_base.proofs.OptionLemmas.{chosen}
use Rattle.fm_model.specs.declared.row.ViewName.{ViewName}
use Rattle.fm_model.specs.declared.row.ViewName.TheVariants.{Best, BestFrom, Run, Offset, Forecast}
use Rattle.fm_model.specs.declared.site.Site.{Site}
use Rattle.web_path.specs.Path.{Spelling, extended, spelled, root_of, best_front, run_front, offset_front, forecast_front, path_below, path_of, fits_i64, IsPathOf, CanBeWritten}
use Rattle.web_path.specs.Reading.{after, before_s, seconds_of, moment_of, from_epoch, seconds_after, moment_after, other_view, view_below, view_of}
use Rattle.web_path.proofs.FrontLemmas.{after-some}
use Rattle.web_path.proofs.MomentLemmas.{IsSpelled-moment_of}
use Rattle.web_path.proofs.NumberLemmas.{seconds_of-some, some-if_fits}

or_some : {A P : Type 0} (first second : Option A) (x : A) → option_or first second ≡ Some x
    → (first ≡ Some x → P) → (second ≡ Some x → P) → P
or_some None second x is by_first by_second = by_second is
or_some (Some y) second x is by_first by_second = by_first is

map_some : {A B P : Type 0} (f : A → B) (o : Option A) (y : B) → option_map f o ≡ Some y
    → ((x : A) → o ≡ Some x → f x ≡ y → P) → P
map_some f None y is then = absurd cc
map_some f (Some x) y is then = then x refl (same_Some _ _ is)

before_s-some : (text front : List ℕ) → before_s text ≡ Some front → text ≡ front ++ codes "s"
unfolding before_s
before_s-some text front is =
    let n : ℕ = length text - 1 in
    let there = chosen (bytes_eq (drop n text) (codes "s")) (Some (take n text)) front is in
    sym (take-append-drop n text)
    ∙ ap (λ (l : List ℕ). take n text ++ l) (bytes_same (drop n text) (codes "s") there.0)
    ∙ ap (λ (l : List ℕ). l ++ codes "s") (same_Some _ _ there.1)

-- the path is this front, the decimal of the number and `s`
record IsSeconds (front path : List ℕ) (z : ℤ) : Type 0 where
  path_is : path ≡ front ++ signed_decimal z ++ codes "s"
  fits : fits_i64 z ≡ true

seconds_after-some : (front path : List ℕ) (z : ℤ) → seconds_after front path ≡ Some z → IsSeconds front path z
seconds_after-some front path z is =
    option_and_then_some seconds_of (option_and_then before_s (after front path)) z is
    (λ (text : List ℕ) text_is number. option_and_then_some before_s (after front path) text text_is
    (λ (rest : List ℕ) rest_is s_is. record {
      path_is = after-some front path rest rest_is
          ∙ ap (λ (l : List ℕ). front ++ l)
          (before_s-some rest text s_is ∙ ap (λ (l : List ℕ). l ++ codes "s") (seconds_of-some text z number).0)
          ∙ sym (append_assoc front (signed_decimal z) (codes "s"));
      fits = (seconds_of-some text z number).1;
    }))

-- the path is this front and the instant of the number, which can be written
record IsMoment (site : Site) (front path : List ℕ) (z : ℤ) : Type 0 where
  spelling : Spelling
  path_is : path ≡ front ++ spelled spelling (site.epoch +ℤ z)
  written : (fits_i64 z ≡ true) × HasFourDigitYear (site.epoch +ℤ z)

from_epoch-some : (site : Site) (t z : ℤ) → from_epoch site t ≡ Some z → (t ≡ site.epoch +ℤ z) × (fits_i64 z ≡ true)
unfolding from_epoch
from_epoch-some site t z is =
    let fits = some-if_fits (t -ℤ site.epoch) z is in
    (shifted t site.epoch ∙ ap (λ (n : ℤ). site.epoch +ℤ n) fits.0, fits.1)
  where
    shifted : (t epoch : ℤ) → t ≡ epoch +ℤ (t -ℤ epoch)
    shifted t epoch = omega (arith, ints)

moment_after-some : (site : Site) (front path : List ℕ) (z : ℤ) → moment_after site front path ≡ Some z
    → IsMoment site front path z
moment_after-some site front path z is =
    option_and_then_some (from_epoch site) (option_and_then moment_of (after front path)) z is
    (λ (t : ℤ) t_is z_is. option_and_then_some moment_of (after front path) t t_is
    (λ (rest : List ℕ) rest_is moment_is.
    let at = IsSpelled-moment_of rest t moment_is in
    let shift = from_epoch-some site t z z_is in
    record {
      spelling = at.spelling;
      path_is = after-some front path rest rest_is
          ∙ ap (λ (l : List ℕ). front ++ l) (at.text_is ∙ ap (spelled at.spelling) shift.0);
      written = (shift.1, subst HasFourDigitYear shift.0 at.within);
    }))

-- the path is below the root and of this view, in one of the spellings
record IsBelow (site : Site) (path : List ℕ) (view : ViewName) : Type 0 where
  spelling : Spelling
  path_is : path ≡ path_below site spelling view
  written : CanBeWritten site view

other_view-some : (site : Site) (path : List ℕ) (view : ViewName) → other_view site path ≡ Some view
    → IsBelow site path view
unfolding other_view
other_view-some site path view is =
    or_some _ _ view is
    (λ first. map_some BestFrom (seconds_after (best_front site) path) view first (λ (z : ℤ) z_is view_is.
    let at = seconds_after-some (best_front site) path z z_is in
    subst (IsBelow site path) view_is (record { spelling = extended; path_is = at.path_is; written = at.fits })))
    (λ others. or_some _ _ view others
    (λ first. map_some Run (moment_after site (run_front site) path) view first (λ (z : ℤ) z_is view_is.
    let at = moment_after-some site (run_front site) path z z_is in
    subst (IsBelow site path) view_is
    (record { spelling = at.spelling; path_is = at.path_is; written = at.written })))
    (λ others. or_some _ _ view others
    (λ first. map_some Offset (seconds_after (offset_front site) path) view first (λ (z : ℤ) z_is view_is.
    let at = seconds_after-some (offset_front site) path z z_is in
    subst (IsBelow site path) view_is (record { spelling = extended; path_is = at.path_is; written = at.fits })))
    (λ last. map_some Forecast (moment_after site (forecast_front site) path) view last (λ (z : ℤ) z_is view_is.
    let at = moment_after-some site (forecast_front site) path z z_is in
    subst (IsBelow site path) view_is
    (record { spelling = at.spelling; path_is = at.path_is; written = at.written })))))

or_none : {A : Type 0} (first second : Option A) → first ≡ None → second ≡ None → option_or first second ≡ None
or_none first second a b = ap (λ o. option_or o second) a ∙ b

-- a path after none of the fronts
pub no_view : (site : Site) (path name : List ℕ) → name ≡ site.name
    → None ≡ seconds_after (codes "best/" ++ name ++ codes "_BestGE_") path
    → None ≡ moment_after site (run_front site) path
    → None ≡ seconds_after (codes "offset/" ++ name ++ codes "_Offset_") path
    → None ≡ moment_after site (forecast_front site) path → None ≡ other_view site path
unfolding other_view
no_view site path name same best run offset forecast =
    let no_best : seconds_after (best_front site) path ≡ None =
    subst (λ (n : List ℕ). seconds_after (codes "best/" ++ n ++ codes "_BestGE_") path ≡ None) same (sym best) in
    let no_offset : seconds_after (offset_front site) path ≡ None =
    subst (λ (n : List ℕ). seconds_after (codes "offset/" ++ n ++ codes "_Offset_") path ≡ None) same (sym offset) in
    sym (or_none _ _ (ap (option_map BestFrom) no_best)
    (or_none _ _ (ap (option_map Run) (sym run))
    (or_none _ _ (ap (option_map Offset) no_offset) (ap (option_map Forecast) (sym forecast)))))

view_below-some : (site : Site) (path : List ℕ) (view : ViewName) → view_below site path ≡ Some view
    → IsBelow site path view
unfolding view_below
view_below-some site path view is =
    elim (cases_Bool (bytes_eq path (site.name ++ codes "_best.ncd"))) [
      | inl best ↦ subst (IsBelow site path) (same_Some Best view (sym (cond-true _ _ _ best) ∙ is))
          (record { spelling = extended; path_is = bytes_same _ _ best; written = tt })
      | inr other ↦ other_view-some site path view (sym (cond-false _ _ _ other) ∙ is)
    ]

pub view_of-some : (site : Site) (path : List ℕ) (view : ViewName) → view_of site path ≡ Some view
    → IsPathOf site path view
unfolding view_of path_of
view_of-some site path view is =
    option_and_then_some (view_below site) (after (root_of site) path) view is
    (λ (below : List ℕ) below_is view_is.
    let at = view_below-some site below view view_is in
    record {
      spelling = at.spelling;
      path_is = after-some (root_of site) path below below_is ∙ ap (λ (l : List ℕ). root_of site ++ l) at.path_is;
      written = at.written;
    })

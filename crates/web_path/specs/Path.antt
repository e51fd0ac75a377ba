-- The path of each view of a collection (THREDDS Data Server, Forecast Model Run Collections).
use Rattle.std.specs.Prelude.{◌≡◌, ℕ, ◌^◌, Bool, true, nat_lt, List, ◌++◌, take, drop, codes, ℤ, pos, negsuc, ◌+ℤ◌, ⊤}
use Rattle.std.specs.Fmt.{signed_decimal}
use Rattle.nc_model.specs.Instant.{HasFourDigitYear, instant_text_of}
use Rattle.fm_model.specs.declared.row.ViewName.{ViewName}
use Rattle.fm_model.specs.declared.row.ViewName.TheVariants.{Best, BestFrom, Run, Offset, Forecast}
use Rattle.fm_model.specs.declared.site.Site.{Site}

-- an instant is written with `-` and `:`, or without them (ISO 8601, extended and basic format)
pub data Spelling : Type 0 where
  extended basic : Spelling

-- `YYYYMMDDThhmmssZ`, from `YYYY-MM-DDThh:mm:ssZ`
abbrev pub without_marks : List ℕ → List ℕ
without_marks text = take 4 text ++ take 2 (drop 5 text) ++ take 5 (drop 8 text) ++ take 2 (drop 14 text)
    ++ take 3 (drop 17 text)

-- the text of an instant
abbrev pub spelled : Spelling → ℤ → List ℕ
spelled extended t = instant_text_of t
spelled basic t = without_marks (instant_text_of t)

-- what stands before the path of each view of a collection
abbrev pub root_of : Site → List ℕ
root_of site = codes "/thredds/dodsC/" ++ site.name ++ codes "/"

-- what stands in the path of a view with a number or an instant, between the root and that
abbrev pub best_front : Site → List ℕ
best_front site = codes "best/" ++ site.name ++ codes "_BestGE_"

abbrev pub run_front : Site → List ℕ
run_front site = codes "runs/" ++ site.name ++ codes "_RUN_"

abbrev pub offset_front : Site → List ℕ
offset_front site = codes "offset/" ++ site.name ++ codes "_Offset_"

abbrev pub forecast_front : Site → List ℕ
forecast_front site = codes "forecast/" ++ site.name ++ codes "_ConstantForecast_"

-- the path of a view below the root
abbrev pub path_below : Site → Spelling → ViewName → List ℕ
path_below site spelling Best = site.name ++ codes "_best.ncd"
path_below site spelling (BestFrom least) = best_front site ++ signed_decimal least ++ codes "s"
path_below site spelling (Run run) = run_front site ++ spelled spelling (site.epoch +ℤ run)
path_below site spelling (Offset offset) = offset_front site ++ signed_decimal offset ++ codes "s"
path_below site spelling (Forecast valid) = forecast_front site ++ spelled spelling (site.epoch +ℤ valid)

-- the path of a view
unfoldable pub path_of : Site → Spelling → ViewName → List ℕ
path_of site spelling view = root_of site ++ path_below site spelling view

-- the number fits 64 bits in two's complement
abbrev pub fits_i64 : ℤ → Bool
fits_i64 (pos n) = nat_lt n (2 ^ 63)
fits_i64 (negsuc n) = nat_lt n (2 ^ 63)

-- the view has a path: its number fits 64 bits, and its instant is of the years 0 to 9999
abbrev pub CanBeWritten : Site → ViewName → Type 0
CanBeWritten site Best = ⊤
CanBeWritten site (BestFrom least) = fits_i64 least ≡ true
CanBeWritten site (Run run) = (fits_i64 run ≡ true) × HasFourDigitYear (site.epoch +ℤ run)
CanBeWritten site (Offset offset) = fits_i64 offset ≡ true
CanBeWritten site (Forecast valid) = (fits_i64 valid ≡ true) × HasFourDigitYear (site.epoch +ℤ valid)

-- the path is of this view, in one of the spellings
pub record IsPathOf (site : Site) (path : List ℕ) (view : ViewName) : Type 0 where
  pub spelling : Spelling
  pub path_is : path ≡ path_of site spelling view
  pub written : CanBeWritten site view

-- Which view a path is read as.
use Rattle.std.specs.Prelude.{ℕ, ◌-◌, ◌==◌, if◌then◌else◌, List, ◌++◌, length, take, drop, codes, Option, Some, None, option_map, ℤ, pos, neg_ℤ, ◌-ℤ◌}
use Rattle.std.specs.Fmt.{signed_decimal}
use Rattle.std.specs.Option.{option_and_then, option_or}
use Rattle.std.specs.Str.{bytes_eq}
use Rattle.std.specs.Str.Parse.{digits_value, starts_with_minus}
use Rattle.nc_model.specs.Instant.{instant_of}
use Rattle.fm_model.specs.declared.row.ViewName.{ViewName}
use Rattle.fm_model.specs.declared.row.ViewName.TheVariants.{Best, BestFrom, Run, Offset, Forecast}
use Rattle.fm_model.specs.declared.site.Site.{Site}
use Rattle.web_path.specs.Path.{fits_i64, root_of, best_front, run_front, offset_front, forecast_front}

-- what follows this front in a text
abbrev pub after : List ℕ → List ℕ → Option (List ℕ)
after front text = if bytes_eq (take (length front) text) front then Some (drop (length front) text) else None

-- what stands before a last `s`
unfoldable pub before_s : List ℕ → Option (List ℕ)
before_s text = let n = length text - 1 in if bytes_eq (drop n text) (codes "s") then Some (take n text) else None

-- the number where it fits
unfoldable pub if_fits : ℤ → Option ℤ
if_fits z = if fits_i64 z then Some z else None

-- the number that digits write, with `-` before them or not
unfoldable pub signed_number : List ℕ → ℤ
signed_number text = if starts_with_minus text then neg_ℤ (pos (digits_value 10 (drop 1 text)))
    else pos (digits_value 10 text)

-- the number of 64 bits of which a text is the decimal, without leading zeros, `+` or `-0`
unfoldable pub seconds_of : List ℕ → Option ℤ
seconds_of text = if bytes_eq text (signed_decimal (signed_number text)) then if_fits (signed_number text) else None

-- `YYYY-MM-DDThh:mm:ssZ`, from `YYYYMMDDThhmmssZ`
unfoldable pub with_marks : List ℕ → List ℕ
with_marks text = take 4 text ++ codes "-" ++ take 2 (drop 4 text) ++ codes "-" ++ take 5 (drop 6 text) ++ codes ":"
    ++ take 2 (drop 11 text) ++ codes ":" ++ take 3 (drop 13 text)

-- the instant that a text writes in either spelling
unfoldable pub moment_of : List ℕ → Option ℤ
moment_of text = if length text == 16 then instant_of (with_marks text) else instant_of text

-- an instant as seconds from a collection's epoch
unfoldable pub from_epoch : Site → ℤ → Option ℤ
from_epoch site t = if_fits (t -ℤ site.epoch)

-- the number of seconds that is all of a path after this front, but for an `s` at the end
abbrev pub seconds_after : List ℕ → List ℕ → Option ℤ
seconds_after front path = option_and_then seconds_of (option_and_then before_s (after front path))

-- the instant that is all of a path after this front, as seconds from the epoch
abbrev pub moment_after : Site → List ℕ → List ℕ → Option ℤ
moment_after site front path = option_and_then (from_epoch site) (option_and_then moment_of (after front path))

-- the view, other than the best time series, that a path below the root is of
unfoldable pub other_view : Site → List ℕ → Option ViewName
other_view site path = option_or (option_map BestFrom (seconds_after (best_front site) path))
    (option_or (option_map Run (moment_after site (run_front site) path))
    (option_or (option_map Offset (seconds_after (offset_front site) path))
    (option_map Forecast (moment_after site (forecast_front site) path))))

-- the view that a path below the root is of
unfoldable pub view_below : Site → List ℕ → Option ViewName
view_below site path = if bytes_eq path (site.name ++ codes "_best.ncd") then Some Best else other_view site path

-- the view that a path is of
unfoldable pub view_of : Site → List ℕ → Option ViewName
view_of site path = option_and_then (view_below site) (after (root_of site) path)

-- The collection that is made, and the names of its files.
use Rattle.std.specs.Prelude.{ℕ, ◌+◌, ◌*◌, List, ◌++◌, take, drop, codes, ℤ, pos}
use Rattle.nc_model.specs.Instant.{instant_text_of}
use Rattle.fm_model.specs.declared.site.Site.{Site}

-- the collection `load`, whose epoch is 2020-01-01T00:00:00Z, with `load_` before the moment in the name of a file
abbrev pub made_site : Site
made_site = record { name = codes "load"; epoch = pos 1577836800; mark = codes "load_" }

-- `yyyyMMdd_HHmm`, from `YYYY-MM-DDThh:mm:ssZ`
abbrev pub as_stamp : List ℕ → List ℕ
as_stamp text = take 4 text ++ take 2 (drop 5 text) ++ take 2 (drop 8 text) ++ codes "_" ++ take 2 (drop 11 text)
    ++ take 2 (drop 14 text)

-- the run time of file k, in Unix seconds: six hours from each file to the next
abbrev pub run_time : ℕ → ℤ
run_time k = pos (1577836800 + 21600 * k)

-- the name of file k: `load_`, its run time and `.nc`
unfoldable pub made_name : ℕ → List ℕ
made_name k = codes "load_" ++ as_stamp (instant_text_of (run_time k)) ++ codes ".nc"

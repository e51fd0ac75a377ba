-- Which collection's root a target is below.
use Rattle.std.specs.Prelude.{ℕ, List, take, Bool, is_some}
use Rattle.percent_encoding.specs.Percent.{percent_decode}
use Rattle.fm_model.specs.declared.site.Site.{Site}
use Rattle.web_path.specs.Path.{root_of}
use Rattle.web_path.specs.Reading.{after}
use Rattle.web_path.specs.Target.{path_and_query, path_text}

-- whether the path of a target is below the root of a collection
unfoldable pub is_below : List ℕ → Site → Bool
is_below target site = is_some (after (root_of site) (path_text (path_and_query target)))

-- The site of a collection.
use Rattle.std.specs.Prelude.{ℕ, List, codes, Option, Some, pos}
use Rattle.clap.specs.Walk.{Row, first_of}
use Rattle.fm_model.specs.declared.site.Site.{Site}
use Rattle.srv_words.specs.Reads.{◌>>=◌, if_so}
use Rattle.srv_words.specs.Values.{default_mark, epoch_of, is_collection_name, mark_of}

-- the name that a collection gets
unfoldable pub name_of : List Row → Option (List ℕ)
name_of rows = do
  name ← first_of (codes "name") rows
  if_so (is_collection_name name) name

-- the site of a collection: its name, its epoch and its mark
unfoldable pub site_of : List Row → Option Site
site_of rows = do
  name ← name_of rows
  epoch ← epoch_of (first_of (codes "epoch") rows)
  mark ← mark_of name (first_of (codes "mark") rows)
  Some (record { name = name; epoch = epoch; mark = mark })

-- the site of a collection of this name, with the default epoch and the default mark
abbrev pub default_site : List ℕ → Site
default_site name = record { name = name; epoch = pos 1_577_836_800; mark = default_mark name }

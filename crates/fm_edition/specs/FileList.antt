-- The files by an instant, as they stand in a page.
use Rattle.std.specs.Prelude.{◌∷◌, List, []}
use Rattle.fm_model.specs.declared.loaded.Loaded.{Loaded}
use Rattle.fm_edition.specs.declared.maps.file_list.Form.{Form}
use Rattle.fm_edition.specs.declared.maps.file_list.Form.TheVariants.{One, Many}

-- a file alone, or several files
abbrev pub files_in : Form → List Loaded
files_in (One file) = file ∷ []
files_in (Many files) = files

-- The command that writes a view as a netCDF file.
use Rattle.std.specs.Prelude.{ℕ, List, ◌++◌, length, codes, Result, Ok}
use Rattle.fm_base.specs.Chain.{◌>>=◌, fault_as}
use Rattle.fm_model.specs.declared.site.Site.{Site}
use Rattle.fm_edition.specs.Held.{Held}
use Rattle.dev_traits.specs.World.{WorldShown}
use Rattle.pub_look.specs.History.{History}
use Rattle.dap_model.specs.declared.projection.Projected.{Projected}
use Rattle.fm_dataset.specs.Declarations.{decls_of}
use Rattle.fm_dataset.specs.Values.{Shown}
use Rattle.web_path.specs.declared.target.Target.{Target}
use Rattle.web_path.specs.Path.{root_of}
use Rattle.web_path.specs.Target.{target_of}
use Rattle.dap_reply.specs.declared.fault.DapFault.{DapFault}
use Rattle.dap_reply.specs.declared.fault.DapFault.TheVariants.{Path}
use Rattle.dap_reply.specs.Body.{projected_of, some_shown}
use Rattle.nc_writer.specs.Code.{write_code}
use Rattle.nc_writer.specs.File.{bytes_of, netcdf_of}
use Rattle.srv_words.specs.declared.job.Stepping.{Stepping}
use Rattle.srv_alone.specs.declared.end.End.{End}
use Rattle.srv_views.specs.declared.picked.ExtractAsk.{ExtractAsk}
use Rattle.srv_views.specs.Views.{asked_in, RunsView}

-- a dataset, and what is sent of it
pub record Pick : Type 0 where
  pub source : Shown
  pub projected : Projected

-- the target that asks for the data of a view, by its path below that of the collection
unfoldable pub target_text : Site → List ℕ → List ℕ
target_text site view = root_of site ++ view ++ codes ".dods"

-- what is sent of a dataset for a constraint
abbrev pub pick_of : List ℕ → Shown → Result Pick DapFault
pick_of constraint source = do
  projected ← projected_of (decls_of source.proto (length source.rows)) constraint
  Ok (record { source = source; projected = projected })

-- the dataset of a target, and what is sent of it for a constraint
abbrev pub picked_at : Held → List ℕ → Target → Result Pick DapFault
picked_at held constraint target = do
  source ← some_shown held.proto held.files target
  pick_of constraint source

-- the view that is asked for of a collection and what is sent of it, or the first fault
unfoldable pub picked_of : Held → ExtractAsk → Result Pick DapFault
picked_of held ask = do
  target ← fault_as Path (target_of held.proto.site (target_text held.proto.site ask.view))
  picked_at held ask.constraint target

-- what is sent after the operations, or the number of the first fault
unfoldable pub picked_in : ExtractAsk → History → Result Pick ℕ
picked_in ask = asked_in (λ held. picked_of held ask)

-- the bytes of the netCDF file of what is sent, in a version of the format, or the number of the first fault
unfoldable pub file_bytes : ℕ → Pick → Result (List ℕ) ℕ
file_bytes version pick = do
  file ← fault_as write_code (netcdf_of pick.source pick.projected.sent version)
  Ok (bytes_of file)

-- the bytes of the view that is asked for as a netCDF file, or the number of the first fault
unfoldable pub extract_bytes : ExtractAsk → History → Result (List ℕ) ℕ
extract_bytes ask history = do
  pick ← picked_in ask history
  file_bytes ask.version pick

-- A run of `extract` ended so, and was reported.
abbrev pub RunsExtract : Stepping → ExtractAsk → End → WorldShown → WorldShown → Type 0
RunsExtract stepping ask end world world' = RunsView (codes "extract") (extract_bytes ask) stepping end world world'

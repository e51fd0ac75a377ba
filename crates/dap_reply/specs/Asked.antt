-- What a reader wants to know of a request: that nothing is wrong with it.
use Rattle.std.specs.Prelude.{◌≡◌, ◌≢◌, List, [], length, Ok}
use Rattle.fm_model.specs.declared.loaded.Loaded.{Loaded}
use Rattle.fm_model.specs.declared.proto.Proto.{Proto}
use Rattle.fm_model.specs.Rows.{rows}
use Rattle.dap_model.specs.declared.projection.Clause.{Clause}
use Rattle.dap_model.specs.declared.projection.Projected.{Projected}
use Rattle.dap_model.specs.ConstraintReading.{constraint_of}
use Rattle.dap_model.specs.Projection.{projection_of}
use Rattle.fm_dataset.specs.Declarations.{decls_of}
use Rattle.fm_dataset.specs.Values.{Shown}
use Rattle.web_frame.specs.Items.{Item}
use Rattle.web_path.specs.declared.target.Target.{Target}
use Rattle.dap_reply.specs.Reply.{target_wanted}

-- an item asks for a view that has rows
pub record AsksForView (proto : Proto) (files : List Loaded) (item : Item) (target : Target) : Type 0 where
  pub target_is : target_wanted proto.site item ≡ Ok target
  pub some : rows files target.view ≢ []

-- a target's constraint is these clauses, for which this is sent
pub record IsProjected (proto : Proto) (files : List Loaded) (target : Target) (clauses : List Clause)
    (projected : Projected) : Type 0 where
  pub clauses_are : constraint_of target.constraint ≡ Ok clauses
  pub projected_is : projection_of (decls_of proto (length (rows files target.view))) clauses ≡ Ok projected

-- what the dataset of a target shows
abbrev pub shown_of : Proto → List Loaded → Target → Shown
shown_of proto files target =
    record { proto = proto; rows = rows files target.view; view = target.view; label = target.label }

-- The requests that get data.
use Rattle.std.specs.Prelude.{◌≡◌, ◌≢◌, ◌⊎◌, ◌≤◌, ℕ, List, [], length, false}
use Rattle.fm_model.specs.declared.loaded.Loaded.{Loaded}
use Rattle.fm_model.specs.declared.proto.Proto.{Proto}
use Rattle.fm_model.specs.declared.site.Site.{Site}
use Rattle.fm_model.specs.Rows.{rows}
use Rattle.dap_model.specs.declared.projection.Clause.{Clause}
use Rattle.dap_model.specs.declared.projection.Projected.{Projected}
use Rattle.dap_das.specs.AttributeText.{das_of}
use Rattle.web_frame.specs.declared.request.Method.TheVariants as methods
use Rattle.web_frame.specs.declared.request.Request.{Request}
use Rattle.web_frame.specs.Items.{request, Item}
use Rattle.web_path.specs.declared.target.Service.{Service}
use Rattle.web_path.specs.declared.target.Service.TheVariants.{Dds, Das, Dods}
use Rattle.web_path.specs.declared.target.Target.{Target}
use Rattle.web_path.specs.Url.{IsTargetOf}
use Rattle.dap_reply.specs.declared.body.Body.{Body}
use Rattle.dap_reply.specs.declared.body.BodyKind.TheVariants.{Structure, Attributes}
use Rattle.dap_reply.specs.Asked.{shown_of, IsProjected}
use Rattle.dap_reply.specs.Body.{data_body, structure_of, text_body, MAX_BODY}
use Rattle.dap_plan.specs.Parts.{bytes_of}

-- an item is a request by GET or HEAD, without a body, whose target asks for this
pub record Requests (site : Site) (item : Item) (target : Target) : Type 0 where
  pub said : Request
  pub text : List ℕ
  pub item_is : item ≡ request said text
  pub method_is : (said.method ≡ methods.Get) ⊎ (said.method ≡ methods.Head)
  pub no_body : said.has_body ≡ false
  pub asks : IsTargetOf site text target

-- the structure text that a target asks for over a collection, and its data: the constraint is one, and names what is
-- there
pub record IsStructure (proto : Proto) (files : List Loaded) (target : Target) (body : Body) : Type 0 where
  pub clauses : List Clause
  pub projected : Projected
  pub is : IsProjected proto files target clauses projected
  pub body_is : body ≡ text_body Structure (structure_of target projected)

pub record IsData (proto : Proto) (files : List Loaded) (target : Target) (body : Body) : Type 0 where
  pub clauses : List Clause
  pub projected : Projected
  pub is : IsProjected proto files target clauses projected
  pub body_is : body ≡ data_body (shown_of proto files target) target projected

-- the body that a target asks for by a service
abbrev pub IsBodyBy : Service → Proto → List Loaded → Target → Body → Type 0
IsBodyBy Dds proto files target body = IsStructure proto files target body
IsBodyBy Das proto files target body = body ≡ text_body Attributes (das_of proto target.view)
IsBodyBy Dods proto files target body = IsData proto files target body

-- over a collection, a request asks for this body of a view that has rows, and the body is within the limit
pub record IsWellFormed (proto : Proto) (files : List Loaded) (item : Item) (target : Target) (body : Body) : Type 0
  where
    pub requests : Requests proto.site item target
    pub some : rows files target.view ≢ []
    pub body_is : IsBodyBy target.service proto files target body
    pub few : length (bytes_of body.bytes) ≤ MAX_BODY

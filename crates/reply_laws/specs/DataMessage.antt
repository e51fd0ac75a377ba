-- The message of a data reply: the label of its target, what is declared of what is sent, and the bits or the text at
-- each index that is sent.
use Rattle.std.specs.Prelude.{ℕ, List, [], map, All}
use Rattle.std.specs.Option.{option_map_or}
use Rattle.nc_model.specs.Format.{IsBytes}
use Rattle.fm_model.specs.declared.loaded.Loaded.{Loaded}
use Rattle.fm_edition.specs.Held.{Held, IsEdition}
use Rattle.fm_dataset.specs.Values.{Shown}
use Rattle.dap_model.specs.declared.declaration.Array.{Array}
use Rattle.dap_model.specs.declared.declaration.DapKind.{DapKind}
use Rattle.dap_model.specs.declared.declaration.DapKind.TheVariants.{Text}
use Rattle.dap_model.specs.declared.projection.Clause.{Clause}
use Rattle.dap_model.specs.declared.projection.Projected.{Projected}
use Rattle.dap_model.specs.declared.projection.Sent.{Sent}
use Rattle.dap_model.specs.declared.projection.Slab.{Slab}
use Rattle.dap_model.specs.Box.{box_of}
use Rattle.dap_xdr.specs.Content.{array_in, Content}
use Rattle.dap_xdr.specs.Datasets.{content_of}
use Rattle.dap_plan.specs.Parts.{bytes_of}
use Rattle.dap_client.specs.declared.message.Column.{Column}
use Rattle.dap_client.specs.declared.message.Column.TheVariants.{Numbers, Texts}
use Rattle.dap_client.specs.declared.message.Message.{Message}
use Rattle.dap_client.specs.Message.{Spells}
use Rattle.web_path.specs.declared.target.Target.{Target}
use Rattle.dap_reply.specs.declared.body.Body.{Body}
use Rattle.dap_reply.specs.Asked.{shown_of, IsProjected}

-- the bits or the texts at the index lists of slabs
abbrev pub column_at : DapKind → List Slab → (List ℕ → ℕ) → (List ℕ → List ℕ) → Column
column_at Text slabs bits words = Texts (map words (box_of slabs))
column_at kind slabs bits words = Numbers (map bits (box_of slabs))

-- the column of a part that is sent, by its array
abbrev pub column_of : Content → Sent → Array → Column
column_of content sent array =
    column_at array.kind sent.slabs (content.bits sent.decl sent.part) (content.text sent.decl sent.part)

-- the column of a part that is sent
unfoldable pub column_sent : Content → Sent → Column
column_sent content sent =
    option_map_or (column_of content sent) (array_in content.decls sent.decl sent.part) (Numbers [])

-- the message of what is sent
abbrev pub message_sent : Shown → Target → Projected → Message
message_sent shown target projected = record {
  label = target.label;
  decls = projected.decls;
  columns = map (column_sent (content_of shown)) projected.sent;
}

-- the prototype of an edition is that of some bytes of a file, and the contents of its files are bytes too
pub record IsOfBytes (held : Held) : Type 0 where
  pub edition : IsEdition held
  pub bytes_are : IsBytes edition.prototype.bytes
  pub contents : All (λ (file : Loaded). IsBytes file.content) held.files

-- a body spells the message of what a target asks for over an edition
pub record SaysData (held : Held) (target : Target) (body : Body) : Type 0 where
  pub clauses : List Clause
  pub projected : Projected
  pub asked : IsProjected held.proto held.files target clauses projected
  pub spelled : Spells (bytes_of body.bytes) (message_sent (shown_of held.proto held.files target) target projected)

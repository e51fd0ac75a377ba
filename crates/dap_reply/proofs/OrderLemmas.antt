-- Of a collection: without rows, nothing else is wrong, whatever the constraint; then the constraint by itself, and
-- then the constraint for the dataset.
use Rattle.std.proofs.Common.{◌≡◌, List, [], length, Err, refl, ap, ◌∙◌}
use Rattle.fm_base.specs.Chain.{fault_as}
use Rattle.fm_model.specs.declared.loaded.Loaded.{Loaded}
use Rattle.fm_model.specs.declared.proto.Proto.{Proto}
use Rattle.fm_model.specs.declared.row.Row.{Row}
use Rattle.fm_model.specs.Rows.{rows}
use Rattle.fm_views.proofs.RowFacts.{shown-none}
use Rattle.web_path.specs.declared.target.Service.{Service}
use Rattle.web_path.specs.declared.target.Service.TheVariants.{Das, Dds, Dods}
use Rattle.web_path.specs.declared.target.Target.{Target}
use Rattle.dap_reply.specs.declared.fault.DapFault.TheVariants.{NoRows}
use Rattle.dap_reply.proofs.AnswerLemmas.{attributes-body, data-of-body, structure-body}
use Rattle.dap_reply.specs.Body.{attributes_asked, body_of, data_asked, has_no_rows, some_rows, some_shown, structure_asked}

no-rows : (found : List Row) → found ≡ [] → some_rows (length found) ≡ Err NoRows
unfolding some_rows
no-rows found none = ap (λ (l : List Row). some_rows (length l)) none

no-shown : (proto : Proto) (files : List Loaded) (target : Target) → rows files target.view ≡ []
    → some_shown proto files target ≡ Err NoRows
unfolding some_shown
no-shown proto files target none =
    ap (fault_as has_no_rows) (shown-none (record { proto = proto; files = files }) target.view target.label none)

structure-none : (proto : Proto) (files : List Loaded) (target : Target) → rows files target.view ≡ []
    → structure_asked proto files target ≡ Err NoRows
unfolding structure_asked
structure-none proto files target none = rw (no-rows (rows files target.view) none) refl

attributes-none : (proto : Proto) (files : List Loaded) (target : Target) → rows files target.view ≡ []
    → attributes_asked proto files target ≡ Err NoRows
unfolding attributes_asked
attributes-none proto files target none = rw (no-rows (rows files target.view) none) refl

data-none : (proto : Proto) (files : List Loaded) (target : Target) → rows files target.view ≡ []
    → data_asked proto files target ≡ Err NoRows
unfolding data_asked
data-none proto files target none = rw (no-shown proto files target none) refl

pub rows-first : (proto : Proto) (files : List Loaded) (target : Target) → rows files target.view ≡ []
    → body_of proto files target ≡ Err NoRows
rows-first proto files target none = by_service target.service refl
  where
    by_service : (service : Service) → target.service ≡ service → body_of proto files target ≡ Err NoRows
    by_service Dds same = structure-body proto files target same ∙ structure-none proto files target none
    by_service Das same = attributes-body proto files target same ∙ attributes-none proto files target none
    by_service Dods same = data-of-body proto files target same ∙ data-none proto files target none

pub ruleset rows_before = (rows-first)

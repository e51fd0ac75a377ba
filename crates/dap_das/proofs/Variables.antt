-- Which variables have containers, and which of them keep the attributes of the prototype.
use Rattle.std.proofs.Common.{◌≡◌, ◌≢◌, List, [], ◌∷◌, ◌++◌, ℕ, map, ap, ◌∙◌, sym}
use Rattle.std.proofs.lemmas.Simd.{map-map}
use Rattle.std.proofs.lemmas.List.{map-append}
use Rattle.std.proofs.lemmas.Bool.{cond-false}
use Rattle.std.specs.Str.{bytes_eq}
use Rattle.fm_model.specs.declared.proto.Proto.{Proto}
use Rattle.fm_model.specs.declared.proto.ProtoVar.{ProtoVar}
use Rattle.fm_model.specs.declared.row.ViewName.{ViewName}
use Rattle.fm_model.specs.Prototype.{offset_name, run_name}
use Rattle.dap_das.specs.Attributes.{Container, containers_of, offset_container, run_container, variable_attributes, variable_container}

-- the name of a container
abbrev name_in : Container → List ℕ
name_in container = container.name

pub container_names : (proto : Proto) (view : ViewName) → map name_in (containers_of proto view)
    ≡ map (λ (var : ProtoVar). var.name) proto.vars ++ run_name proto.axis ∷ offset_name proto.axis ∷ []
unfolding containers_of
container_names proto view =
    map-append name_in (map (variable_container proto view) proto.vars)
    (run_container proto ∷ offset_container proto ∷ [])
    ∙ ap (λ (names : List (List ℕ)). names ++ run_name proto.axis ∷ offset_name proto.axis ∷ [])
    (map-map name_in (variable_container proto view) proto.vars)

-- The attributes of a variable of a file are those of its container in the attribute text.
use Rattle.std.proofs.Common.{◌≡◌, ℕ, Bool, true, false, cond, List, [], ◌∷◌, ◌++◌, map, find, Some, None, refl}
use Rattle.std.specs.Option.{option_map_or}
use Rattle.std.specs.Str.{bytes_eq}
use Rattle.fm_model.specs.declared.proto.Proto.{Proto}
use Rattle.fm_model.specs.declared.proto.ProtoVar.{ProtoVar}
use Rattle.fm_model.specs.declared.row.ViewName.{ViewName}
use Rattle.fm_model.specs.Prototype.{offset_name, run_name}
use Rattle.dap_das.specs.Attributes.{containers_of, offset_attributes, offset_container, run_attributes, run_container, variable_attributes, variable_container, Container}
use Rattle.nc_writer.specs.Attributes.{added_attributes, attributes_under, is_of_name, shown_attributes}

-- the containers after those of the variables
abbrev added_containers : Proto → List Container
added_containers proto = run_container proto ∷ offset_container proto ∷ []

added-under : (proto : Proto) (name : List ℕ)
    → added_attributes proto name ≡ attributes_under name (added_containers proto)
unfolding added_attributes
added-under proto name = by_tests (bytes_eq (run_name proto.axis) name) (bytes_eq (offset_name proto.axis) name)
  where
    by_tests : (run offset : Bool)
        → cond run (run_attributes proto) (cond offset offset_attributes [])
        ≡ option_map_or (λ (c : Container). c.attrs)
        (cond run (Some (run_container proto)) (cond offset (Some (offset_container proto)) None)) []
    by_tests true offset = refl
    by_tests false true = refl
    by_tests false false = refl

found-under : (proto : Proto) (view : ViewName) (name : List ℕ) (vars : List ProtoVar)
    → option_map_or (variable_attributes proto view) (find (is_of_name name) vars) (added_attributes proto name)
    ≡ attributes_under name (map (variable_container proto view) vars ++ added_containers proto)
found-under proto view name [] = added-under proto name
found-under proto view name (var ∷ vars) = by_test (bytes_eq var.name name) (found-under proto view name vars)
  where
    by_test : (b : Bool)
        → option_map_or (variable_attributes proto view) (find (is_of_name name) vars) (added_attributes proto name)
        ≡ attributes_under name (map (variable_container proto view) vars ++ added_containers proto)
        → option_map_or (variable_attributes proto view) (cond b (Some var) (find (is_of_name name) vars))
        (added_attributes proto name)
        ≡ option_map_or (λ (c : Container). c.attrs)
        (cond b (Some (variable_container proto view var)) (find (λ (c : Container). bytes_eq c.name name)
        (map (variable_container proto view) vars ++ added_containers proto))) []
    by_test true more = refl
    by_test false more = more

pub shown-under : (proto : Proto) (view : ViewName) (name : List ℕ)
    → shown_attributes proto view name ≡ attributes_under name (containers_of proto view)
unfolding shown_attributes containers_of
shown-under proto view name = found-under proto view name proto.vars

pub ruleset containers = (shown-under)

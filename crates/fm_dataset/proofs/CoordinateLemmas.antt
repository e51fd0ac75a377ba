-- The coordinate variable of one dimension, as it is shown.
use Rattle.std.proofs.Common.{◌≡◌, ℕ, List, [], ◌∷◌, ◌++◌, map, Some, None, refl, sym, append-nil}
use Rattle.fm_model.specs.declared.proto.Proto.{Proto}
use Rattle.fm_model.specs.declared.proto.ProtoVar.{ProtoVar}
use Rattle.fm_dataset.specs.Declarations.{coordinate_of, coordinates_of}

pub coordinates-none : {B : Type 0} (show : ProtoVar → B) (proto : Proto) (id : ℕ) (before : List B)
    → coordinate_of proto id ≡ None → before ≡ before ++ map show (coordinates_of proto (id ∷ []))
unfolding coordinates_of
coordinates-none show proto id before none = rw none (sym (append-nil before))

pub coordinates-some : {B : Type 0} (show : ProtoVar → B) (proto : Proto) (id : ℕ) (var : ProtoVar)
    → coordinate_of proto id ≡ Some var → map show (coordinates_of proto (id ∷ [])) ≡ show var ∷ []
unfolding coordinates_of
coordinates-some show proto id var found = rw found refl

pub ruleset shown_coordinates = (coordinates-none, coordinates-some)

-- Lists of operations that were taken one after the other.
use Rattle.std.specs.Prelude.{◌≡◌, List, [], ◌∷◌, None}
use Rattle.fm_model.specs.declared.loaded.Loaded.{Loaded}
use Rattle.fm_model.specs.declared.op.Op.{Op}
use Rattle.fm_model.specs.declared.proto.Proto.{Proto}
use Rattle.fm_model.specs.Collection.{after_op, coll, full_at}
use Rattle.fm_edition.specs.Held.{Held, OpFits}

-- an operation can be done to some files: the file of a put fits, and no limit is passed
pub record CanFollow (proto : Proto) (files : List Loaded) (op : Op) : Type 0 where
  pub fits : OpFits proto op
  pub within : full_at files op ≡ None

-- from some files on, each operation can be done to what those before it left
abbrev pub IsLogFrom : Proto → List Loaded → List Op → Type 0
IsLogFrom proto files [] = Unit {0}
IsLogFrom proto files (op ∷ ops) = CanFollow proto files op × IsLogFrom proto (after_op files op) ops

-- each operation can be done to what those before it left, of nothing at the start
abbrev pub IsLog : Proto → List Op → Type 0
IsLog proto ops = IsLogFrom proto [] ops

-- what some operations leave over a prototype
abbrev pub held_of : Proto → List Op → Held
held_of proto ops = record { proto = proto; files = coll ops }

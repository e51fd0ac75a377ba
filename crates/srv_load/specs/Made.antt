-- The collection after the made files were put, one after the other.
use Rattle.std.specs.Prelude.{ℕ, zero, suc, List, [], ◌∷◌, ◌++◌}
use Rattle.fm_edition.specs.Held.{Held}
use Rattle.fm_edition.specs.Log.{held_of}
use Rattle.fm_made.specs.Made.{made_loaded, made_proto}
use Rattle.fm_model.specs.declared.loaded.Loaded.{Loaded}
use Rattle.fm_model.specs.declared.op.Op.{Op}
use Rattle.fm_model.specs.declared.op.Op.TheVariants.{Put}
use Rattle.fm_model.specs.declared.proto.Proto.{Proto}
use Rattle.srv_load.specs.Name.{made_name, made_site}

-- the prototype, which file 0 is
abbrev pub load_proto : Proto
load_proto = made_proto made_site

-- the outcome of taking file k
abbrev pub held_file : ℕ → ℕ → Loaded
held_file seed k = made_loaded (made_name k) seed k

-- the first n files
unfoldable pub files_of : ℕ → ℕ → List Loaded
files_of seed zero = []
files_of seed (suc n) = files_of seed n ++ held_file seed n ∷ []

-- the puts of the first n files
unfoldable pub puts_of : ℕ → ℕ → List Op
puts_of seed zero = []
puts_of seed (suc n) = puts_of seed n ++ Put (held_file seed n) ∷ []

-- what these leave over the prototype
abbrev pub made_collection : ℕ → ℕ → Held
made_collection seed n = held_of load_proto (puts_of seed n)

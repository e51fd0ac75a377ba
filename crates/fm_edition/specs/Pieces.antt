-- Files in pieces, and what an operation takes out of them.
use Rattle.std.specs.Prelude.{◌≡◌, List, []}
use Rattle.std.specs.List.{flat_map}
use Rattle.fm_model.specs.declared.loaded.Loaded.{Loaded}
use Rattle.fm_model.specs.declared.op.Op.{Op}
use Rattle.fm_model.specs.declared.op.Op.TheVariants.{Put, Expire, Retract}
use Rattle.fm_list.specs.Change.{gone}

-- the files of all pieces
abbrev pub joined : List (List Loaded) → List Loaded
joined pieces = flat_map (λ (piece : List Loaded). piece) pieces

-- what a put or a retraction takes out of some files is what it takes out of all
abbrev pub IsNear : List Loaded → Op → List Loaded → Type 0
IsNear files (Put file) near = gone near (Put file) ≡ gone files (Put file)
IsNear files (Expire cutoff) near = near ≡ []
IsNear files (Retract name) near = gone near (Retract name) ≡ gone files (Retract name)

-- What was published and how often it was looked at.
use Rattle.std.specs.Prelude.{◌≡◌, ◌⊎◌, ℕ, List, [], ◌∷◌, ◌++◌}
use Rattle.fm_model.specs.declared.op.Op.{Op}
use Rattle.fm_model.specs.declared.proto.Proto.{Proto}
use Rattle.fm_model.specs.Collection.{coll}
use Rattle.fm_model.specs.Site.{IsPrototype}
use Rattle.fm_edition.specs.Held.{Held, Stands}
use Rattle.fm_edition.specs.Log.{IsLog}

-- a prototype, the operations that were published, and how many there were at each look
pub record History : Type 0 where
  pub proto : Proto
  pub seen : List Op
  pub looks : List ℕ

-- with one more operation
abbrev pub with_op : History → Op → History
with_op history op = record { proto = history.proto; seen = history.seen ++ op ∷ []; looks = history.looks }

-- an edition stands for what some operations leave, each of which could be done to what those before it left
pub record Keeps (held : Held) (ops : List Op) : Type 0 where
  pub prototype : IsPrototype held.proto
  pub log : IsLog held.proto ops
  pub stands : Stands held (coll ops)

-- a list of operations begins with another
abbrev pub Continues : List Op → List Op → Type 0
Continues earlier later = (more : List Op) × (later ≡ earlier ++ more)

-- a look at this many operations was made last, or none was made
abbrev pub MayHaveLooked : List ℕ → ℕ → List ℕ → Type 0
MayHaveLooked earlier count later = (later ≡ earlier) ⊎ (later ≡ earlier ++ count ∷ [])

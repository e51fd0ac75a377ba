-- What an edition is seen as, and what every edition keeps.
use Rattle.std.specs.Prelude.{◌≡◌, List, All, AllPairs, Option, Some, None, Result, Ok, Err}
use Rattle.fm_model.specs.declared.full.Full.{Full as TooMany}
use Rattle.fm_model.specs.declared.loaded.Loaded.{Loaded}
use Rattle.fm_model.specs.declared.op.Op.{Op}
use Rattle.fm_model.specs.declared.op.Op.TheVariants.{Put, Expire, Retract}
use Rattle.fm_model.specs.declared.proto.Proto.{Proto}
use Rattle.fm_model.specs.Collection.{after_op, full_at, tally, DifferInName, IsWithin}
use Rattle.fm_model.specs.Load.{Fits}
use Rattle.fm_model.specs.Site.{IsPrototype}

-- a prototype, and the files of a collection over it in their order
pub record Held : Type 0 where
  pub proto : Proto
  pub files : List Loaded

-- an edition stands for the collection of these files
abbrev pub Stands : Held → List Loaded → Type 0
Stands held files = held.files ≡ files

-- what every edition keeps: its prototype is one, its files fit it and have different names, and the numbers of files,
-- rows and bytes are within the limits
pub record IsEdition (held : Held) : Type 0 where
  pub prototype : IsPrototype held.proto
  pub fit : All (λ file. Fits file held.proto) held.files
  pub differ : AllPairs DifferInName held.files
  pub within : IsWithin (tally held.files)

-- the file of a put fits the prototype
abbrev pub OpFits : Proto → Op → Type 0
OpFits proto (Put file) = Fits file proto
OpFits proto (Expire cutoff) = Unit {0}
OpFits proto (Retract name) = Unit {0}

-- the same prototype with the files after an operation
abbrev pub held_after : Held → Op → Held
held_after held op = record { proto = held.proto; files = after_op held.files op }

-- the value, unless there is something too many of
abbrev pub unless_full : {A : Type 0} → Option TooMany → A → Result A TooMany
unless_full (Some why) value = Err why
unless_full None value = Ok value

-- what an operation leaves, or what there would be too many of
abbrev pub next_or_full : Held → Op → Result Held TooMany
next_or_full held op = unless_full (full_at held.files op) (held_after held op)

-- What an operation takes out of some files and adds to them.
use Rattle.std.specs.Prelude.{◌≡◌, All, Contains, List, [], ◌∷◌, ◌++◌, false, filter, not, Bool, int_le}
use Rattle.std.specs.Str.{bytes_eq}
use Rattle.fm_model.specs.declared.loaded.Loaded.{Loaded}
use Rattle.fm_model.specs.declared.op.Op.{Op}
use Rattle.fm_model.specs.declared.op.Op.TheVariants.{Put, Expire, Retract}

-- whether an operation leaves a held file: a put and a retraction leave those of another name, an expire those whose
-- run isn't older than the cutoff
unfoldable pub keeps : Op → Loaded → Bool
keeps (Put file) held = not (bytes_eq held.name file.name)
keeps (Expire cutoff) held = int_le cutoff held.run
keeps (Retract name) held = not (bytes_eq held.name name)

-- the file that an operation adds
abbrev pub added : Op → List Loaded
added (Put file) = file ∷ []
added (Expire cutoff) = []
added (Retract name) = []

-- the files that an operation takes out
unfoldable pub gone : List Loaded → Op → List Loaded
gone files op = filter (λ file. not (keeps op file)) files

-- the files that an operation takes out, and the one that it adds
unfoldable pub changed : List Loaded → Op → List Loaded
changed files op = gone files op ++ added op

-- a file is among those that went, if an operation takes it out
abbrev pub IsAmongGone : List Loaded → Op → Loaded → Type 0
IsAmongGone went op file = keeps op file ≡ false → Contains went file

-- what an operation takes out of some files is among those that went
abbrev pub HasGone : List Loaded → Op → List Loaded → Type 0
HasGone went op files = All (λ (file : Loaded). IsAmongGone went op file) files

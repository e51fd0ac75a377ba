-- What a take does whose peer is waited for only so long, where the bytes of its stream are known.
use Rattle.std.specs.Prelude.{ℕ, List, take, Option, Result, MatchResult}
use Rattle.std.specs.Io.KnownBytes.{Consumes, Keeps}
use Rattle.dev_traits.specs.declared.link.Taken.{Taken}
use Rattle.dev_traits.specs.declared.link.Taken.TheVariants as takes

-- The bytes that a take gave are at the front of the buffer. The end comes where none are left, or time is over.
abbrev pub TakenInTime : Option (List ℕ) → Option (List ℕ) → List ℕ → Taken → Type 0
TakenInTime old new buf (takes.Bytes count) = Consumes old new (take count buf)
TakenInTime old new buf takes.End = Keeps old new
TakenInTime old new buf takes.Later = Keeps old new

-- The same of a take that may fail. Nothing was taken then.
abbrev pub TakesInTime : {E : Type 0} → Option (List ℕ) → Option (List ℕ) → List ℕ → Result Taken E → Type 0
TakesInTime old new buf result = MatchResult result (TakenInTime old new buf) (λ _. Keeps old new)

-- What a take and a put do to the bytes that a reader has left and a writer holds, where they are known.
use Rattle.std.specs.Prelude.{ℕ, List, take, Option, Result, MatchResult}
use Rattle.std.specs.Io.KnownBytes.{Appends, Consumes, IsAtEnd, Keeps}
use Rattle.dev_traits.specs.declared.link.Taken.{Taken}
use Rattle.dev_traits.specs.declared.link.Taken.TheVariants as takes
use Rattle.dev_traits.specs.declared.link.Sent.{Sent}
use Rattle.dev_traits.specs.declared.link.Sent.TheVariants as sends

-- The bytes that a take gave are at the front of the buffer, and nothing was taken at the end or where it would wait.
abbrev pub TakenOf : Option (List ℕ) → Option (List ℕ) → List ℕ → Taken → Type 0
TakenOf old new buf (takes.Bytes count) = Consumes old new (take count buf)
TakenOf old new buf takes.End = Keeps old new × IsAtEnd new
TakenOf old new buf takes.Later = Keeps old new

-- The same of a take that may fail. Nothing was taken then.
abbrev pub Takes : {E : Type 0} → Option (List ℕ) → Option (List ℕ) → List ℕ → Result Taken E → Type 0
Takes old new buf result = MatchResult result (TakenOf old new buf) (λ _. Keeps old new)

-- The first bytes were appended, as many as a put says, and nothing where it would wait.
abbrev pub SentOf : Option (List ℕ) → Option (List ℕ) → List ℕ → Sent → Type 0
SentOf old new bytes (sends.Bytes count) = Appends old new (take count bytes)
SentOf old new bytes sends.Later = Keeps old new

-- The same of a put that may fail. Nothing was sent then.
abbrev pub Sends : {E : Type 0} → Option (List ℕ) → Option (List ℕ) → List ℕ → Result Sent E → Type 0
Sends old new bytes result = MatchResult result (SentOf old new bytes) (λ _. Keeps old new)

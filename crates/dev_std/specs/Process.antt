-- What a process does with its words before a run.
use Rattle.std.specs.Prelude.{ℕ, List, [], ◌∷◌, codes, Bool, true, false, ◌||◌}
use Rattle.std.specs.Str.{bytes_eq}
use Rattle.dev_std.specs.declared.sink.StdStream.{StdStream}
use Rattle.dev_std.specs.declared.sink.StdStream.TheVariants.{Output, Errors}

-- whether a word names a command that sends bytes over the link, which is standard output
unfoldable pub is_sender : List ℕ → Bool
is_sender word =
    bytes_eq word (codes "once") || bytes_eq word (codes "twod") || bytes_eq word (codes "extract")

-- whether the first word names such a command
abbrev pub names_sender : List (List ℕ) → Bool
names_sender [] = false
names_sender (first ∷ more) = is_sender first

-- whether a stream is standard error
abbrev pub is_errors : StdStream → Bool
is_errors (Output output) = false
is_errors (Errors errors) = true

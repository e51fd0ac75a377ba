-- What a device shows.
use Rattle.std.specs.Prelude.{ℕ, List, Option}
use Rattle.dev_traits.specs.Link.{Wire}

-- what a device shows: what it holds, where it is known, and how many of its calls have failed
pub record Shown (H : Type 0) : Type 0 where
  pub held : Option H
  pub faults : ℕ

-- of files, the content at each path
abbrev pub FilesShown : Type 0
FilesShown = Shown (List ℕ → Option (List ℕ))

-- of a link, what was taken, what is left and what was put
abbrev pub LinkShown : Type 0
LinkShown = Shown Wire

-- of a sink, all the bytes that were appended
abbrev pub SinkShown : Type 0
SinkShown = Shown (List ℕ)

-- Files that lie in a folder and aren't offered.
use Rattle.std.specs.Prelude.{ℕ, ◌+◌, nat_lt, Bool, true}
use Rattle.dev_traits.specs.Cause.{capped}
use Rattle.dev_folder.specs.declared.held_back.Reason.{Reason}
use Rattle.dev_folder.specs.declared.held_back.Reason.TheVariants.{Unread, Unmoved}

-- whether a file is left alone at a moment, in milliseconds: for a minute after it couldn't be read, and until it is
-- moved
abbrev pub holds_at : Reason → ℕ → Bool
holds_at (Unread since) now = nat_lt now (capped (since + 60000))
holds_at (Unmoved shelf) now = true

-- What an inbox holds.
use Rattle.std.specs.Prelude.{◌≡◌, ◌≢◌, ℕ, List, [], ◌∷◌, ◌++◌, drop, Option, Some, None}
use Rattle.dev_traits.specs.Shown.{Shown}
use Rattle.dev_traits.specs.declared.inbox.Arrival.{Arrival}
use Rattle.dev_traits.specs.declared.inbox.Arrival.TheVariants.{Name, Idle, Done}
use Rattle.dev_traits.specs.declared.inbox.Verdict.{Verdict}
use Rattle.dev_traits.specs.Door.{first_of}
use Rattle.dev_traits.specs.Lines.{Told}

-- what an inbox in memory holds
pub record Post : Type 0 where
  -- the folder that it was opened with, if an opener opened it
  pub asked : Option (List ℕ)
  -- the names left to come
  pub left : List (List ℕ)
  -- the name that was given last
  pub last : Option (List ℕ)
  -- the content that each name has, if a file is there
  pub content : List ℕ → Option (List ℕ)
  -- the verdicts, in order
  pub verdicts : List Verdict
  -- the lines of the journal
  pub lines : Told

-- what an inbox shows
abbrev pub InboxShown : Type 0
InboxShown = Shown Post

-- an inbox with these names to come and these contents, before its first call
abbrev pub fresh_post : List (List ℕ) → (List ℕ → Option (List ℕ)) → Post
fresh_post names content = record {
  asked = None;
  left = names;
  last = None;
  content = content;
  verdicts = [];
  lines = Some [];
}

-- what an inbox has next: the first of the names left, nothing yet where one is left, and its end where none is left
abbrev pub IsNext : Post → Arrival → Type 0
IsNext post (Name name) = first_of post.left ≡ Some name
IsNext post Idle = post.left ≢ []
IsNext post Done = post.left ≡ []

-- the inbox after it said what comes next
abbrev pub after_next : Arrival → Option Post → Option Post
after_next arrival None = None
after_next (Name name) (Some post) = Some (record post { left = drop 1 post.left; last = Some name })
after_next Idle (Some post) = Some post
after_next Done (Some post) = Some post

-- the inbox after a verdict
abbrev pub after_settle : Verdict → Option Post → Option Post
after_settle verdict None = None
after_settle verdict (Some post) = Some (record post { verdicts = post.verdicts ++ verdict ∷ [] })

-- the lines that an inbox was told, where they are known
abbrev pub inbox_lines : Option Post → Told
inbox_lines None = None
inbox_lines (Some post) = post.lines

-- an inbox with these lines
abbrev pub with_lines : Told → Option Post → Option Post
with_lines told None = None
with_lines told (Some post) = Some (record post { lines = told })

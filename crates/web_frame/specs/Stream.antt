-- What a frame holds, and what a step of it does.
use Rattle.std.specs.Prelude.{ℕ, ◌+◌, List, [], ◌++◌, length, take, drop}
use Rattle.web_frame.specs.declared.frame.Next.{Next}
use Rattle.web_frame.specs.declared.frame.Next.TheVariants as next
use Rattle.web_frame.specs.declared.request.Request.{Request}
use Rattle.web_frame.specs.Cut.{Cut, none_yet, whole, too_long, cut_of}
use Rattle.web_frame.specs.Items.{Item, request, bad_head, head_too_long, item_of}

-- the bytes of the head that was given last, none where none was, and the bytes after it
pub record Held : Type 0 where
  pub head : List ℕ
  pub rest : List ℕ

-- how many bytes are held
abbrev pub held_len : Held → ℕ
held_len held = length held.head + length held.rest

-- the held bytes, with bytes added
abbrev pub with_bytes : List ℕ → Held → Held
with_bytes bytes held = record { head = held.head; rest = held.rest ++ bytes }

-- the held bytes once the head at the front of the rest is given
abbrev pub held_by : Cut → List ℕ → Held
held_by none_yet rest = record { head = []; rest = rest }
held_by (whole len) rest = record { head = take len rest; rest = drop len rest }
held_by too_long rest = record { head = []; rest = rest }

-- the same, by what stands there
unfoldable pub held_after : List ℕ → Held
held_after rest = held_by (cut_of rest) rest

-- the answer that gives an item
abbrev pub next_by_item : Item → Next
next_by_item (request r target) = next.Head r
next_by_item bad_head = next.BadHead
next_by_item head_too_long = next.HeadTooLong

-- the answer on some bytes, by what stands at their front
abbrev pub next_by : Cut → List ℕ → Next
next_by none_yet rest = next.Need
next_by (whole len) rest = next_by_item (item_of (take len rest))
next_by too_long rest = next.HeadTooLong

-- the answer on some bytes
unfoldable pub next_of : List ℕ → Next
next_of rest = next_by (cut_of rest) rest

-- the target of an item, empty where it has none
abbrev pub target_in : Item → List ℕ
target_in (request r target) = target
target_in bad_head = []
target_in head_too_long = []

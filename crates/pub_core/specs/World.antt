-- One log of operations, and sessions that are replied to over it: each is seen as the bytes that it was fed and the
-- replies that were begun.
use Rattle.std.specs.Prelude.{ℕ, ◌-◌, List, [], length, take, replicate, slice_get, nat_le, Bool, false, not, ◌&&◌, is_none, Option, Some, None}
use Rattle.fm_model.specs.declared.op.Op.{Op}
use Rattle.fm_model.specs.declared.proto.Proto.{Proto}
use Rattle.fm_model.specs.declared.site.Site.{Site}
use Rattle.web_frame.specs.Items.{heads_of, Item}
use Rattle.dap_reply.specs.Reply.{is_wanted}
use Rattle.dap_reply.specs.Script.{script_of}

-- a session: the bytes that it was fed, the revisions of the replies that were begun, how many bytes were sent, how
-- many operations it has seen, and whether it ended
pub record SessionState : Type 0 where
  pub fed : List ℕ
  pub revs : List ℕ
  pub sent : ℕ
  pub seen : ℕ
  pub ended : Bool

-- the operations that were published, and the sessions
pub record World : Type 0 where
  pub log : List Op
  pub sessions : List SessionState

-- a session to which nothing happened
abbrev pub untouched : SessionState
untouched = record { fed = []; revs = []; sent = 0; seen = 0; ended = false }

-- a world of this many sessions, to which nothing happened
unfoldable pub start : ℕ → World
start sessions = record { log = []; sessions = replicate sessions untouched }

-- the requests that a session was fed
abbrev pub items_fed : SessionState → List Item
items_fed s = (heads_of s.fed).items

-- the bytes after them
abbrev pub rest_fed : SessionState → List ℕ
rest_fed s = (heads_of s.fed).rest

-- the replies that were begun, each over as many of the operations as its revision says
unfoldable pub script_in : Proto → List Op → SessionState → List ℕ
script_in proto log s = script_of proto log s.revs (items_fed s) 0

-- a session's output: the bytes of these replies that were sent
unfoldable pub output_of : Proto → List Op → SessionState → List ℕ
output_of proto log s = take s.sent (script_in proto log s)

-- how many bytes of the replies that were begun aren't sent
abbrev pub unsent : Proto → List Op → SessionState → ℕ
unsent proto log s = length (script_in proto log s) - s.sent

-- a session rests where all of them are sent
unfoldable pub rests : Proto → List Op → SessionState → Bool
rests proto log s = nat_le (length (script_in proto log s)) s.sent

-- the request after those whose replies were begun
unfoldable pub next_item : SessionState → Option Item
next_item s = slice_get (items_fed s) (length s.revs)

-- it rests, and hasn't ended
unfoldable pub is_idle : Proto → List Op → SessionState → Bool
is_idle proto log s = rests proto log s && not s.ended

-- it waits for bytes: it is idle, and no request is left
unfoldable pub waits : Proto → List Op → SessionState → Bool
waits proto log s = is_idle proto log s && is_none (next_item s)

-- it sends: a reply isn't whole, and it hasn't ended
unfoldable pub sends : Proto → List Op → SessionState → Bool
sends proto log s = not (rests proto log s) && not s.ended

-- a request is there that a collection is looked at for, or one that no collection is looked at for
abbrev pub is_wanted_at : Site → Option Item → Bool
is_wanted_at site None = false
is_wanted_at site (Some item) = is_wanted site item

abbrev pub is_refused_at : Site → Option Item → Bool
is_refused_at site None = false
is_refused_at site (Some item) = not (is_wanted site item)

-- it asks for a look
unfoldable pub asks : Proto → List Op → SessionState → Bool
asks proto log s = is_idle proto log s && is_wanted_at proto.site (next_item s)

-- a reply is due for which no collection is looked at
unfoldable pub is_due : Proto → List Op → SessionState → Bool
is_due proto log s = is_idle proto log s && is_refused_at proto.site (next_item s)

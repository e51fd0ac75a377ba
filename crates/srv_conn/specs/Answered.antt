-- Which of the requests that were read are answered.
use Rattle.std.specs.Prelude.{◌≡◌, ℕ, ◌<◌, length, slice_get, false, Some}
use Rattle.web_frame.specs.Items.{Item}
use Rattle.dap_reply.specs.declared.served.Mark.{Mark}
use Rattle.dap_reply.specs.Reply.{is_last}
use Rattle.dap_reply.specs.Served.{items_of, marked_reply, number_at, LinkCall}
use Rattle.dap_reply.specs.ServedMany.{call_in, reply_for, ManyCall}

-- no request before an index has a connection's last reply
abbrev pub GoesOnBefore : LinkCall → ℕ → Type 0
GoesOnBefore call index = (earlier : ℕ) (item : Item) → earlier < index → slice_get (items_of call) earlier ≡ Some item
    → is_last item (number_at call earlier) ≡ false

-- the request at an index has its whole reply
pub record IsAnswered (call : LinkCall) (index : ℕ) (item : Item) : Type 0 where
  pub mark : Mark
  pub mark_is : slice_get call.trail index ≡ Some mark
  pub whole : mark.sent ≡ length (marked_reply call.proto call.seen_after mark item (number_at call index))

-- the same over several collections: its reply is over the one that it is for
pub record IsAnsweredFor (call : ManyCall) (index : ℕ) (item : Item) : Type 0 where
  pub mark : Mark
  pub mark_is : slice_get call.trail index ≡ Some mark
  pub whole : mark.sent ≡ length (reply_for call.them call.after.seen mark item (number_at (call_in call 0) index))

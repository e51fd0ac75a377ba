-- Where the reply to a request stands in the bytes that were written.
use Rattle.std.specs.Prelude.{◌≡◌, ℕ, List, ◌++◌, take, slice_get, Some}
use Rattle.fm_model.specs.Collection.{coll}
use Rattle.web_frame.specs.Items.{Item}
use Rattle.web_path.specs.declared.target.Target.{Target}
use Rattle.dap_reply.specs.declared.body.Body.{Body}
use Rattle.dap_reply.specs.declared.served.Mark.{Mark}
use Rattle.dap_reply.specs.Reply.{fine_with, has_head_alone, is_last, reply_text}
use Rattle.dap_reply.specs.Served.{items_of, number_at, sent_by, LinkCall}
use Rattle.dap_reply.specs.Collections.{proto_for}
use Rattle.dap_reply.specs.ServedMany.{all_items, call_in, sent_for, ManyCall}
use Rattle.dap_reply.specs.WellFormed.{IsWellFormed}

-- the bytes that were written have these behind the replies to the requests before an index
pub record IsWrittenAt (call : LinkCall) (index : ℕ) (bytes : List ℕ) : Type 0 where
  pub after : List ℕ
  pub written_is : call.written
      ≡ sent_by call.proto call.seen_after (take index call.trail) (items_of call) call.session.before
      ++ bytes ++ after

-- the request at an index has a reply over the collection that the first operations left, as many as its mark says.
-- Where the request is well-formed over that collection, the reply has status 200 and the body that is asked for.
pub record GetsData (call : LinkCall) (index : ℕ) (item : Item) : Type 0 where
  pub mark : Mark
  pub mark_is : slice_get call.trail index ≡ Some mark
  pub gets : (target : Target) (body : Body)
      → IsWellFormed call.proto (coll (take mark.revision call.seen_after)) item target body
      → IsWrittenAt call index (reply_text (fine_with body) mark.revision (has_head_alone item)
      (is_last item (number_at call index)))

-- the same over several collections
pub record IsWrittenFor (call : ManyCall) (index : ℕ) (bytes : List ℕ) : Type 0 where
  pub after : List ℕ
  pub written_is : call.written
      ≡ sent_for call.them call.after.seen (take index call.trail) (all_items call) call.session.before
      ++ bytes ++ after

-- the reply is over the collection that the request is for
pub record GetsDataFor (call : ManyCall) (index : ℕ) (item : Item) : Type 0 where
  pub mark : Mark
  pub mark_is : slice_get call.trail index ≡ Some mark
  pub gets : (target : Target) (body : Body)
      → IsWellFormed (proto_for call.them item)
      (coll (take mark.revision (call.after.seen (call.them.choice item)))) item target body
      → IsWrittenFor call index (reply_text (fine_with body) mark.revision (has_head_alone item)
      (is_last item (number_at (call_in call 0) index)))

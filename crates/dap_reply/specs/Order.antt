-- What is to be done for an item of a connection.
use Rattle.std.specs.Prelude.{ℕ, List, Bool, Result, Ok, Err}
use Rattle.fm_model.specs.declared.site.Site.{Site}
use Rattle.web_frame.specs.Items.{Item, request, bad_head, head_too_long}
use Rattle.web_path.specs.declared.target.Target.{Target}
use Rattle.web_session.specs.declared.action.Asked.{Asked}
use Rattle.web_session.specs.declared.action.Asked.TheVariants as asked
use Rattle.dap_reply.specs.declared.fault.DapFault.{DapFault}
use Rattle.dap_reply.specs.declared.wanted.Order.{Order}
use Rattle.dap_reply.specs.declared.wanted.Order.TheVariants.{Refused, Wanted}
use Rattle.dap_reply.specs.Reply.{target_wanted, has_head_alone}

-- the item that a session asks a reply for, by its present target
abbrev pub item_by : Asked → List ℕ → Item
item_by (asked.Head r) target = request r target
item_by asked.BadHead target = bad_head
item_by asked.HeadTooLong target = head_too_long

-- a request that is wanted, or a refusal
abbrev pub order_by : Result Target DapFault → Bool → Bool → Order
order_by (Ok target) head last = Wanted (record { target = target; head = head; last = last })
order_by (Err fault) head last = Refused fault head last

-- what is to be done for an item
unfoldable pub order_of : Site → Item → Bool → Order
order_of site item last = order_by (target_wanted site item) (has_head_alone item) last

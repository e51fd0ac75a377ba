-- Where a session stands in what it was fed: which requests are done, and what is left.
use Rattle.std.specs.Prelude.{◌≡◌, ◌<◌, ℕ, suc, ◌+◌, List, ◌++◌, length, take, false, Option, Some, None}
use Rattle.fm_model.specs.declared.op.Op.{Op}
use Rattle.fm_model.specs.declared.proto.Proto.{Proto}
use Rattle.web_frame.specs.Cut.{cut_of, Cut, none_yet, whole, too_long}
use Rattle.web_frame.specs.Items.{head_too_long, item_of, Item, ReadsTo}
use Rattle.pub_core.specs.World.{items_fed, script_in, SessionState}
use Rattle.pub_core.specs.Happening.{is_last_before}

-- the request at the front of some bytes, by what stands there
abbrev pub item_at : Cut → List ℕ → Option Item
item_at none_yet bytes = None
item_at (whole len) bytes = Some (item_of (take len bytes))
item_at too_long bytes = Some head_too_long

-- the request at the front of some bytes, where one is whole
unfoldable pub first_item : List ℕ → Option Item
first_item bytes = item_at (cut_of bytes) bytes

-- a session rests with these bytes left, and the last reply was no connection's last
pub record Rests (proto : Proto) (log : List Op) (s : SessionState) (left : List ℕ) : Type 0 where
  pub done : List Item
  pub reads : ReadsTo s.fed done left
  pub count : length s.revs ≡ length done
  pub all_sent : s.sent ≡ length (script_in proto log s)
  pub goes_on : is_last_before (items_fed s) (length s.revs) ≡ false
  pub stays : s.ended ≡ false

-- a session replies to the request at the front of these bytes; behind the replies before it, the reply is sent as far
-- as that
pub record Replies (proto : Proto) (log : List Op) (s : SessionState) (left : List ℕ) (item : Item)
    (before reply : List ℕ) (from : ℕ) : Type 0 where
  pub done : List Item
  pub reads : ReadsTo s.fed done left
  pub item_is : first_item left ≡ Some item
  pub count : length s.revs ≡ suc (length done)
  pub script_is : script_in proto log s ≡ before ++ reply
  pub sent_is : s.sent ≡ length before + from
  pub some : from < length reply
  pub stays : s.ended ≡ false

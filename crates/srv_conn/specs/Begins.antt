-- The reply to what a session asks, as it is begun.
use Rattle.std.specs.Prelude.{◌≡◌, ℕ, ◌+◌, List, [], ◌∷◌, ◌++◌, length, Bool, false, if◌then◌else◌, Result, IfOk, OnErr}
use Rattle.fm_model.specs.declared.op.Op.{Op}
use Rattle.fm_model.specs.declared.proto.Proto.{Proto}
use Rattle.fm_model.specs.Collection.{coll}
use Rattle.pub_look.specs.History.{MayHaveLooked}
use Rattle.web_frame.specs.Items.{Item}
use Rattle.web_session.specs.declared.action.Asked.{Asked}
use Rattle.web_session.specs.declared.action.End.TheVariants.{NoMemory}
use Rattle.web_session.specs.declared.phase.Phase.TheVariants.{Ended}
use Rattle.web_session.specs.Run.{item_asked}
use Rattle.web_session.specs.State.{State}
use Rattle.dap_reply.specs.Parts.{bytes_of, Parts}
use Rattle.dap_reply.specs.Reply.{is_wanted, reply_of}
use Rattle.srv_action.specs.declared.doing.Doing.{Doing}
use Rattle.srv_action.specs.declared.doing.Doing.TheVariants.{Replying, Leaving}
use Rattle.srv_conn.specs.Sight.{IsBehind, Sight}

-- the looks for an item: one at this many operations, where a collection is looked at
abbrev pub looks_for : Bool → ℕ → List ℕ
looks_for wanted count = if wanted then count ∷ [] else []

-- the revision of a reply: this many operations where a collection is looked at, and else that of the reply before it
abbrev pub revision_for : Bool → ℕ → ℕ → ℕ
revision_for wanted count last = if wanted then count else last

-- the operations that a reply is over: those seen by now where a collection is looked at, and else those seen before
abbrev pub seen_for : Bool → List Op → List Op → List Op
seen_for wanted before now = if wanted then now else before

-- a reply to an item was begun, and none of its bytes was sent; the reply before it had this revision
pub record IsReplyTo (proto : Proto) (item : Item) (last : ℕ) (session session' : State) (doing' : Doing)
    (sight sight' : Sight) (revision : ℕ) : Type 0 where
  pub plan : Parts
  pub doing_is : doing' ≡ Replying plan 0
  pub bytes_are : bytes_of plan ≡ reply_of proto (coll sight'.seen) revision item (session.before + 1)
  pub revision_is : revision ≡ revision_for (is_wanted proto.site item) (length sight'.seen) last
  pub looks_are : sight'.looks ≡ sight.looks ++ looks_for (is_wanted proto.site item) (length sight'.seen)
  pub unwanted : is_wanted proto.site item ≡ false → sight'.seen ≡ sight.seen
  pub session_is : session' ≡ session

-- memory ran out, and the session leaves; one look may have been made
pub record IsShortOf (session session' : State) (doing' : Doing) (sight sight' : Sight) : Type 0 where
  pub doing_is : doing' ≡ Leaving 0
  pub ended : session'.phase ≡ Ended NoMemory
  pub before_is : session'.before ≡ session.before
  pub looks_are : MayHaveLooked sight.looks (length sight'.seen) sight'.looks

-- the reply to what a session asks was begun, and this is its revision; or memory ran out
pub record Begins {E : Type 0} (proto : Proto) (still : Bool) (asked : Asked) (last : ℕ) (session session' : State)
    (doing' : Doing) (sight sight' : Sight) (result : Result ℕ E) : Type 0 where
  pub sees : IsBehind still sight.seen sight'.seen
  pub begun : IfOk result (IsReplyTo proto (item_asked asked session.held) last session session' doing' sight sight')
  pub leaves : OnErr result (IsShortOf session session' doing' sight sight')

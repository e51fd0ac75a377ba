-- How far a served link came.
use Rattle.std.specs.Prelude.{◌≡◌, ℕ, ◌+◌, ◌<◌, ◌≤◌, List, [], ◌∷◌, ◌++◌, length, take, Bool, false}
use Rattle.fm_model.specs.declared.op.Op.{Op}
use Rattle.fm_model.specs.declared.proto.Proto.{Proto}
use Rattle.dev_traits.specs.Link.{after_put}
use Rattle.pub_look.specs.History.{MayHaveLooked}
use Rattle.web_frame.specs.Items.{Item, ReadsTo}
use Rattle.web_frame.proofs.LeftLemmas.{Leaves}
use Rattle.web_session.specs.declared.action.Asked.{Asked}
use Rattle.web_session.specs.declared.action.End.TheVariants as ends
use Rattle.web_session.specs.declared.phase.Phase.TheVariants.{Asking, Ended}
use Rattle.web_session.specs.State.{resting}
use Rattle.dap_reply.specs.declared.served.Mark.{Mark}
use Rattle.dap_reply.specs.Collections.{Collections}
use Rattle.dap_reply.specs.Head.{no_memory_reply}
use Rattle.dap_reply.specs.Parts.{bytes_of}
use Rattle.dap_reply.specs.Reply.{is_last}
use Rattle.dap_reply.specs.Served.{held_bytes, wanted_revisions, RepeatsUnwanted, Rises}
use Rattle.dap_reply.specs.ServedMany.{items_for, marks_for, reply_for, sent_for}
use Rattle.srv_action.specs.declared.doing.Doing.{Doing}
use Rattle.srv_action.specs.declared.doing.Doing.TheVariants as does
use Rattle.dev_traits.specs.Moved.{moved, AreNext}
use Rattle.srv_conn.specs.ServesMany.{Point}
use Rattle.srv_conn.specs.Sight.{sight_in, IsBehind, OthersStay, Sight}
use Rattle.srv_conn.specs.Turn.{reply_of_turn, IsBegun}

-- the fact holds of each reply, of which the first has this number
abbrev pub Each : (ℕ → Mark → Item → Type 0) → List Mark → List Item → ℕ → Type 0
Each P [] items number = Unit {0}
Each P (mark ∷ marks) [] number = Unit {0}
Each P (mark ∷ marks) (item ∷ items) number = P number mark item × Each P marks items (number + 1)

-- the revision of the last reply, or the one before the first
abbrev pub last_revision : ℕ → List Mark → ℕ
last_revision before [] = before
last_revision before (mark ∷ marks) = last_revision mark.revision marks

-- a reply is whole, and isn't a connection's last
abbrev pub GoesOn : Collections → (ℕ → List Op) → ℕ → Mark → Item → Type 0
GoesOn them seen number mark item =
    (mark.revision ≤ length (seen (them.choice item)))
    × (mark.sent ≡ length (reply_for them seen mark item number)) × (is_last item number ≡ false)

-- the replies that were begun to some items for one collection, by what was seen of it
pub record Goes (proto : Proto) (still : Bool) (start now : Sight) (marks : List Mark) (items : List Item)
    : Type 0 where
  pub behind : IsBehind still start.seen now.seen
  pub rises : Rises (length start.seen) marks (length now.seen)
  pub repeats : RepeatsUnwanted proto (length start.seen) marks items
  pub looks_are : now.looks ≡ start.looks ++ wanted_revisions proto marks items
  pub last : last_revision (length start.seen) marks ≡ length now.seen

-- the same of the collection of a number, among the replies to items for all
abbrev pub GoesOf : Collections → Point → Point → List Item → ℕ → Type 0
GoesOf them start now done number =
    Goes (them.proto number) (them.still number) (sight_in start.views number) (sight_in now.views number)
    (marks_for them number now.trail done) (items_for them number done)

-- the replies that were begun to some items, with the bytes that were taken and written so far
pub record Begun (them : Collections) (start now : Point) (taken written : List ℕ) (done : List Item) : Type 0 where
  pub moved_is : now.link.held ≡ moved taken written start.link.held
  pub next : AreNext taken start.link.held
  pub count : length now.trail ≡ length done
  pub goes_of : (number : ℕ) → GoesOf them start now done number
  pub written_is : written ≡ sent_for them now.views.seen now.trail done start.session.before

-- a served link between two replies: the replies to some items are whole, and the session rests with what follows them
pub record Serving (them : Collections) (start now : Point) : Type 0 where
  pub taken : List ℕ
  pub written : List ℕ
  pub done : List Item
  pub begun : Begun them start now taken written done
  pub each : Each (GoesOn them now.views.seen) now.trail done (start.session.before + 1)
  pub faults_are : now.link.faults ≡ start.link.faults
  pub reads : ReadsTo (held_bytes start.session ++ taken) done (held_bytes now.session)
  pub leaves : Leaves (held_bytes start.session ++ taken) (length done) (held_bytes now.session)
  pub session_is : now.session ≡ resting (held_bytes now.session) (start.session.before + length done)

-- a moment between two replies at which the session asks for one, and fewer than `most` were begun
pub record Asks (them : Collections) (start now : Point) (most : ℕ) (asked : Asked) : Type 0 where
  pub serving : Serving them start now
  pub few : length now.trail < most
  pub asking : now.session.phase ≡ Asking asked

-- a reply is sent, of which these are the bytes and this many were written
pub record Sending (them : Collections) (start now : Point) (most : ℕ) (bytes : List ℕ) (sent : ℕ) : Type 0 where
  pub before : Point
  pub asked : Asked
  pub asks : Asks them start before most asked
  pub mark : Mark
  pub replies : IsBegun them before now asked mark
  pub sent_is : mark.sent ≡ sent
  pub within : sent ≤ length bytes
  pub bytes_are : bytes ≡ reply_of_turn them before now asked mark
  pub session_is : now.session ≡ before.session
  pub faults_are : now.link.faults ≡ before.link.faults

-- Memory ran out where the session asked for a reply, and this many bytes of the text that says so were written. One
-- look may have been made at the collection of a number.
pub record Parting (them : Collections) (start now : Point) (most said : ℕ) : Type 0 where
  pub before : Point
  pub asked : Asked
  pub asks : Asks them start before most asked
  pub number : ℕ
  pub behind : IsBehind (them.still number) (before.views.seen number) (now.views.seen number)
  pub looks_are : MayHaveLooked (before.views.looks number) (length (now.views.seen number)) (now.views.looks number)
  pub others : OthersStay number before.views now.views
  pub trail_is : now.trail ≡ before.trail
  pub within : said ≤ length no_memory_reply
  pub put_is : now.link.held ≡ after_put (take said no_memory_reply) before.link.held
  pub faults_are : now.link.faults ≡ before.link.faults
  pub ended : now.session.phase ≡ Ended ends.NoMemory

-- a served link between two actions, by what is being done
abbrev pub SoFar : Collections → Point → Point → ℕ → Doing → Type 0
SoFar them start now most does.Reading = Serving them start now × (length now.trail ≤ most)
SoFar them start now most (does.Replying plan sent) = Sending them start now most (bytes_of plan) sent
SoFar them start now most (does.Leaving said) = Parting them start now most said

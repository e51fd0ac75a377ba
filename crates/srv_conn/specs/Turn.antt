-- What is taken from a served link, and what becomes of a reply to it.
use Rattle.std.specs.Prelude.{◌≡◌, ◌⊎◌, ℕ, ◌+◌, ◌≤◌, List, [], ◌∷◌, ◌++◌, length, take, false, if◌then◌else◌, Option, Some}
use Rattle.dev_traits.specs.Cause.{one_more}
use Rattle.dev_traits.specs.Link.{after_put}
use Rattle.dev_traits.specs.Shown.{LinkShown}
use Rattle.pub_look.specs.History.{MayHaveLooked}
use Rattle.web_frame.specs.Items.{Item}
use Rattle.web_frame.specs.Stream.{next_of}
use Rattle.web_session.specs.declared.action.Asked.{Asked}
use Rattle.web_session.specs.declared.action.End.{End}
use Rattle.web_session.specs.declared.action.End.TheVariants as ends
use Rattle.web_session.specs.declared.phase.Phase.TheVariants.{Waiting, Asking, Ended}
use Rattle.web_session.specs.Run.{item_asked}
use Rattle.web_session.specs.State.{end_after, phase_after, replied, State}
use Rattle.dap_reply.specs.declared.served.Mark.{Mark}
use Rattle.dap_reply.specs.Collections.{is_wanted_of, Collections, Views}
use Rattle.dap_reply.specs.Head.{no_memory_reply}
use Rattle.dap_reply.specs.Served.{held_bytes}
use Rattle.dap_reply.specs.ServedMany.{reply_for}
use Rattle.dev_traits.specs.Moved.{moved, AreNext}
use Rattle.srv_action.specs.Taking.{EndsReading, Takes}
use Rattle.srv_conn.specs.ServesMany.{Point}
use Rattle.srv_conn.specs.Sight.{IsBehind, OthersStay}

-- bytes were taken until a session asks for a reply
pub record Finds (before after : LinkShown) (session session_after : State) (asked : Asked) : Type 0 where
  pub taken : List ℕ
  pub takes : Takes before after session session_after taken
  pub asking : session_after.phase ≡ Asking asked

-- bytes were taken, and a session ends that waits for more
pub record FindsNone (before after : LinkShown) (session session_after : State) (end : End) : Type 0 where
  pub taken : List ℕ
  pub moved_is : after.held ≡ moved taken [] before.held
  pub next : AreNext taken before.held
  pub waiting : phase_after (next_of (held_bytes session ++ taken)) ≡ Waiting
  pub ended : session_after.phase ≡ Ended end
  pub why : EndsReading before after (held_bytes session ++ taken) end

-- one look was made at the collection that an item is for, where it is looked at for it; nothing was done to the others
pub record Sees (them : Collections) (before after : Views) (item : Item) : Type 0 where
  pub behind : IsBehind (them.still (them.choice item)) (before.seen (them.choice item)) (after.seen (them.choice item))
  pub looks_are : after.looks (them.choice item) ≡ before.looks (them.choice item)
      ++ (if is_wanted_of them item then length (after.seen (them.choice item)) ∷ [] else [])
  pub unwanted : is_wanted_of them item ≡ false → after.seen (them.choice item) ≡ before.seen (them.choice item)
  pub others : OthersStay (them.choice item) before after

-- the item that a session asks a reply for
abbrev pub item_of_turn : Point → Asked → Item
item_of_turn before asked = item_asked asked before.session.held

-- the reply to it that a mark speaks of
abbrev pub reply_of_turn : Collections → Point → Point → Asked → Mark → List ℕ
reply_of_turn them before after asked mark =
    reply_for them after.views.seen mark (item_of_turn before asked) (before.session.before + 1)

-- a reply was begun, and written as far as its mark says
pub record IsBegun (them : Collections) (before after : Point) (asked : Asked) (mark : Mark) : Type 0 where
  pub looks : Sees them before.views after.views (item_of_turn before asked)
  pub trail_is : after.trail ≡ before.trail ++ mark ∷ []
  pub revision_is : mark.revision ≡ length (after.views.seen (them.choice (item_of_turn before asked)))
  pub put_is : after.link.held
      ≡ after_put (take mark.sent (reply_of_turn them before after asked mark)) before.link.held

-- a reply was written whole, and the session goes on or ends
pub record IsWhole (them : Collections) (before after : Point) (asked : Asked) (end : Option End)
    : Type 0 where
  pub mark : Mark
  pub replies : IsBegun them before after asked mark
  pub whole : mark.sent ≡ length (reply_of_turn them before after asked mark)
  pub faults_are : after.link.faults ≡ before.link.faults
  pub session_is : after.session ≡ replied before.session asked
  pub end_is : end ≡ end_after asked before.session.before

-- the link failed within a reply
pub record IsCut (them : Collections) (before after : Point) (asked : Asked) (end : Option End)
    : Type 0 where
  pub mark : Mark
  pub replies : IsBegun them before after asked mark
  pub cut : mark.sent ≤ length (reply_of_turn them before after asked mark)
  pub faults_are : after.link.faults ≡ one_more before.link.faults
  pub ended : after.session.phase ≡ Ended ends.LinkFault
  pub end_is : end ≡ Some ends.LinkFault

-- memory ran out, and the text that says so was written, or a front of it where the link failed; one look may have been
-- made at the collection of a number
pub record IsShort (them : Collections) (before after : Point) (number : ℕ) (end : Option End) : Type 0 where
  pub behind : IsBehind (them.still number) (before.views.seen number) (after.views.seen number)
  pub looks_are :
      MayHaveLooked (before.views.looks number) (length (after.views.seen number)) (after.views.looks number)
  pub others : OthersStay number before.views after.views
  pub trail_is : after.trail ≡ before.trail
  pub said : ℕ
  pub within : said ≤ length no_memory_reply
  pub put_is : after.link.held ≡ after_put (take said no_memory_reply) before.link.held
  pub whole : ((said ≡ length no_memory_reply) × (after.link.faults ≡ before.link.faults))
      ⊎ (after.link.faults ≡ one_more before.link.faults)
  pub ended : after.session.phase ≡ Ended ends.NoMemory
  pub end_is : end ≡ Some ends.NoMemory

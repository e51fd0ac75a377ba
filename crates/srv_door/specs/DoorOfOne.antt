-- A door that is served over one collection, in the terms of one served link.
use Rattle.std.specs.Prelude.{◌≡◌, All, Bool, List, [], ◌∷◌, ◌++◌, length, map, slice_get, Option, Some, MatchOption}
use Rattle.fm_model.specs.declared.proto.Proto.{Proto}
use Rattle.dev_traits.specs.Shown.{LinkShown}
use Rattle.dev_traits.specs.Door.{Doorway}
use Rattle.pub_look.specs.History.{Continues}
use Rattle.web_session.specs.declared.action.End.{End}
use Rattle.web_session.specs.State.{fresh, State}
use Rattle.dap_reply.specs.declared.served.Mark.{Mark}
use Rattle.dap_reply.specs.declared.served.Stop.TheVariants.{Ended}
use Rattle.srv_door.specs.DoorTurns.{after_turns, looks_of, AreApart, Tag, Turn}
use Rattle.srv_conn.specs.Out.{MOST_REPLIES}
use Rattle.srv_conn.specs.Serves.{moment_of, Serves}
use Rattle.srv_conn.specs.Sight.{Sight}

-- the link of a turn was served as a call serves one from a fresh session, after one look when it came
pub record ServesLink {L : Type 0} (shown : L → LinkShown) (proto : Proto) (still : Bool) (turn : Turn L) (end : End)
    : Type 0 where
  pub session : State
  pub trail : List Mark
  pub serves : Serves proto still
      (moment_of (shown turn.came) (turn.seen 0) (length (turn.seen 0) ∷ []) fresh [])
      (moment_of (shown turn.left) (turn.seen_after 0) (turn.looks 0) session trail)
      MOST_REPLIES (Ended end)

-- The turn of a link that came with others, between two views of what gives looks. The looks for it are those with its
-- number, and what was seen for it lies between. Where memory ran out before it was served, nothing was done to it.
pub record IsTurnOfOne {L : Type 0} (shown : L → LinkShown) (proto : Proto) (still : Bool) (came : List L)
    (tags : List Tag) (sight sight' : Sight) (turn : Turn L) : Type 0 where
  pub came_is : slice_get came turn.number ≡ Some turn.came
  pub looks_are : turn.looks 0 ≡ looks_of turn.number tags
  pub from : Continues sight.seen (turn.seen 0)
  pub to : Continues (turn.seen_after 0) sight'.seen
  pub served : MatchOption turn.end (turn.left ≡ turn.came) (ServesLink shown proto still turn)

-- Each link that came was served and given back, once. Each look was made for one of them.
pub record ServesEachLink {L : Type 0} (shown : L → LinkShown) (proto : Proto) (still : Bool)
    (door door' : Option (Doorway L)) (sight sight' : Sight) : Type 0 where
  pub came : List L
  pub turns : List (Turn L)
  pub tags : List Tag
  pub each : All (IsTurnOfOne shown proto still came tags sight sight') turns
  pub once : AreApart turns
  pub all : length turns ≡ length came
  pub door_is : door' ≡ after_turns (length came) turns door
  pub looks_are : sight'.looks ≡ sight.looks ++ map (λ tag. tag.count) tags

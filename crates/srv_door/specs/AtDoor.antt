-- The links of a door while some of them are out.
use Rattle.std.specs.Prelude.{◌≡◌, ◌≢◌, ℕ, ◌+◌, ◌<◌, ◌≤◌, ◌++◌, All, Bool, true, false, List, length, map, take, slice_get, Option, Some, None, IfSome}
use Rattle.slab.specs.Slab.{get, slab_len, ContainsKey, Slab}
use Rattle.fm_model.specs.declared.op.Op.{Op}
use Rattle.dev_traits.specs.Shown.{LinkShown}
use Rattle.dev_traits.specs.Cause.{capped, one_more}
use Rattle.dev_traits.specs.Door.{after_coming, first_of, Doorway, IsFresh}
use Rattle.dev_traits.specs.declared.door.Coming.TheVariants.{Came}
use Rattle.pub_look.specs.History.{Continues}
use Rattle.dap_reply.specs.Collections.{Collections, Views}
use Rattle.srv_conn.specs.declared.connection.Connection.{Connection}
use Rattle.srv_door.specs.declared.door_next.Next.{Next}
use Rattle.srv_door.specs.declared.door_next.Next.TheVariants as nexts
use Rattle.srv_door.specs.declared.door_report.DoorEnd.{DoorEnd}
use Rattle.srv_door.specs.declared.door_report.DoorEnd.TheVariants.{Closed, DoorFault}
use Rattle.srv_door.specs.declared.hall.Hall.{Hall}
use Rattle.srv_action.specs.Acts.{IsReady}
use Rattle.srv_door.specs.DoorTurns.{after_turns, looks_of, short_count, AreApart, IsTurn, Tag, Turn}
use Rattle.srv_conn.specs.Out.{came_at, IsOut, Own}
use Rattle.srv_conn.specs.Sight.{AreBehind}

-- a door with n links more that are out
abbrev pub with_out : {L : Type 0} → ℕ → Option (Doorway L) → Option (Doorway L)
with_out count None = None
with_out count (Some doorway) = Some (record doorway { out = doorway.out + count })

-- the connection of a link that is out, with its number among those that came: the looks for it are those with its
-- number, and no turn has that
pub record IsHeld {L : Type 0} (shown : L → LinkShown) (them : Collections) (came : List L) (turns : List (Turn L))
    (tags : ℕ → List Tag) (views views' : Views) (number : ℕ) (connection : Connection L) : Type 0 where
  pub link : L
  pub seen : ℕ → List Op
  pub own : Own
  pub came_is : slice_get came number ≡ Some link
  pub from : (collection : ℕ) → Continues (views.seen collection) (seen collection)
  pub is_out : IsOut shown them (came_at shown them link seen) views'.seen own connection
  pub looks_are : (collection : ℕ) → own.views.looks collection ≡ looks_of number (tags collection)
  pub apart : All (λ turn. turn.number ≢ number) turns

-- all connections may go on
abbrev pub AreReady : {L : Type 0} → Slab (Connection L) → Type 0
AreReady {L} links = (key : ℕ) (connection : Connection L) → get links key ≡ Some connection
    → IsReady connection.doing connection.session

-- Of the links that a door gave some have had their turns, and each other one is held under a key.
pub record AtDoor {L : Type 0} (shown : L → LinkShown) (them : Collections)
    (door door' : Option (Doorway L)) (views views' : Views) (hall : Hall L) : Type 0 where
  pub came : List L
  pub turns : List (Turn L)
  pub tags : ℕ → List Tag
  -- the number of the link that is held under a key
  pub number_at : ℕ → ℕ
  pub came_is : IfSome door (λ doorway. came ≡ take (length came) doorway.left)
  pub unused : All (λ link. IsFresh (shown link)) came
  pub each : All (IsTurn shown them came tags views views') turns
  pub once : AreApart turns
  pub held : (key : ℕ) (connection : Connection L) → get hall.links key ≡ Some connection
      → IsHeld shown them came turns tags views views' (number_at key) connection
  pub apart : (key other : ℕ) → ContainsKey hall.links key → ContainsKey hall.links other → key ≢ other
      → number_at key ≢ number_at other
  pub all : length turns + slab_len hall.links ≡ length came
  pub below : (collection : ℕ) → All (λ tag. tag.number < length came) (tags collection)
  pub looks_are : (collection : ℕ)
      → views'.looks collection ≡ views.looks collection ++ map (λ tag. tag.count) (tags collection)
  pub behind : AreBehind them views.seen views'.seen
  pub door_is : door' ≡ with_out (slab_len hall.links) (after_turns (length came) turns door)
  pub served_is : hall.served ≡ capped (length turns)
  pub short_is : hall.short ≡ capped (short_count turns)

-- the same of a call that began somewhere
pub record IsSomeAtDoor {L : Type 0} (shown : L → LinkShown) (them : Collections)
    (door' : Option (Doorway L)) (views' : Views) (hall : Hall L) : Type 0 where
  pub door : Option (Doorway L)
  pub views : Views
  pub at : AtDoor shown them door door' views views' hall

-- a link has come, and isn't held yet
pub record IsComing {L : Type 0} (shown : L → LinkShown) (them : Collections) (door' : Option (Doorway L))
    (views' : Views) (hall : Hall L) (link : L) : Type 0 where
  pub first : Option (Doorway L)
  pub before : Option (Doorway L)
  pub views : Views
  pub at : AtDoor shown them first before views views' hall
  pub next : IfSome before (λ doorway. first_of doorway.left ≡ Some link)
  pub came : door' ≡ after_coming (Came link) before
  pub unused : IsFresh (shown link)

-- a link is out
abbrev pub IsOutSome : {L : Type 0} → Doorway L → Type 0
IsOutSome doorway = 0 < doorway.out

-- the count of a door's failed calls after this came next
abbrev pub faults_after : Next → ℕ → ℕ
faults_after nexts.Turn count = count
faults_after nexts.Closed count = count
faults_after nexts.Failed count = one_more count

-- the count of a door's failed calls, by whether one has failed
abbrev pub FaultsSo : Bool → ℕ → ℕ → Type 0
FaultsSo true before now = one_more before ≤ now
FaultsSo false before now = now ≡ before

-- whether a call of a door has failed, after this came next
abbrev pub failed_by : Bool → Next → Bool
failed_by failed nexts.Turn = failed
failed_by failed nexts.Closed = failed
failed_by failed nexts.Failed = true

-- why serving a door stops, if it does: it has failed or is closed, and no link is out
abbrev pub end_of : Bool → Next → Bool → Option DoorEnd
end_of failed next false = None
end_of true next true = Some DoorFault
end_of false nexts.Turn true = None
end_of false nexts.Closed true = Some Closed
end_of false nexts.Failed true = None

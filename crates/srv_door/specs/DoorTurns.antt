-- The links of a door, served all at once.
use Rattle.std.specs.Prelude.{⊤, ◌≡◌, ◌≢◌, ℕ, ◌<◌, ◌≤◌, All, Bool, true, false, List, [], ◌∷◌, ◌++◌, length, map, filter, take, drop, nat_eq, slice_get, Option, Some, None, IfSome, MatchOption}
use Rattle.fm_model.specs.declared.op.Op.{Op}
use Rattle.fm_model.specs.declared.proto.Proto.{Proto}
use Rattle.dev_traits.specs.Shown.{LinkShown}
use Rattle.dev_traits.specs.Cause.{capped, one_more}
use Rattle.dev_traits.specs.Door.{Doorway, DoorShown, IsFresh}
use Rattle.pub_look.specs.History.{Continues, MayHaveLooked}
use Rattle.web_session.specs.declared.action.End.{End}
use Rattle.web_session.specs.declared.action.End.TheVariants as ends
use Rattle.web_session.specs.State.{State}
use Rattle.dap_reply.specs.declared.served.Mark.{Mark}
use Rattle.dap_reply.specs.declared.served.Stop.TheVariants.{Ended}
use Rattle.dap_reply.specs.Collections.{alone, Collections, Views}
use Rattle.srv_conn.specs.Out.{came_at, MOST_REPLIES}
use Rattle.srv_conn.specs.ServesMany.{point_of, ServesMany}
use Rattle.srv_conn.specs.Sight.{views_of, Sight}
use Rattle.srv_door.specs.declared.door_report.DoorEnd.{DoorEnd}
use Rattle.srv_door.specs.declared.door_report.DoorEnd.TheVariants.{Closed, DoorFault}

-- a look that was made for a link: the link's number among those that came, from 0, and how many operations were seen
pub record Tag : Type 0 where
  pub number : ℕ
  pub count : ℕ

-- the looks that were made for the link of a number
abbrev pub looks_of : ℕ → List Tag → List ℕ
looks_of number tags = map (λ tag. tag.count) (filter (λ tag. nat_eq tag.number number) tags)

-- the turn of one link: its number among those that came, the link as it came and as it was given back, the
-- operations that were seen of each collection when it came and by its last look, the looks that were made for it,
-- and the end of its session, unless memory ran out before it was served
pub record Turn (L : Type 0) : Type 0 where
  pub number : ℕ
  pub came : L
  pub left : L
  pub seen : ℕ → List Op
  pub seen_after : ℕ → List Op
  pub looks : ℕ → List ℕ
  pub end : Option End

-- a link was served from a fresh session, for as many replies as a session may have, after one look at each collection
-- when it came
pub record IsServed {L : Type 0} (shown : L → LinkShown) (them : Collections) (turn : Turn L) (end : End) : Type 0 where
  pub session : State
  pub trail : List Mark
  pub serves : ServesMany them (came_at shown them turn.came turn.seen)
      (point_of (shown turn.left) (record { seen = turn.seen_after; looks = turn.looks }) session trail)
      MOST_REPLIES (Ended end)

-- nothing was done to a link, and at most one look at each collection was made for it
pub record IsLeftAlone {L : Type 0} (turn : Turn L) : Type 0 where
  pub link : turn.left ≡ turn.came
  pub looks_are : (collection : ℕ) → MayHaveLooked [] (length (turn.seen_after collection)) (turn.looks collection)

-- a link was served, or left alone where memory ran out before that
abbrev pub WasServed : {L : Type 0} → (L → LinkShown) → Collections → Turn L → Type 0
WasServed shown them turn = MatchOption turn.end (IsLeftAlone turn) (IsServed shown them turn)

-- The turn of a link that came with others, between two views of what gives looks. At each collection the looks for it
-- are those with its number, and what was seen for it lies between.
pub record IsTurn {L : Type 0} (shown : L → LinkShown) (them : Collections) (came : List L) (tags : ℕ → List Tag)
    (views views' : Views) (turn : Turn L) : Type 0 where
  pub came_is : slice_get came turn.number ≡ Some turn.came
  pub looks_are : (collection : ℕ) → turn.looks collection ≡ looks_of turn.number (tags collection)
  pub from : (collection : ℕ) → Continues (views.seen collection) (turn.seen collection)
  pub to : (collection : ℕ) → Continues (turn.seen_after collection) (views'.seen collection)
  pub served : WasServed shown them turn

-- whether memory ran out in a turn that ended so
abbrev pub is_short : Option End → Bool
is_short None = true
is_short (Some ends.NoMemory) = true
is_short (Some end) = false

-- no two turns have one number
abbrev pub AreApart : {L : Type 0} → List (Turn L) → Type 0
AreApart [] = ⊤
AreApart (turn ∷ more) = All (λ other. other.number ≢ turn.number) more × AreApart more

-- how many turns memory ran out in
abbrev pub short_count : {L : Type 0} → List (Turn L) → ℕ
short_count turns = length (filter (λ turn. is_short turn.end) turns)

-- a door after links came, and were given back with these turns
abbrev pub after_turns : {L : Type 0} → ℕ → List (Turn L) → Option (Doorway L) → Option (Doorway L)
after_turns count turns None = None
after_turns count turns (Some doorway) = Some (record doorway {
  left = drop count doorway.left;
  given = doorway.given ++ map (λ turn. turn.left) turns;
})

-- The links that a door gave were served over several collections and given back, each once, in the order in which they
-- ended. Each look was made for one of them. The report counts them.
pub record ServesEachMany {L : Type 0} (shown : L → LinkShown) (them : Collections)
    (door door' : Option (Doorway L)) (views views' : Views) (served short : ℕ) : Type 0 where
  -- the links that came, in order
  pub came : List L
  -- their turns, in the order in which they ended
  pub turns : List (Turn L)
  -- the looks at each collection, each with the number of its link, which is one of those that came
  pub tags : ℕ → List Tag
  pub below : (collection : ℕ) → All (λ tag. tag.number < length came) (tags collection)
  pub came_is : IfSome door (λ doorway. came ≡ take (length came) doorway.left)
  pub unused : All (λ link. IsFresh (shown link)) came
  pub each : All (IsTurn shown them came tags views views') turns
  pub once : AreApart turns
  pub all : length turns ≡ length came
  pub looks_are : (collection : ℕ)
      → views'.looks collection ≡ views.looks collection ++ map (λ tag. tag.count) (tags collection)
  pub grows : (collection : ℕ) → Continues (views.seen collection) (views'.seen collection)
  pub door_is : door' ≡ after_turns (length came) turns door
  pub served_is : served ≡ capped (length turns)
  pub short_is : short ≡ capped (short_count turns)

-- the same over one collection
unfoldable pub ServesEach : {L : Type 0} → (L → LinkShown) → Proto → Bool → Option (Doorway L) → Option (Doorway L)
    → Sight → Sight → ℕ → ℕ → Type 0
ServesEach shown proto still door door' sight sight' served short =
    ServesEachMany shown (alone proto still) door door' (views_of sight) (views_of sight') served short

-- Serving a door ends so: where it closed, no call failed and no link is left; else a call failed.
abbrev pub EndsDoor : {L : Type 0} → DoorShown L → DoorShown L → DoorEnd → Type 0
EndsDoor door door' Closed = (door'.faults ≡ door.faults) × IfSome door'.held (λ doorway. doorway.left ≡ [])
EndsDoor door door' DoorFault = one_more door.faults ≤ door'.faults

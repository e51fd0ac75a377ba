-- A link of a door that is out: what was done on it so far.
use Rattle.std.specs.Prelude.{⊤, ◌≡◌, ℕ, ◌<◌, List, [], ◌∷◌, ◌++◌, length, nat_lt, if◌then◌else◌, Option, Some, None}
use Rattle.fm_model.specs.declared.op.Op.{Op}
use Rattle.dev_traits.specs.Shown.{LinkShown}
use Rattle.web_session.specs.declared.action.End.{End}
use Rattle.web_session.specs.State.{fresh}
use Rattle.dap_reply.specs.declared.served.Mark.{Mark}
use Rattle.dap_reply.specs.declared.served.Stop.TheVariants.{Ended}
use Rattle.dap_reply.specs.Collections.{Collections, Views}
use Rattle.srv_conn.specs.declared.connection.Connection.{Connection}
use Rattle.srv_action.specs.declared.doing.Doing.{Doing}
use Rattle.srv_action.specs.declared.doing.Doing.TheVariants as does
use Rattle.srv_conn.specs.declared.revisions.Revisions.{Revisions}
use Rattle.srv_conn.specs.declared.stepping.Stepped.{Stepped}
use Rattle.srv_conn.specs.declared.stepping.Stepped.TheVariants as steps
use Rattle.srv_conn.specs.Revisions.{revision_at}
use Rattle.srv_conn.specs.ServesMany.{point_of, Point, ServesMany}
use Rattle.srv_conn.specs.Sight.{AreBehind}
use Rattle.srv_conn.specs.SoFar.{SoFar}

-- the most replies on a link
abbrev pub MOST_REPLIES : ℕ
MOST_REPLIES = 10000

-- one link's own view: of each collection what was seen for it and at each look, and the replies that were begun
pub record Own : Type 0 where
  pub views : Views
  pub trail : List Mark

-- a point of a connection, by the link's own view
abbrev pub point_at : {L : Type 0} → (L → LinkShown) → Connection L → Own → Point
point_at shown connection own = point_of (shown connection.link) own.views connection.session own.trail

-- one look at each collection
abbrev pub first_looks : ℕ → (ℕ → List Op) → ℕ → List ℕ
first_looks count seen number = if nat_lt number count then length (seen number) ∷ [] else []

-- the point at which a link came, over the operations seen by one look at each collection
abbrev pub came_at : {L : Type 0} → (L → LinkShown) → Collections → L → (ℕ → List Op) → Point
came_at shown them link seen =
    point_of (shown link) (record { seen = seen; looks = first_looks them.count seen }) fresh []

-- how many operations were seen of each collection
abbrev pub AreRevisions : Collections → Revisions → (ℕ → List Op) → Type 0
AreRevisions them revisions seen =
    (number : ℕ) → number < them.count → revision_at revisions number ≡ length (seen number)

-- a connection that isn't leaving knows how many operations its link has seen
abbrev pub KnowsRevisions : Collections → Doing → Revisions → (ℕ → List Op) → Type 0
KnowsRevisions them does.Reading revisions seen = AreRevisions them revisions seen
KnowsRevisions them (does.Replying plan sent) revisions seen = AreRevisions them revisions seen
KnowsRevisions them (does.Leaving said) revisions seen = ⊤

-- a connection that was fresh at a point stands so by now; all that its link has seen begins these lists
pub record IsOut {L : Type 0} (shown : L → LinkShown) (them : Collections) (start : Point) (log : ℕ → List Op)
    (own : Own) (connection : Connection L) : Type 0 where
  pub was_fresh : start.session ≡ fresh
  pub so_far : SoFar them start (point_at shown connection own) MOST_REPLIES connection.doing
  pub behind : AreBehind them own.views.seen log
  pub revisions_are : KnowsRevisions them connection.doing connection.revisions own.views.seen
  pub few : connection.session.before < MOST_REPLIES

-- the looks that were made are all for one link
pub record LooksFor (own own' : Own) (views views' : Views) : Type 0 where
  pub more : ℕ → List ℕ
  pub own_is : (number : ℕ) → own'.views.looks number ≡ own.views.looks number ++ more number
  pub looks_are : (number : ℕ) → views'.looks number ≡ views.looks number ++ more number

-- a connection went on, and stands so by now
pub record StaysOut {L : Type 0} (shown : L → LinkShown) (them : Collections) (start : Point) (own : Own)
    (connection' : Connection L) (views views' : Views) : Type 0 where
  pub own' : Own
  pub is_out : IsOut shown them start views'.seen own' connection'
  pub looks : LooksFor own own' views views'

-- a connection went on to its end, and its link was served
pub record HasEnded {L : Type 0} (shown : L → LinkShown) (them : Collections) (start : Point) (own : Own)
    (connection' : Connection L) (views views' : Views) (end : End) : Type 0 where
  pub own' : Own
  pub serves : ServesMany them start (point_at shown connection' own') MOST_REPLIES (Ended end)
  pub behind : AreBehind them own'.views.seen views'.seen
  pub looks : LooksFor own own' views views'

-- a connection went on, to its end or not
abbrev pub WentOn : {L : Type 0} → (L → LinkShown) → Collections → Point → Own → Connection L → Views → Views
    → Option End → Type 0
WentOn shown them start own connection' views views' None = StaysOut shown them start own connection' views views'
WentOn shown them start own connection' views views' (Some end) =
    HasEnded shown them start own connection' views views' end

-- the end of a connection in what one action did
abbrev pub end_in : Stepped → Option End
end_in (steps.Went count) = None
end_in steps.Waits = None
end_in (steps.Ended end) = Some end

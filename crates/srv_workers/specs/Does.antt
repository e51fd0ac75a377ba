-- The work of a worker of any kind.
use Rattle.std.specs.Prelude.{ℕ, Option}
use Rattle.dev_traits.specs.Shown.{LinkShown}
use Rattle.dev_traits.specs.Clock.{Moments}
use Rattle.dev_traits.specs.Door.{DoorShown}
use Rattle.dev_traits.specs.Inbox.{InboxShown}
use Rattle.srv_workers.specs.declared.worker.Worker.{Worker}
use Rattle.srv_workers.specs.declared.worker.Worker.TheVariants.{Serve, TakeIn, LetGo}
use Rattle.srv_workers.specs.Desks.{Means}
use Rattle.srv_workers.specs.Work.{LetsGo, ServesDoor, TakesIn}

-- what devices show
pub record Shows (D I C L : Type 0) : Type 0 where
  pub door : D → DoorShown L
  pub link : L → LinkShown
  pub inbox : I → InboxShown
  pub clock : C → Option Moments

abbrev pub shows : {D I C L : Type 0} → (D → DoorShown L) → (L → LinkShown) → (I → InboxShown) → (C → Option Moments)
    → Shows D I C L
shows door link inbox clock = record { door = door; link = link; inbox = inbox; clock = clock }

-- A worker did its task.
abbrev pub Does : {D I C L E H : Type 0} → Shows D I C L → ℕ → Means E H → Worker D I C E H → Worker D I C E H → Type 0
Does shown keep means (Serve before given eyes r) (Serve after given' eyes' report) =
    ServesDoor shown.door shown.link means.them (means.views eyes) (means.views eyes') before after report
Does shown keep means (TakeIn before hand r) (TakeIn after hand' report) =
    TakesIn shown.inbox means.them (means.publisher hand) (means.publisher hand') before after report
Does shown keep means (LetGo before hand r) (LetGo after hand' report) =
    LetsGo shown.clock means.them keep (means.publisher hand) (means.publisher hand') before after report
Does shown keep means worker worker' = ⊥

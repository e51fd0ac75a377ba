-- Workers once they have ended: each learns the logs of the desks that it looks at.
use Rattle.std.specs.Prelude.{◌≡◌, ℕ, List, [], ◌∷◌, length}
use Rattle.fm_edition.specs.Log.{IsLog}
use Rattle.fm_model.specs.declared.op.Op.{Op}
use Rattle.pub_look.specs.History.{Continues}
use Rattle.srv_workers.specs.declared.worker.Worker.{Worker}
use Rattle.srv_workers.specs.Desks.{Means}
use Rattle.srv_workers.specs.Workers.{clock_of, clock_told, counted_by, door_of, door_told, inbox_of, inbox_told, LooksAt, seen_by}

-- a worker keeps its device, its report and what it has counted, and has seen more or as much
pub record Keeps {D I C E H : Type 0} (means : Means E H) (worker worker' : Worker D I C E H) : Type 0 where
  pub door : door_of worker' ≡ door_of worker
  pub door_told : door_told worker' ≡ door_told worker
  pub inbox : inbox_of worker' ≡ inbox_of worker
  pub inbox_told : inbox_told worker' ≡ inbox_told worker
  pub clock : clock_of worker' ≡ clock_of worker
  pub clock_told : clock_told worker' ≡ clock_told worker
  pub counted : (number : ℕ) → counted_by means number (worker' ∷ []) ≡ counted_by means number (worker ∷ [])
  pub looks : (number : ℕ) → LooksAt means worker number → LooksAt means worker' number
  pub later : (number : ℕ) → Continues (seen_by means worker number) (seen_by means worker' number)

-- a worker has learnt these logs
pub record HasLearnt {D I C E H : Type 0} (means : Means E H) (log : ℕ → List Op) (worker worker' : Worker D I C E H)
    : Type 0 where
  pub keeps : Keeps means worker worker'
  pub told : (number : ℕ) → LooksAt means worker' number → Continues (log number) (seen_by means worker' number)

-- a worker has seen just as many operations as they have, each of which could be done to what those before it left
pub record HasSeen {D I C E H : Type 0} (means : Means E H) (log : ℕ → List Op) (worker : Worker D I C E H)
    : Type 0 where
  pub level : (number : ℕ) → LooksAt means worker number → length (seen_by means worker number) ≡ length (log number)
  pub sound : (number : ℕ) → LooksAt means worker number → IsLog (means.them.proto number) (seen_by means worker number)

-- what a worker has seen begins these logs
abbrev pub Begins : {D I C E H : Type 0} → Means E H → (ℕ → List Op) → Worker D I C E H → Type 0
Begins means log worker =
    (number : ℕ) → LooksAt means worker number → Continues (seen_by means worker number) (log number)

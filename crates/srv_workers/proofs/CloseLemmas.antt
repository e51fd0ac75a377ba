-- The end of a run, from the parts of its workers.
use Rattle.std.proofs.Common.{◌≡◌, ℕ, ◌<◌, List, [], ◌++◌, length, map, sum, sym, ap, ◌∙◌}
use Rattle.fm_model.specs.declared.op.Op.{Op}
use Rattle.dev_traits.specs.declared.world.Devices.{Devices}
use Rattle.srv_workers.specs.declared.outcome.Outcomes.{Outcomes}
use Rattle.srv_workers.specs.declared.parts.Parts.{Parts}
use Rattle.srv_workers.specs.declared.worker.Worker.{Worker}
use Rattle.srv_workers.specs.Close.{Closes}
use Rattle.srv_workers.specs.Desks.{closed_of, first_of, Means}
use Rattle.srv_workers.specs.Parts.{IsEmpty, PutsParts}
use Rattle.srv_workers.specs.Slots.{PutsItems, Slotted}
use Rattle.srv_workers.specs.Workers.{counted_by}

-- items that were put where nothing was
from-none : {T : Type 0} (items : List T) (before after : Slotted T) → before.items ≡ [] → PutsItems items before after
    → after.items ≡ items
from-none {T} items before after none puts = puts.items_are ∙ ap (λ (l : List T). l ++ items) none

-- there is a share for each part of a desk
pub shares-all : {D I C E H B : Type 0} (means : Means E H) (slots : B → ℕ → Slotted ℕ) (parts : ℕ → ℕ)
    (staff : List (Worker D I C E H)) (before after : Parts D I C B)
    → ((number : ℕ) → number < means.them.count → (slots before.back number).items ≡ [])
    → PutsParts means slots staff before after
    → ((number : ℕ) → number < means.them.count → length (counted_by means number staff) ≡ parts number)
    → (number : ℕ) → number < means.them.count → length (slots after.back number).items ≡ parts number
shares-all means slots parts staff before after none puts count number below =
    ap (λ (l : List ℕ). length l) (from-none (counted_by means number staff) (slots before.back number)
    (slots after.back number) (none number below) (puts.shares number below)) ∙ count number below

-- a run was closed
pub Closes-is : {D I C E H B : Type 0} (means : Means E H) (slots : B → ℕ → Slotted ℕ) (log : ℕ → List Op)
    (staff : List (Worker D I C E H)) (before after : Parts D I C B) (devices : Devices D I C) (outcomes : Outcomes)
    → IsEmpty before → ((number : ℕ) → number < means.them.count → (slots before.back number).items ≡ [])
    → PutsParts means slots staff before after
    → (devices.doors ≡ after.doors.items) × (outcomes.doors ≡ after.doors_told.items)
    → (devices.inboxes ≡ after.inboxes.items) × (outcomes.inboxes ≡ after.inboxes_told.items)
    → (devices.clocks ≡ after.clocks.items) × (outcomes.clocks ≡ after.clocks_told.items)
    → outcomes.desks ≡ map closed_of (first_of means.them.count log)
    → ((number : ℕ) → number < means.them.count → sum (slots after.back number).items ≡ length (log number))
    → Closes means log staff devices outcomes
Closes-is means slots log staff before after devices outcomes empty none puts doors inboxes clocks desks counted =
    record {
      doors = doors.0 ∙ from-none _ before.doors after.doors empty.doors puts.doors;
      doors_told = doors.1 ∙ from-none _ before.doors_told after.doors_told empty.doors_told puts.doors_told;
      inboxes = inboxes.0 ∙ from-none _ before.inboxes after.inboxes empty.inboxes puts.inboxes;
      inboxes_told = inboxes.1
          ∙ from-none _ before.inboxes_told after.inboxes_told empty.inboxes_told puts.inboxes_told;
      clocks = clocks.0 ∙ from-none _ before.clocks after.clocks empty.clocks puts.clocks;
      clocks_told = clocks.1 ∙ from-none _ before.clocks_told after.clocks_told empty.clocks_told puts.clocks_told;
      desks = desks;
      counted = λ number below. ap (λ (l : List ℕ). sum l) (sym (from-none (counted_by means number staff)
          (slots before.back number) (slots after.back number) (none number below) (puts.shares number below)))
          ∙ counted number below;
    }

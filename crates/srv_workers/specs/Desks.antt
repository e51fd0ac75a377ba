-- What workers have of desks, which have numbers from 0.
use Rattle.std.specs.Prelude.{◌≡◌, ℕ, ◌<◌, zero, suc, List, [], ◌∷◌, nat_eq, if◌then◌else◌, length}
use Rattle.fm_model.specs.declared.op.Op.{Op}
use Rattle.fm_model.specs.Collection.{coll, tally}
use Rattle.fm_edition.specs.Log.{IsLog}
use Rattle.pub_look.specs.History.{Continues, History}
use Rattle.pub_snap.specs.declared.desk.Closed.{Closed}
use Rattle.pub_snap.specs.Opening.{unused}
use Rattle.dap_reply.specs.Collections.{Collections, Views}

-- one that publishes: the number of its desk, its pass at that desk, and how many operations its share counted
pub record Publisher : Type 0 where
  pub desk : ℕ
  pub pass : History
  pub share : ℕ

-- what workers have, and how contracts see it: the collections of all desks, what eyes see of each, and who publishes
-- by a hand
pub record Means (E H : Type 0) : Type 0 where
  pub them : Collections
  pub views : E → Views
  pub publisher : H → Publisher

-- what its share counted, where it publishes at the desk of a number
abbrev pub counted_at : ℕ → Publisher → List ℕ
counted_at number publisher = if nat_eq publisher.desk number then publisher.share ∷ [] else []

-- one that has seen nothing and published nothing, at a desk that there is
pub record IsNew (them : Collections) (publisher : Publisher) : Type 0 where
  pub within : publisher.desk < them.count
  pub pass_is : publisher.pass ≡ unused (them.proto publisher.desk)
  pub share_is : publisher.share ≡ 0

-- nothing was seen of any desk
pub record IsUnseen (views : Views) : Type 0 where
  pub seen : (number : ℕ) → views.seen number ≡ []
  pub looks : (number : ℕ) → views.looks number ≡ []

-- one that publishes has learnt the log of its desk
pub record LearnsItsLog (log : ℕ → List Op) (before after : Publisher) : Type 0 where
  pub desk : after.desk ≡ before.desk
  pub share : after.share ≡ before.share
  pub later : Continues before.pass.seen after.pass.seen
  pub told : Continues (log before.desk) after.pass.seen

-- it has seen just as many operations as that log has, and each of them could be done to what those before it left
pub record HasSeenItsLog (them : Collections) (log : ℕ → List Op) (publisher : Publisher) : Type 0 where
  pub level : length publisher.pass.seen ≡ length (log publisher.desk)
  pub sound : IsLog (them.proto publisher.desk) publisher.pass.seen

-- what looks at all desks has learnt the log of each
pub record LearnsEach (count : ℕ) (log : ℕ → List Op) (before after : Views) : Type 0 where
  pub later : (number : ℕ) → Continues (before.seen number) (after.seen number)
  pub told : (number : ℕ) → number < count → Continues (log number) (after.seen number)

-- it has seen just as many operations of each as its log has
pub record HasSeenEach (them : Collections) (log : ℕ → List Op) (views : Views) : Type 0 where
  pub level : (number : ℕ) → number < them.count → length (views.seen number) ≡ length (log number)
  pub sound : (number : ℕ) → number < them.count → IsLog (them.proto number) (views.seen number)

-- the end of a desk with this log: each operation was counted by one share
abbrev pub closed_of : List Op → Closed
closed_of log = record { tally = tally (coll log); revision = length log; total = length log }

-- what there is of the numbers below a count
abbrev pub first_of : {A : Type 0} → ℕ → (ℕ → A) → List A
first_of zero made = []
first_of (suc count) made = made 0 ∷ first_of count (λ number. made (suc number))

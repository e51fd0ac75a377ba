-- A worker of each kind that learns the logs of its desks.
use Rattle.std.proofs.Common.{◌≡◌, ℕ, List, [], ◌∷◌, ◌++◌, length, nat_eq, refl, sym, ap, ap₂, subst, ◌∙◌}
use Rattle.std.specs.Prelude.{if◌then◌else◌}
use Rattle.fm_edition.specs.Log.{IsLog}
use Rattle.fm_model.specs.declared.op.Op.{Op}
use Rattle.pub_look.specs.History.{Continues}
use Rattle.srv_door.specs.declared.door_report.DoorReport.{DoorReport}
use Rattle.srv_ingest.specs.declared.report.ExpireReport.{ExpireReport}
use Rattle.srv_ingest.specs.declared.report.IngestReport.{IngestReport}
use Rattle.srv_workers.specs.declared.worker.Worker.TheVariants.{Serve, TakeIn, LetGo}
use Rattle.srv_workers.specs.Course.{HasLearnt, HasSeen}
use Rattle.srv_workers.specs.Desks.{counted_at, HasSeenEach, HasSeenItsLog, LearnsEach, LearnsItsLog, Means, Publisher}

-- eyes that have learnt each log
pub learnt-eyes : {D I C E H : Type 0} (means : Means E H) (log : ℕ → List Op) (door : D) (number : ℕ) (eyes eyes' : E)
    (report : DoorReport) → LearnsEach means.them.count log (means.views eyes) (means.views eyes')
    → HasLearnt {D = D} {I = I} {C = C} means log (Serve door number eyes report) (Serve door number eyes' report)
learnt-eyes means log door number eyes eyes' report learns = record {
  keeps = record {
    door = refl;
    door_told = refl;
    inbox = refl;
    inbox_told = refl;
    clock = refl;
    clock_told = refl;
    counted = λ at. refl;
    looks = λ at looks. looks;
    later = learns.later;
  };
  told = learns.told;
}

-- the same count at each desk
same-count : (number : ℕ) (publisher publisher' : Publisher) → publisher'.desk ≡ publisher.desk
    → publisher'.share ≡ publisher.share
    → counted_at number publisher' ++ [] ≡ counted_at number publisher ++ []
same-count number publisher publisher' desk share =
    ap₂ (λ (d s : ℕ). (if nat_eq d number then s ∷ [] else []) ++ []) desk share

-- what is learnt of the log of a hand's desk
hand-told : (log : ℕ → List Op) (publisher publisher' : Publisher) → LearnsItsLog log publisher publisher'
    → (number : ℕ) → number ≡ publisher'.desk → Continues (log number) publisher'.pass.seen
hand-told log publisher publisher' learns number is =
    subst (λ (n : ℕ). Continues (log n) publisher'.pass.seen) (sym (is ∙ learns.desk)) learns.told

-- the hand of an inbox's worker
pub learnt-inbox : {D I C E H : Type 0} (means : Means E H) (log : ℕ → List Op) (inbox : I) (hand hand' : H)
    (report : IngestReport) → LearnsItsLog log (means.publisher hand) (means.publisher hand')
    → HasLearnt {D = D} {I = I} {C = C} means log (TakeIn inbox hand report) (TakeIn inbox hand' report)
learnt-inbox means log inbox hand hand' report learns = record {
  keeps = record {
    door = refl;
    door_told = refl;
    inbox = refl;
    inbox_told = refl;
    clock = refl;
    clock_told = refl;
    counted = λ at. same-count at (means.publisher hand) (means.publisher hand') learns.desk learns.share;
    looks = λ at looks. looks ∙ sym learns.desk;
    later = λ at. learns.later;
  };
  told = hand-told log (means.publisher hand) (means.publisher hand') learns;
}

-- that of a clock's worker
pub learnt-clock : {D I C E H : Type 0} (means : Means E H) (log : ℕ → List Op) (clock : C) (hand hand' : H)
    (report : ExpireReport) → LearnsItsLog log (means.publisher hand) (means.publisher hand')
    → HasLearnt {D = D} {I = I} {C = C} means log (LetGo clock hand report) (LetGo clock hand' report)
learnt-clock means log clock hand hand' report learns = record {
  keeps = record {
    door = refl;
    door_told = refl;
    inbox = refl;
    inbox_told = refl;
    clock = refl;
    clock_told = refl;
    counted = λ at. same-count at (means.publisher hand) (means.publisher hand') learns.desk learns.share;
    looks = λ at looks. looks ∙ sym learns.desk;
    later = λ at. learns.later;
  };
  told = hand-told log (means.publisher hand) (means.publisher hand') learns;
}

-- eyes that have seen just the logs
pub seen-eyes : {D I C E H : Type 0} (means : Means E H) (log : ℕ → List Op) (door : D) (number : ℕ) (eyes : E)
    (report : DoorReport) → HasSeenEach means.them log (means.views eyes)
    → HasSeen {D = D} {I = I} {C = C} means log (Serve door number eyes report)
seen-eyes means log door number eyes report seen = record { level = seen.level; sound = seen.sound }

-- a hand that has seen just its log
pub seen-inbox : {D I C E H : Type 0} (means : Means E H) (log : ℕ → List Op) (inbox : I) (hand : H)
    (report : IngestReport) → HasSeenItsLog means.them log (means.publisher hand)
    → HasSeen {D = D} {I = I} {C = C} means log (TakeIn inbox hand report)
seen-inbox means log inbox hand report seen = record {
  level = λ number is. seen.level ∙ ap (λ (n : ℕ). length (log n)) (sym is);
  sound = λ number is. subst (λ (n : ℕ). IsLog (means.them.proto n) (means.publisher hand).pass.seen) (sym is)
      seen.sound;
}

pub seen-clock : {D I C E H : Type 0} (means : Means E H) (log : ℕ → List Op) (clock : C) (hand : H)
    (report : ExpireReport) → HasSeenItsLog means.them log (means.publisher hand)
    → HasSeen {D = D} {I = I} {C = C} means log (LetGo clock hand report)
seen-clock means log clock hand report seen = record {
  level = λ number is. seen.level ∙ ap (λ (n : ℕ). length (log n)) (sym is);
  sound = λ number is. subst (λ (n : ℕ). IsLog (means.them.proto n) (means.publisher hand).pass.seen) (sym is)
      seen.sound;
}

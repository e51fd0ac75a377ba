-- What is said of each number below one.
use Rattle.std.proofs.Common.{◌≡◌, ℕ, zero, suc, ◌<◌, List, [], ◌∷◌, length, nat_eq, false, refl, sym, subst, ◌∙◌, arith}
use Rattle.std.specs.Prelude.{if◌then◌else◌}
use Rattle.fm_edition.specs.Log.{IsLog}
use Rattle.fm_model.specs.declared.op.Op.{Op}
use Rattle.fm_model.specs.declared.proto.Proto.{Proto}
use Rattle.fm_model.specs.Collection.{coll, tally}
use Rattle.dev_traits.specs.Shown.{LinkShown}
use Rattle.dev_traits.specs.Door.{DoorShown}
use Rattle.pub_look.specs.History.{Continues, History}
use Rattle.pub_snap.specs.declared.desk.Closed.{Closed}
use Rattle.dap_reply.specs.Collections.{alone, only}
use Rattle.srv_door.specs.declared.door_report.DoorReport.{DoorReport}
use Rattle.srv_door.specs.DoorTurns.{EndsDoor, ServesEachMany}
use Rattle.srv_conn.specs.Sight.{views_of}
use Rattle.srv_many.specs.Several.{nth, views_in}
use Rattle.srv_workers.specs.Desks.{closed_of, counted_at, HasSeenEach, IsUnseen, LearnsEach, Publisher}
use Rattle.srv_workers.specs.One.{row_of_one}
use Rattle.srv_workers.specs.Slots.{PutsItems, Slotted}
use Rattle.srv_workers.specs.Work.{ServesDoor, sight}

-- what holds of the first number holds of each below one
pub for-one : (P : ℕ → Type 0) → P 0 → (number : ℕ) → number < 1 → P number
for-one P first zero below = first
for-one P first (suc number) below = absurd (omega (arith, below))

-- the first list goes on, and the others stay empty
pub only-later : (earlier later : List Op) → Continues earlier later
    → (number : ℕ) → Continues (only earlier number) (only later number)
only-later earlier later first zero = first
only-later earlier later first (suc number) = ([], refl)

-- the only log was learnt
pub LearnsEach-one : (log : List Op) (before after : History) → Continues before.seen after.seen
    → Continues log after.seen → LearnsEach 1 (λ _. log) (views_of (sight before)) (views_of (sight after))
LearnsEach-one log before after own told = record {
  later = only-later before.seen after.seen own;
  told = for-one (λ number. Continues log (only after.seen number)) told;
}

-- a door that was served over the only collection, by a pass that is of its prototype
pub serves-one : {D L : Type 0} (door : D → DoorShown L) (link : L → LinkShown) (proto : Proto)
    (pass seen after : History) (came left : D) (report : DoorReport) → pass.proto ≡ proto → pass ≡ seen
    → ServesEachMany link (alone pass.proto false) (door came).held (door left).held (views_of (sight pass))
    (views_of (sight after)) report.served report.short
    → EndsDoor (door came) (door left) report.end
    → ServesDoor door link (alone proto false) (views_of (sight seen)) (views_of (sight after)) came left report
serves-one door link proto pass seen after came left report same is serves ends = record {
  serves = subst (λ (p : Proto). ServesEachMany link (alone p false) (door came).held (door left).held
      (views_of (sight seen)) (views_of (sight after)) report.served report.short) same
      (subst (λ (h : History). ServesEachMany link (alone pass.proto false) (door came).held (door left).held
      (views_of (sight h)) (views_of (sight after)) report.served report.short) is serves);
  ends = ends;
}

-- the only desk has its share back
pub PutsItems-one : (publisher : Publisher) (before after : Slotted ℕ) → publisher.desk ≡ 0
    → PutsItems (publisher.share ∷ []) before after → (number : ℕ) → number < 1
    → PutsItems (counted_at number publisher) before after
PutsItems-one publisher before after desk puts =
    for-one (λ number. PutsItems (counted_at number publisher) before after)
    (subst (λ (d : ℕ). PutsItems (if nat_eq d 0 then publisher.share ∷ [] else []) before after) (sym desk) puts)

-- the end of a desk with this log
pub closed-is : (log : List Op) (end : Closed) → end.tally ≡ tally (coll log) → end.revision ≡ length log
    → end.total ≡ end.revision → end ≡ closed_of log
closed-is log end sums number whole =
    λ i. record { tally = sums i; revision = number i; total = (whole ∙ number) i }

-- the same of a row of one
pub LearnsEach-row : (proto : Proto) (log : List Op) (before after : History) → Continues before.seen after.seen
    → Continues log after.seen
    → LearnsEach 1 (λ _. log) (views_in (row_of_one proto before)) (views_in (row_of_one proto after))
LearnsEach-row proto log before after own told = record {
  later = later;
  told = for-one (λ number. Continues log (nth [] (after.seen ∷ []) number)) told;
}
  where
    later : (number : ℕ) → Continues (nth [] (before.seen ∷ []) number) (nth [] (after.seen ∷ []) number)
    later zero = own
    later (suc number) = ([], refl)

-- it has seen just that
pub HasSeenEach-row : (proto : Proto) (log : List Op) (own : History) → length own.seen ≡ length log
    → IsLog proto own.seen → HasSeenEach (alone proto false) (λ _. log) (views_in (row_of_one proto own))
HasSeenEach-row proto log own level sound = record {
  level = for-one (λ number. length (nth [] (own.seen ∷ []) number) ≡ length log) level;
  sound = for-one (λ number. IsLog proto (nth [] (own.seen ∷ []) number)) sound;
}

-- what nothing was seen of in a row of one
pub unseen-row : (proto : Proto) (own : History) → IsUnseen (views_in (row_of_one proto own))
    → IsUnseen (views_of (sight own))
unseen-row proto own unseen = record { seen = seen; looks = looks }
  where
    seen : (number : ℕ) → only own.seen number ≡ []
    seen zero = unseen.seen 0
    seen (suc number) = refl

    looks : (number : ℕ) → only own.looks number ≡ []
    looks zero = unseen.looks 0
    looks (suc number) = refl

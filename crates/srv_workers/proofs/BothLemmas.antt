-- A desk, and others behind it.
use Rattle.std.proofs.Common.{◌≡◌, ℕ, zero, suc, ◌<◌, List, [], ◌∷◌, ◌++◌, length, map, replicate, nat_eq, Bool, false, sym, ap, subst, ◌∙◌, append_assoc, append-nil, arith, Option}
use Rattle.std.specs.Prelude.{if◌then◌else◌}
use Rattle.std.proofs.Math.Dec.{eqb-suc-suc, eqb-suc-zero, eqb-zero-suc}
use Rattle.fm_edition.specs.Log.{IsLog}
use Rattle.fm_model.specs.declared.op.Op.{Op}
use Rattle.fm_model.specs.declared.proto.Proto.{Proto}
use Rattle.dev_traits.specs.Shown.{LinkShown}
use Rattle.dev_traits.specs.Clock.{Moments}
use Rattle.dev_traits.specs.Door.{DoorShown}
use Rattle.dev_traits.specs.Inbox.{InboxShown}
use Rattle.pub_look.specs.History.{Continues, History}
use Rattle.pub_snap.specs.declared.desk.Closed.{Closed}
use Rattle.dap_reply.specs.Collections.{Collections}
use Rattle.srv_door.specs.declared.door_report.DoorReport.{DoorReport}
use Rattle.srv_door.specs.DoorTurns.{EndsDoor, ServesEachMany}
use Rattle.srv_ingest.specs.declared.report.ExpireReport.{ExpireReport}
use Rattle.srv_ingest.specs.declared.report.IngestReport.{IngestReport}
use Rattle.srv_ingest.specs.Expires.{AllSettledWith}
use Rattle.srv_ingest.specs.Ingests.{SettledWith}
use Rattle.srv_many.specs.declared.several.Several.{Several}
use Rattle.srv_many.specs.Choice.{choice_of}
use Rattle.srv_many.specs.Several.{collections_of, nth, Rowed, views_in}
use Rattle.srv_workers.specs.Both.{all_collections, all_protos, among_all, first_then, rowed_with}
use Rattle.srv_workers.specs.Desks.{closed_of, counted_at, first_of, HasSeenEach, HasSeenItsLog, LearnsEach, LearnsItsLog, Publisher}
use Rattle.srv_workers.specs.Slots.{PutsItems, Slotted}
use Rattle.srv_workers.specs.Work.{LetsGo, ServesDoor, TakesIn}
use Rattle.srv_workers.proofs.FirstLemmas.{first-nth, for-each, length-first, nth-equal, nth-first}

-- the prototype of the collection of a number behind the first
pub proto-behind : (proto : Proto) (others : Collections) (number : ℕ) → number < others.count
    → (all_collections proto others).proto (suc number) ≡ others.proto number
proto-behind proto others number below = nth-first proto others.count others.proto number below

-- the prototypes of all are those at each number
pub all-protos : (proto : Proto) (others : Collections)
    → first_of (suc others.count) (all_collections proto others).proto ≡ all_protos proto others
all-protos proto others = ap (λ (l : List Proto). proto ∷ l) (first-nth proto others.count others.proto)

-- there are as many
pub count-all : (proto : Proto) (others : Collections) → length (all_protos proto others) ≡ suc others.count
count-all proto others = ap suc (length-first others.count others.proto)

-- the collections of a row whose prototypes and kinds are known
pub known-all : (proto : Proto) (others : Collections) (row : Rowed) → row.protos ≡ all_protos proto others
    → row.stills ≡ false ∷ replicate others.count false
    → collections_of proto false row ≡ all_collections proto others
known-all proto others row protos stills =
    λ i. record {
      count = count i;
      proto = λ n. proto_at n i;
      still = λ n. still_at n i;
      choice = λ item. ap (λ (l : List Proto). choice_of l item) protos i;
    }
  where
    count : length row.protos ≡ suc others.count
    count = ap (λ (l : List Proto). length l) protos ∙ count-all proto others

    proto_at : (n : ℕ) → nth proto row.protos n ≡ nth proto (all_protos proto others) n
    proto_at n = ap (λ (l : List Proto). nth proto l n) protos

    still_at : (n : ℕ) → nth false row.stills n ≡ false
    still_at n = ap (λ (l : List Bool). nth false l n) stills ∙ nth-equal (suc others.count) n

-- a door that was served over all of them
pub serves-all : {D L F : Type 0} (door : D → DoorShown L) (link : L → LinkShown) (proto : Proto)
    (others : Collections) (row : F → Rowed) (passes after : Several History F) (seen : Rowed) (came left : D)
    (report : DoorReport) → rowed_with proto row passes ≡ seen
    → (row passes.others).protos ≡ first_of others.count others.proto
    → (row passes.others).stills ≡ replicate others.count false
    → ServesEachMany link (collections_of proto false (rowed_with proto row passes)) (door came).held
    (door left).held (views_in (rowed_with proto row passes)) (views_in (rowed_with proto row after))
    report.served report.short → EndsDoor (door came) (door left) report.end
    → ServesDoor door link (all_collections proto others) (views_in seen) (views_in (rowed_with proto row after))
    came left report
serves-all door link proto others row passes after seen came left report is protos stills serves ends = record {
  serves = subst (λ (them : Collections). ServesEachMany link them (door came).held (door left).held (views_in seen)
      (views_in (rowed_with proto row after)) report.served report.short)
      (known-all proto others (rowed_with proto row passes) (ap (λ (l : List Proto). proto ∷ l) protos)
      (ap (λ (l : List Bool). false ∷ l) stills))
      (subst (λ (r : Rowed). ServesEachMany link (collections_of proto false (rowed_with proto row passes))
      (door came).held (door left).held (views_in r) (views_in (rowed_with proto row after)) report.served
      report.short) is serves);
  ends = ends;
}

-- an inbox whose names were taken in at one of the others
pub takes-behind : {I : Type 0} (inbox : I → InboxShown) (proto : Proto) (others : Collections)
    (hand hand' : Publisher) (came left : I) (report : IngestReport) → hand.desk < others.count
    → TakesIn inbox others hand hand' came left report
    → TakesIn inbox (all_collections proto others) (among_all hand) (among_all hand') came left report
takes-behind inbox proto others hand hand' came left report below takes = record {
  settles = subst (λ (p : Proto). SettledWith p (inbox came).held (inbox left).held hand.pass hand'.pass report)
      (sym (proto-behind proto others hand.desk below)) takes.settles;
  ends = takes.ends;
  counted = takes.counted;
  same_desk = ap suc takes.same_desk;
}

-- a clock at whose moments runs went at one of the others
pub lets-behind : {C : Type 0} (clock : C → Option Moments) (proto : Proto) (others : Collections) (keep : ℕ)
    (hand hand' : Publisher) (came left : C) (report : ExpireReport) → hand.desk < others.count
    → LetsGo clock others keep hand hand' came left report
    → LetsGo clock (all_collections proto others) keep (among_all hand) (among_all hand') came left report
lets-behind clock proto others keep hand hand' came left report below lets = record {
  settles = subst (λ (p : Proto). AllSettledWith keep p.site.epoch (clock came) (clock left) hand.pass hand'.pass
      report) (sym (proto-behind proto others hand.desk below)) lets.settles;
  counted = lets.counted;
  same_desk = ap suc lets.same_desk;
}

-- one that learnt the log of one of the others
pub learns-behind : (log : List Op) (more : ℕ → List Op) (hand hand' : Publisher) → LearnsItsLog more hand hand'
    → LearnsItsLog (first_then log more) (among_all hand) (among_all hand')
learns-behind log more hand hand' learns = record {
  desk = ap suc learns.desk;
  share = learns.share;
  later = learns.later;
  told = learns.told;
}

-- and has seen just that
pub seen-behind : (proto : Proto) (others : Collections) (log : List Op) (more : ℕ → List Op) (hand : Publisher)
    → hand.desk < others.count → HasSeenItsLog others more hand
    → HasSeenItsLog (all_collections proto others) (first_then log more) (among_all hand)
seen-behind proto others log more hand below seen = record {
  level = seen.level;
  sound = subst (λ (p : Proto). IsLog p hand.pass.seen) (sym (proto-behind proto others hand.desk below)) seen.sound;
}

-- a row that learnt each log
pub learns-all : {F : Type 0} (proto : Proto) (others : Collections) (row : F → Rowed) (log : List Op)
    (more : ℕ → List Op) (before after : Several History F) → Continues before.first.seen after.first.seen
    → Continues log after.first.seen
    → LearnsEach others.count more (views_in (row before.others)) (views_in (row after.others))
    → LearnsEach (suc others.count) (first_then log more) (views_in (rowed_with proto row before))
    (views_in (rowed_with proto row after))
learns-all proto others row log more before after own told learns = record {
  later = later;
  told = for-each (λ (number : ℕ). Continues (first_then log more number)
      (nth [] (rowed_with proto row after).seen number)) others.count told learns.told;
}
  where
    later : (number : ℕ) → Continues (nth [] (rowed_with proto row before).seen number)
        (nth [] (rowed_with proto row after).seen number)
    later zero = own
    later (suc number) = learns.later number

-- and has seen just those
pub seen-all : {F : Type 0} (proto : Proto) (others : Collections) (row : F → Rowed) (log : List Op)
    (more : ℕ → List Op) (passes : Several History F) → length passes.first.seen ≡ length log
    → IsLog proto passes.first.seen → HasSeenEach others more (views_in (row passes.others))
    → HasSeenEach (all_collections proto others) (first_then log more) (views_in (rowed_with proto row passes))
seen-all proto others row log more passes level sound seen = record {
  level = for-each (λ (number : ℕ). length (nth [] (rowed_with proto row passes).seen number)
      ≡ length (first_then log more number)) others.count level seen.level;
  sound = for-each (λ (number : ℕ). IsLog ((all_collections proto others).proto number)
      (nth [] (rowed_with proto row passes).seen number)) others.count sound
      (λ number below. subst (λ (p : Proto). IsLog p (nth [] (row passes.others).seen number))
      (sym (proto-behind proto others number below)) (seen.sound number below));
}

-- what was not put anywhere
puts-nothing : (items : List ℕ) (slots : Slotted ℕ) → items ≡ [] → PutsItems items slots slots
puts-nothing items slots none =
    subst (λ (l : List ℕ). PutsItems l slots slots) (sym none)
    (record { items_are = sym (append-nil slots.items); free_is = omega arith })

-- a share of the first desk is with those of the first, and with none of the others
pub puts-first : (hand : Publisher) (count : ℕ) (before after : Slotted ℕ) (others : ℕ → Slotted ℕ) → hand.desk ≡ 0
    → PutsItems (hand.share ∷ []) before after → (number : ℕ) → number < suc count
    → PutsItems (counted_at number hand) (first_then before others number) (first_then after others number)
puts-first hand count before after others desk puts =
    subst (λ (d : ℕ). (number : ℕ) → number < suc count
    → PutsItems (if nat_eq d number then hand.share ∷ [] else []) (first_then before others number)
    (first_then after others number)) (sym desk)
    (for-each (λ (number : ℕ). PutsItems (if nat_eq 0 number then hand.share ∷ [] else [])
    (first_then before others number) (first_then after others number)) count puts
    (λ number below. puts-nothing _ (others number)
    (ap (λ (b : Bool). if b then hand.share ∷ [] else []) (eqb-zero-suc number))))

-- the share of one of the others is with those of its desk
pub puts-behind : (hand : Publisher) (count : ℕ) (first : Slotted ℕ) (before after : ℕ → Slotted ℕ)
    → ((number : ℕ) → number < count → PutsItems (counted_at number hand) (before number) (after number))
    → (number : ℕ) → number < suc count
    → PutsItems (counted_at number (among_all hand)) (first_then first before number) (first_then first after number)
puts-behind hand count first before after puts =
    for-each (λ (number : ℕ). PutsItems (counted_at number (among_all hand)) (first_then first before number)
    (first_then first after number)) count
    (puts-nothing _ first (ap if-so (eqb-suc-zero hand.desk)))
    (λ number below. subst (λ (b : Bool). PutsItems (if-so b) (before number) (after number))
    (sym (eqb-suc-suc hand.desk number)) (puts number below))
  where
    if-so : Bool → List ℕ
    if-so b = if b then hand.share ∷ [] else []

-- the ends of all desks
pub closed-all : (ends : List Closed) (log : List Op) (more : ℕ → List Op) (count : ℕ) (end : Closed)
    (middle after : List Closed) → end ≡ closed_of log → middle ≡ ends ++ end ∷ []
    → after ≡ middle ++ map closed_of (first_of count more)
    → after ≡ ends ++ map closed_of (first_of (suc count) (first_then log more))
closed-all ends log more count end middle after is put closed =
    closed ∙ ap (λ (l : List Closed). l ++ map closed_of (first_of count more))
    (put ∙ ap (λ (e : Closed). ends ++ e ∷ []) is)
    ∙ append_assoc ends (closed_of log ∷ []) (map closed_of (first_of count more))

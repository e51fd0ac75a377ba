-- Each step of a publication keeps the rule.
use Rattle.std.proofs.Common.{◌≡◌, ◌≢◌, ℕ, Bool, true, false, List, [], ◌∷◌, ◌++◌, length, set, inl, inr, refl, sym, ap, subst, ⊎_elim, arith, length-append}
use Rattle.std.specs.Prelude.{nat_lt, if◌then◌else◌}
use mathlib.Core.Option.{some}
use lib.ListN.{get_elem?}
use Rattle.atomic_table.proofs.Lists.{at_set, at_snoc}
use Rattle.logbook.specs.Pages.{Book}
use Rattle.fm_model.specs.declared.op.Op.{Op}
use Rattle.fm_model.specs.declared.proto.Proto.{Proto}
use Rattle.fm_model.specs.Collection.{coll}
use Rattle.fm_model.specs.Site.{IsPrototype}
use Rattle.fm_edition.specs.Log.{held_of, CanFollow, IsLog}
use Rattle.fm_edition.proofs.EditionLemmas.{IsLog-push}
use Rattle.pub_look.specs.History.{Continues, Keeps}
use Rattle.pub_look.proofs.HistoryLemmas.{continues_on, continues_itself}
use Rattle.pub_pass.specs.declared.rule.Known.{Known}
use Rattle.pub_pass.specs.Copies.{longer, IsShown}
use Rattle.pub_pass.proofs.Entering.{comes, enters, newcomer_begins}
use Rattle.pub_snap.specs.Rule.{AllKnown, IsKept, Publication}
use Rattle.pub_snap.specs.Steps.{caught_up, copy_of, entered, looks_after, opened, published, receipted, seat_after, unseated, with_learnt, with_seat}
use Rattle.pub_snap.proofs.Keeping.{shows}

-- what a log leaves stands for it
keeps_log : (proto : Proto) (log : List Op) → IsPrototype proto → IsLog proto log → Keeps (held_of proto log) log
keeps_log proto log is sound = record { prototype = is; log = sound; stands = refl }

pub rule-opened : (book : Book) (proto : Proto) → IsPrototype proto → IsKept book proto (opened book proto)
rule-opened book proto is = record {
  desk = record { sound = tt; over = refl; whole = refl; seen = refl; counted = refl };
  readers = record { same = refl; over = refl; begin = newcomer_begins [] [] unseated (λ i k at. absurd cc) refl };
  stands = keeps_log proto [] is tt;
  other = keeps_log proto [] is tt;
  behind = inl refl;
  learnt = λ i list at. absurd cc;
}

-- a step that changes nothing but what seats have seen
of_seats : (book : Book) (proto : Proto) (now : Publication) (seats : List Known) → IsKept book proto now
    → IsShown book proto now.shown seats → IsKept book proto (record now { seats = seats })
of_seats book proto now seats is readers = record {
  desk = is.desk;
  readers = readers;
  stands = is.stands;
  other = is.other;
  behind = is.behind;
  learnt = is.learnt;
}

-- a step that changes nothing but what is learnt
of_learnt : (book : Book) (proto : Proto) (now : Publication) (lists : List (List Op)) → IsKept book proto now
    → AllKnown now.log lists → IsKept book proto (record now { learnt = lists })
of_learnt book proto now lists is learnt = record {
  desk = is.desk;
  readers = is.readers;
  stands = is.stands;
  other = is.other;
  behind = is.behind;
  learnt = learnt;
}

pub rule-seat : (book : Book) (proto : Proto) (now : Publication) → IsKept book proto now
    → IsKept book proto (with_seat now)
rule-seat book proto now is =
    of_seats book proto now (now.seats ++ unseated ∷ []) is (comes book proto now.shown now.seats is.readers)

pub rule-entered : (book : Book) (proto : Proto) (now : Publication) (seat : ℕ) (before : Known) (looking : Bool)
    → IsKept book proto now → get_elem? now.seats seat ≡ some before
    → IsKept book proto (entered now seat before looking)
rule-entered book proto now seat before looking is at =
    of_seats book proto now (set now.seats seat (seat_after before now.shown.log looking)) is
    (enters book proto now.shown now.seats seat before (looks_after before.looks now.shown.log looking) is.readers at).0

pub rule-caught_up : (book : Book) (proto : Proto) (now : Publication) → IsKept book proto now
    → IsKept book proto (caught_up now)
rule-caught_up book proto now is = record {
  desk = is.desk;
  readers = is.readers;
  stands = is.stands;
  other = is.stands;
  behind = inl is.desk.whole;
  learnt = is.learnt;
}

-- lists that are beginnings of a log are so of one that goes on from it
known_on : (log more : List Op) (lists : List (List Op)) → AllKnown log lists → Continues log more
    → AllKnown more lists
known_on log more lists all on i list at = continues_on list log more (all i list at) on

pub rule-published : (book : Book) (proto : Proto) (now : Publication) (seat : ℕ) (op : Op) → IsKept book proto now
    → CanFollow proto (coll now.log) op → IsKept book proto (published book proto now seat op)
rule-published book proto now seat op is can =
    let log = now.log ++ op ∷ [] in
    let sound : IsLog proto log = IsLog-push proto now.log op is.desk.sound can in
    let on : Continues now.shown.log log = (op ∷ [], ap (λ (l : List Op). l ++ op ∷ []) (sym is.desk.whole)) in
    let proper : IsPrototype proto = subst IsPrototype is.readers.over is.stands.prototype in
    record {
      desk = record {
        sound = sound;
        over = refl;
        whole = refl;
        seen = refl;
        counted = grind (arith, is.desk.counted, length-append);
      };
      readers = shows book proto now.shown (copy_of book proto log) now.seats seat now.writer.looks is.readers refl refl
          on;
      stands = keeps_log proto log proper sound;
      other = is.stands;
      behind = inr (op, ap (λ (l : List Op). l ++ op ∷ []) (sym is.desk.whole));
      learnt = known_on now.log log now.learnt is.learnt (op ∷ [], refl);
    }

pub rule-receipted : (book : Book) (proto : Proto) (now : Publication) → IsKept book proto now
    → IsKept book proto (receipted now)
rule-receipted book proto now is = of_learnt book proto now (now.learnt ++ now.log ∷ []) is
    (λ i list at. ⊎_elim (is.learnt i list)
    (λ (e : now.log ≡ list). subst (λ (l : List Op). Continues l now.log) e (continues_itself now.log))
    (at_snoc now.learnt now.log list i at))

-- of two lists that a log begins with, the longer is one
longer_begins : (log own told : List Op) (b : Bool) → Continues own log → Continues told log
    → Continues (if b then told else own) log
longer_begins log own told true p q = q
longer_begins log own told false p q = p

pub rule-learnt : (book : Book) (proto : Proto) (now : Publication) (index other : ℕ) (own told : List Op)
    → IsKept book proto now → get_elem? now.learnt index ≡ some own → get_elem? now.learnt other ≡ some told
    → IsKept book proto (with_learnt now index own told)
rule-learnt book proto now index other own told is mine its =
    let begins : Continues (longer own told) now.log =
    longer_begins now.log own told (nat_lt (length own) (length told))
    (is.learnt index own mine) (is.learnt other told its)
    in
    of_learnt book proto now (set now.learnt index (longer own told)) is
    (λ i list at. ⊎_elim
    (λ (here : (i ≡ index) × (longer own told ≡ list)). subst (λ (l : List Op). Continues l now.log) here.1 begins)
    (λ (there : (i ≢ index) × (get_elem? now.learnt i ≡ some list)). is.learnt i list there.1)
    (at_set now.learnt index i (longer own told) list at))

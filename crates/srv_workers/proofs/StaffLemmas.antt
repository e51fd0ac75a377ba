-- Workers that are put behind others.
use Rattle.std.proofs.Common.{◌≡◌, ℕ, ◌+◌, ◌<◌, List, [], ◌∷◌, ◌++◌, length, take, drop, All, Option, Some, None, refl, sym, ap, subst, ◌∙◌, append_assoc, append-nil, take-add, drop-drop, arith}
use Rattle.std.proofs.lemmas.List.{length-drop}
use Rattle.std.proofs.lemmas.List.Elements.{All-head, All-push, filter_map-append}
use Rattle.std.specs.List.{cons_option, filter_map}
use Rattle.srv_door.specs.declared.door_report.DoorReport.{DoorReport}
use Rattle.srv_ingest.specs.declared.report.ExpireReport.{ExpireReport}
use Rattle.srv_ingest.specs.declared.report.IngestReport.{IngestReport}
use Rattle.srv_workers.specs.declared.worker.Worker.{Worker}
use Rattle.srv_workers.specs.declared.worker.Worker.TheVariants.{Serve, TakeIn, LetGo}
use Rattle.srv_workers.specs.Desks.{IsNew, IsUnseen, Means}
use Rattle.srv_workers.specs.Workers.{Adds, clock_hand, clock_of, door_of, inbox_hand, inbox_of, IsFirst}

-- one item more of which something is made
more-some : {T X : Type 0} (made : T → Option X) (before after : List T) (t : T) (xs : List X) (x : X)
    → made t ≡ Some x → filter_map made after ≡ filter_map made before ++ xs
    → filter_map made (after ++ t ∷ []) ≡ filter_map made before ++ (xs ++ x ∷ [])
more-some {T} {X} made before after t xs x is are =
    filter_map-append made after (t ∷ [])
    ∙ ap (λ (o : Option X). filter_map made after ++ cons_option o []) is
    ∙ ap (λ (l : List X). l ++ x ∷ []) are
    ∙ append_assoc (filter_map made before) xs (x ∷ [])

-- one item more of which nothing is made
more-none : {T X : Type 0} (made : T → Option X) (before after : List T) (t : T) (xs : List X)
    → made t ≡ None → filter_map made after ≡ filter_map made before ++ xs
    → filter_map made (after ++ t ∷ []) ≡ filter_map made before ++ xs
more-none {T} {X} made before after t xs is are =
    filter_map-append made after (t ∷ [])
    ∙ ap (λ (o : Option X). filter_map made after ++ cons_option o []) is
    ∙ append-nil (filter_map made after) ∙ are

-- no worker was put behind others
pub Adds-none : {D I C E H : Type 0} (means : Means E H) (staff : List (Worker D I C E H))
    → Adds means staff staff [] [] [] [] []
Adds-none means staff = record {
  doors_are = sym (append-nil (filter_map door_of staff));
  inboxes_are = sym (append-nil (filter_map inbox_of staff));
  clocks_are = sym (append-nil (filter_map clock_of staff));
  at_inboxes_are = sym (append-nil (filter_map inbox_hand staff));
  at_clocks_are = sym (append-nil (filter_map clock_hand staff));
  first = λ all. all;
}

-- what follows the first n items, without its first
pub drop-next : {X : Type 0} (n : ℕ) (xs rest : List X) (x : X) (more : List X) → rest ≡ drop n xs → rest ≡ x ∷ more
    → more ≡ drop (n + 1) xs
drop-next {X} n xs rest x more is first =
    ap (λ (l : List X). drop 1 l) (sym first ∙ is) ∙ drop-drop 1 n xs

-- the first n items and the next
pub take-next : {X : Type 0} (n : ℕ) (xs rest : List X) (x : X) (more : List X) → rest ≡ drop n xs → rest ≡ x ∷ more
    → take (n + 1) xs ≡ take n xs ++ x ∷ []
take-next {X} n xs rest x more is first =
    take-add n 1 xs ∙ ap (λ (l : List X). take n xs ++ take 1 l) (sym is ∙ first)

-- some items are left
pub left-some : {X : Type 0} (n : ℕ) (xs rest : List X) → n < length xs → rest ≡ drop n xs → 0 < length rest
left-some {X} n xs rest below is = omega (arith, below, ap (λ (l : List X). length l) is, length-drop n xs)

-- what holds of all holds of the first
pub All-front : {X : Type 0} (P : X → Type 0) (xs more : List X) (x : X) → All P xs → xs ≡ x ∷ more → P x
All-front {X} P xs more x all is = All-head P x more (subst (λ (l : List X). All P l) is all)

-- all that was put before, and one more
first-more : {D I C E H : Type 0} (means : Means E H) (before after : List (Worker D I C E H)) (w : Worker D I C E H)
    → (All (IsFirst means) before → All (IsFirst means) after) → IsFirst means w → All (IsFirst means) before
    → All (IsFirst means) (after ++ w ∷ [])
first-more means before after w first new all =
    All-push (IsFirst means) after w (first all) new

-- the next door of some
pub Adds-next-door : {D I C E H : Type 0} (means : Means E H) (before after after' : List (Worker D I C E H)) (n : ℕ)
    (doors rest : List D) (door : D) (more : List D) (number : ℕ) (eyes : E) (report : DoorReport)
    → Adds means before after (take n doors) [] [] [] [] → rest ≡ drop n doors → rest ≡ door ∷ more
    → IsUnseen (means.views eyes) → after' ≡ after ++ Serve door number eyes report ∷ []
    → Adds means before after' (take (n + 1) doors) [] [] [] []
Adds-next-door {D} {I} {C} {E} {H} means before after after' n doors rest door more number eyes report adds is first
    unseen put =
    subst (λ (ws : List (Worker D I C E H)). Adds means before ws (take (n + 1) doors) [] [] [] []) (sym put)
    (subst (λ (ds : List D). Adds means before (after ++ worker ∷ []) ds [] [] [] [])
    (sym (take-next n doors rest door more is first)) (record {
      doors_are = more-some door_of before after worker (take n doors) door refl adds.doors_are;
      inboxes_are = more-none inbox_of before after worker [] refl adds.inboxes_are;
      clocks_are = more-none clock_of before after worker [] refl adds.clocks_are;
      at_inboxes_are = more-none inbox_hand before after worker [] refl adds.at_inboxes_are;
      at_clocks_are = more-none clock_hand before after worker [] refl adds.at_clocks_are;
      first = first-more means before after worker adds.first unseen;
    }))
  where
    worker : Worker D I C E H
    worker = Serve door number eyes report

-- the next inbox of some
pub Adds-next-inbox : {D I C E H : Type 0} (means : Means E H) (before after after' : List (Worker D I C E H)) (n : ℕ)
    (inboxes rest : List I) (inbox : I) (more : List I) (hands others : List H) (hand : H) (fewer : List H)
    (report : IngestReport) → Adds means before after [] (take n inboxes) [] (take n hands) []
    → rest ≡ drop n inboxes → rest ≡ inbox ∷ more → others ≡ drop n hands → others ≡ hand ∷ fewer
    → IsNew means.them (means.publisher hand) → after' ≡ after ++ TakeIn inbox hand report ∷ []
    → Adds means before after' [] (take (n + 1) inboxes) [] (take (n + 1) hands) []
Adds-next-inbox {D} {I} {C} {E} {H} means before after after' n inboxes rest inbox more hands others hand fewer report
    adds is first are next new put =
    subst (λ (ws : List (Worker D I C E H)). Adds means before ws [] (take (n + 1) inboxes) [] (take (n + 1) hands) [])
    (sym put)
    (subst (λ (ps : List I). Adds means before (after ++ worker ∷ []) [] ps [] (take (n + 1) hands) [])
    (sym (take-next n inboxes rest inbox more is first))
    (subst (λ (hs : List H). Adds means before (after ++ worker ∷ []) [] (take n inboxes ++ inbox ∷ []) [] hs [])
    (sym (take-next n hands others hand fewer are next)) (record {
      doors_are = more-none door_of before after worker [] refl adds.doors_are;
      inboxes_are = more-some inbox_of before after worker (take n inboxes) inbox refl adds.inboxes_are;
      clocks_are = more-none clock_of before after worker [] refl adds.clocks_are;
      at_inboxes_are = more-some inbox_hand before after worker (take n hands) hand refl adds.at_inboxes_are;
      at_clocks_are = more-none clock_hand before after worker [] refl adds.at_clocks_are;
      first = first-more means before after worker adds.first new;
    })))
  where
    worker : Worker D I C E H
    worker = TakeIn inbox hand report

-- the next clock of some
pub Adds-next-clock : {D I C E H : Type 0} (means : Means E H) (before after after' : List (Worker D I C E H)) (n : ℕ)
    (clocks rest : List C) (clock : C) (more : List C) (hands others : List H) (hand : H) (fewer : List H)
    (report : ExpireReport) → Adds means before after [] [] (take n clocks) [] (take n hands)
    → rest ≡ drop n clocks → rest ≡ clock ∷ more → others ≡ drop n hands → others ≡ hand ∷ fewer
    → IsNew means.them (means.publisher hand) → after' ≡ after ++ LetGo clock hand report ∷ []
    → Adds means before after' [] [] (take (n + 1) clocks) [] (take (n + 1) hands)
Adds-next-clock {D} {I} {C} {E} {H} means before after after' n clocks rest clock more hands others hand fewer report
    adds is first are next new put =
    subst (λ (ws : List (Worker D I C E H)). Adds means before ws [] [] (take (n + 1) clocks) [] (take (n + 1) hands))
    (sym put)
    (subst (λ (cs : List C). Adds means before (after ++ worker ∷ []) [] [] cs [] (take (n + 1) hands))
    (sym (take-next n clocks rest clock more is first))
    (subst (λ (hs : List H). Adds means before (after ++ worker ∷ []) [] [] (take n clocks ++ clock ∷ []) [] hs)
    (sym (take-next n hands others hand fewer are next)) (record {
      doors_are = more-none door_of before after worker [] refl adds.doors_are;
      inboxes_are = more-none inbox_of before after worker [] refl adds.inboxes_are;
      clocks_are = more-some clock_of before after worker (take n clocks) clock refl adds.clocks_are;
      at_inboxes_are = more-none inbox_hand before after worker [] refl adds.at_inboxes_are;
      at_clocks_are = more-some clock_hand before after worker (take n hands) hand refl adds.at_clocks_are;
      first = first-more means before after worker adds.first new;
    })))
  where
    worker : Worker D I C E H
    worker = LetGo clock hand report

-- workers for all devices, of which there were none before
pub Adds-all : {D I C E H : Type 0} (means : Means E H) (none first second all staff : List (Worker D I C E H))
    (doors : List D) (inboxes : List I) (clocks : List C) (at_inboxes at_clocks : List H) → none ≡ [] → staff ≡ all
    → Adds means none first doors [] [] [] [] → Adds means first second [] inboxes [] at_inboxes []
    → Adds means second all [] [] clocks [] at_clocks → Adds means [] staff doors inboxes clocks at_inboxes at_clocks
Adds-all {D} {I} {C} {E} {H} means none first second all staff doors inboxes clocks at_inboxes at_clocks empty same
    a b c =
    subst (λ (l : List (Worker D I C E H)). Adds means [] l doors inboxes clocks at_inboxes at_clocks) (sym same)
    (subst (λ (l : List (Worker D I C E H)). Adds means l all doors inboxes clocks at_inboxes at_clocks) empty (record {
      doors_are = c.doors_are ∙ append-nil (filter_map door_of second) ∙ b.doors_are
          ∙ append-nil (filter_map door_of first) ∙ a.doors_are;
      inboxes_are = c.inboxes_are ∙ append-nil (filter_map inbox_of second) ∙ b.inboxes_are
          ∙ ap (λ (l : List I). l ++ inboxes) (a.inboxes_are ∙ append-nil (filter_map inbox_of none));
      clocks_are = c.clocks_are ∙ ap (λ (l : List C). l ++ clocks) (b.clocks_are
          ∙ append-nil (filter_map clock_of first) ∙ a.clocks_are ∙ append-nil (filter_map clock_of none));
      at_inboxes_are = c.at_inboxes_are ∙ append-nil (filter_map inbox_hand second) ∙ b.at_inboxes_are
          ∙ ap (λ (l : List H). l ++ at_inboxes) (a.at_inboxes_are ∙ append-nil (filter_map inbox_hand none));
      at_clocks_are = c.at_clocks_are ∙ ap (λ (l : List H). l ++ at_clocks) (b.at_clocks_are
          ∙ append-nil (filter_map clock_hand first) ∙ a.at_clocks_are ∙ append-nil (filter_map clock_hand none));
      first = λ new. c.first (b.first (a.first new));
    }))

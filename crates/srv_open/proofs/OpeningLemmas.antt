-- Doors, inboxes and clocks that are opened one after the other.
use Rattle.std.proofs.Common.{◌≡◌, inl, inr, ◌<◌, ℕ, zero, suc, All, List, [], ◌∷◌, ◌++◌, length, map, take, drop, get_or, add-one, Option, Some, None, refl, sym, ap, subst, ◌∙◌, arith}
use Rattle.std.proofs.lemmas.List.{drop-drop, length-append, map-append}
use Rattle.std.proofs.lemmas.List.Elements.{All-append, All-cons, All-nil}
use Rattle.std.specs.Prelude.{IfSome}
use Rattle.fm_base.specs.declared.fail.Fail.{Fail}
use Rattle.fm_base.specs.declared.fail.Fail.TheVariants.{NoMemory, Fault}
use Rattle.dev_traits.specs.Cause.{count_after}
use Rattle.dev_traits.specs.Clock.{Moments}
use Rattle.dev_traits.specs.declared.door.DoorAsked.{DoorAsked}
use Rattle.dev_traits.specs.Door.{DoorShown}
use Rattle.dev_traits.specs.Inbox.{InboxShown}
use Rattle.dev_traits.specs.Opener.{Stock, IsNextDoor, IsNextInbox, after_clock, after_door, after_inbox, door_asked, inbox_asked, next_clock}
use Rattle.srv_alone.specs.declared.end.End.{End}
use Rattle.srv_open.specs.Opening.{OpensClocks, OpensDoors, OpensInboxes, StopsShort, after_doors, after_inboxes, asked_doors, asked_inboxes, end_of}

-- one item more is there
length-more : {X : Type 0} (xs : List X) (x : X) → length (xs ++ x ∷ []) ≡ suc (length xs)
length-more xs x = length-append xs (x ∷ []) ∙ add-one (length xs)

-- a fact of all holds with one more
All-more : {X : Type 0} (P : X → Type 0) (xs : List X) (x : X) → All P xs → P x → All P (xs ++ x ∷ [])
All-more P xs x all has = All-append P xs (x ∷ []) all (All-cons P x [] has (All-nil P))

-- an item less is left
drop-more : {X : Type 0} (n : ℕ) (xs : List X) → drop 1 (drop n xs) ≡ drop (suc n) xs
drop-more n xs = drop-drop 1 n xs ∙ ap (λ (k : ℕ). drop k xs) (add-one n)

-- what the first doors show, with one more
take-door : {D L : Type 0} (shown : D → DoorShown L) (asked : DoorAsked) (n : ℕ) (doors : List D) (door : D)
    → IsNextDoor shown (drop n doors) asked door
    → take (suc n) (asked_doors shown asked doors) ≡ take n (asked_doors shown asked doors) ++ shown door ∷ []
take-door shown asked zero [] door next = absurd next
take-door {D} {L} shown asked zero (first ∷ more) door next = ap (λ (s : DoorShown L). s ∷ []) (sym next)
take-door shown asked (suc n) [] door next = absurd next
take-door {D} {L} shown asked (suc n) (first ∷ more) door next =
    ap (λ (l : List (DoorShown L)). door_asked asked (shown first) ∷ l) (take-door shown asked n more door next)

-- what the first inboxes show, with one more
take-inbox : {I : Type 0} (shown : I → InboxShown) (folders : List (List ℕ)) (n : ℕ) (folder : List ℕ)
    (inboxes : List I) (inbox : I) → n < length folders → folder ≡ get_or folders n folder
    → IsNextInbox shown (drop n inboxes) folder inbox
    → take (suc n) (asked_inboxes shown folders inboxes)
    ≡ take n (asked_inboxes shown folders inboxes) ++ shown inbox ∷ []
take-inbox shown [] n folder inboxes inbox below is next = absurd (omega (arith, below))
take-inbox shown (f ∷ folders) zero folder [] inbox below is next = absurd next
take-inbox shown (f ∷ folders) zero folder (first ∷ more) inbox below is next =
    ap (λ (s : InboxShown). s ∷ []) (ap (λ (g : List ℕ). inbox_asked g (shown first)) (sym is) ∙ sym next)
take-inbox shown (f ∷ folders) (suc n) folder [] inbox below is next = absurd next
take-inbox shown (f ∷ folders) (suc n) folder (first ∷ more) inbox below is next =
    ap (λ (l : List InboxShown). inbox_asked f (shown first) ∷ l)
    (take-inbox shown folders n folder more inbox (omega (arith, below)) is next)

-- the next device wasn't opened
pub StopsShort-next : {E : Type 0} (end_at : ℕ → End) (opened wanted faults faults' : ℕ) (fail : Fail E)
    → opened < wanted → faults' ≡ count_after faults fail
    → StopsShort end_at opened wanted faults faults' (end_of fail (end_at opened))
StopsShort-next end_at opened wanted faults faults' NoMemory few cause = inl (refl, cause)
StopsShort-next end_at opened wanted faults faults' (Fault e) few cause = inr (refl, few, cause)

-- no door was opened
pub OpensDoors-none : {D I C L : Type 0} (shown : D → DoorShown L) (asked : DoorAsked) (opener : Option (Stock D I C))
    (doors : List D) → doors ≡ [] → OpensDoors shown asked opener opener doors
OpensDoors-none {D} {I} {C} shown asked opener doors is =
    subst (λ (l : List D). OpensDoors shown asked opener opener l) (sym is) (none opener)
  where
    none : (opener : Option (Stock D I C)) → OpensDoors shown asked opener opener []
    none None = record { first = tt; left = refl; calm = All-nil (λ (door : D). (shown door).faults ≡ 0) }
    none (Some stock) = record { first = refl; left = refl; calm = All-nil (λ (door : D). (shown door).faults ≡ 0) }

-- one door more
pub OpensDoors-more : {D I C L : Type 0} {shown : D → DoorShown L} {asked : DoorAsked}
    {before now after : Option (Stock D I C)} {doors doors' : List D} (door : D)
    → OpensDoors shown asked before now doors
    → IfSome now (λ stock. IsNextDoor shown stock.doors asked door) → after ≡ after_door now
    → (shown door).faults ≡ 0 → doors' ≡ doors ++ door ∷ [] → OpensDoors shown asked before after doors'
OpensDoors-more {D} {I} {C} {L} {shown} {asked} {before} {now} {after} {doors} {doors'} door opens next is calm put =
    subst (λ (l : List D). OpensDoors shown asked before after l) (sym put) (record {
      first = first before opens.first (subst HasNext opens.left next);
      left = is ∙ ap (λ (o : Option (Stock D I C)). after_door o) opens.left ∙ left before;
      calm = All-more (λ (d : D). (shown d).faults ≡ 0) doors door opens.calm calm;
    })
  where
    HasNext : Option (Stock D I C) → Type 0
    HasNext o = IfSome o (λ stock. IsNextDoor shown stock.doors asked door)

    IsFirst : List D → Option (Stock D I C) → Type 0
    IsFirst ds o = IfSome o (λ stock. map shown ds ≡ take (length ds) (asked_doors shown asked stock.doors))

    first : (o : Option (Stock D I C)) → IsFirst doors o → HasNext (after_doors (length doors) o)
        → IsFirst (doors ++ door ∷ []) o
    first None so_far next = tt
    first (Some stock) so_far next =
        map-append shown doors (door ∷ []) ∙ ap (λ (l : List (DoorShown L)). l ++ shown door ∷ []) so_far
        ∙ sym (take-door shown asked (length doors) stock.doors door next)
        ∙ ap (λ (n : ℕ). take n (asked_doors shown asked stock.doors)) (sym (length-more doors door))

    left : (o : Option (Stock D I C))
        → after_door (after_doors (length doors) o) ≡ after_doors (length (doors ++ door ∷ [])) o
    left None = refl
    left (Some stock) = ap (λ (l : List D). Some (record stock { doors = l }))
        (drop-more (length doors) stock.doors
        ∙ ap (λ (n : ℕ). drop n stock.doors) (sym (length-more doors door)))

pub ruleset doors = (OpensDoors-none)

-- no inbox was opened
pub OpensInboxes-none : {D I C : Type 0} (shown : I → InboxShown) (folders : List (List ℕ))
    (opener : Option (Stock D I C)) (inboxes : List I) → inboxes ≡ []
    → OpensInboxes shown folders opener opener inboxes
OpensInboxes-none {D} {I} {C} shown folders opener inboxes is =
    subst (λ (l : List I). OpensInboxes shown folders opener opener l) (sym is) (none opener)
  where
    none : (opener : Option (Stock D I C)) → OpensInboxes shown folders opener opener []
    none None = record { first = tt; left = refl; calm = All-nil (λ (i : I). (shown i).faults ≡ 0) }
    none (Some stock) = record { first = refl; left = refl; calm = All-nil (λ (i : I). (shown i).faults ≡ 0) }

-- one inbox more
pub OpensInboxes-more : {D I C : Type 0} (shown : I → InboxShown) (folders : List (List ℕ)) (n : ℕ) (folder : List ℕ)
    (before now after : Option (Stock D I C)) (inboxes inboxes' : List I) (inbox : I)
    → OpensInboxes shown folders before now inboxes → length inboxes ≡ n → n < length folders
    → folder ≡ get_or folders n folder → IfSome now (λ stock. IsNextInbox shown stock.inboxes folder inbox)
    → after ≡ after_inbox now → (shown inbox).faults ≡ 0 → inboxes' ≡ inboxes ++ inbox ∷ []
    → OpensInboxes shown folders before after inboxes'
OpensInboxes-more {D} {I} {C} shown folders n folder before now after inboxes inboxes' inbox opens count below at next
    is calm put =
    subst (λ (l : List I). OpensInboxes shown folders before after l) (sym put) (record {
      first = first before opens.first (subst HasNext opens.left next);
      left = is ∙ ap (λ (o : Option (Stock D I C)). after_inbox o) opens.left ∙ left before;
      calm = All-more (λ (i : I). (shown i).faults ≡ 0) inboxes inbox opens.calm calm;
    })
  where
    HasNext : Option (Stock D I C) → Type 0
    HasNext o = IfSome o (λ stock. IsNextInbox shown stock.inboxes folder inbox)

    IsFirst : List I → Option (Stock D I C) → Type 0
    IsFirst is o = IfSome o (λ stock. map shown is ≡ take (length is) (asked_inboxes shown folders stock.inboxes))

    first : (o : Option (Stock D I C)) → IsFirst inboxes o → HasNext (after_inboxes (length inboxes) o)
        → IsFirst (inboxes ++ inbox ∷ []) o
    first None so_far next = tt
    first (Some stock) so_far next =
        map-append shown inboxes (inbox ∷ []) ∙ ap (λ (l : List InboxShown). l ++ shown inbox ∷ []) so_far
        ∙ sym (take-inbox shown folders (length inboxes) folder stock.inboxes inbox (omega (arith, below, count))
        (subst (λ (k : ℕ). folder ≡ get_or folders k folder) (sym count) at) next)
        ∙ ap (λ (k : ℕ). take k (asked_inboxes shown folders stock.inboxes)) (sym (length-more inboxes inbox))

    left : (o : Option (Stock D I C))
        → after_inbox (after_inboxes (length inboxes) o) ≡ after_inboxes (length (inboxes ++ inbox ∷ [])) o
    left None = refl
    left (Some stock) = ap (λ (l : List I). Some (record stock { inboxes = l }))
        (drop-more (length inboxes) stock.inboxes
        ∙ ap (λ (k : ℕ). drop k stock.inboxes) (sym (length-more inboxes inbox)))

pub ruleset inboxes = (OpensInboxes-none)

-- no clock was opened
pub OpensClocks-none : {D I C : Type 0} (shown : C → Option Moments) (ticks : ℕ) (opener : Option (Stock D I C))
    (clocks : List C) → clocks ≡ [] → OpensClocks shown ticks opener opener clocks
OpensClocks-none {D} {I} {C} shown ticks opener clocks is =
    subst (λ (l : List C). OpensClocks shown ticks opener opener l) (sym is) refl

one-clock-more : {D I C : Type 0} (shown : C → Option Moments) (ticks : ℕ) (before now after : Option (Stock D I C))
    (clocks : List C) (clock : C) → OpensClocks shown ticks before now clocks
    → IfSome now (λ stock. shown clock ≡ next_clock shown stock.clocks ticks) → after ≡ after_clock now
    → OpensClocks shown ticks before after (clocks ++ clock ∷ [])
one-clock-more {D} {I} {C} shown ticks before now after [] clock opens next is = (
  subst (λ (o : Option (Stock D I C)). IfSome o (λ stock. shown clock ≡ next_clock shown stock.clocks ticks)) opens
      next,
  is ∙ ap (λ (o : Option (Stock D I C)). after_clock o) opens,
)
one-clock-more shown ticks before now after (first ∷ clocks) clock opens next is =
    (opens.0, one-clock-more shown ticks (after_clock before) now after clocks clock opens.1 next is)

-- one clock more
pub OpensClocks-more : {D I C : Type 0} (shown : C → Option Moments) (ticks : ℕ)
    (before now after : Option (Stock D I C)) (clocks clocks' : List C) (clock : C)
    → OpensClocks shown ticks before now clocks
    → IfSome now (λ stock. shown clock ≡ next_clock shown stock.clocks ticks) → after ≡ after_clock now
    → clocks' ≡ clocks ++ clock ∷ [] → OpensClocks shown ticks before after clocks'
OpensClocks-more {D} {I} {C} shown ticks before now after clocks clocks' clock opens next is put =
    subst (λ (l : List C). OpensClocks shown ticks before after l) (sym put)
    (one-clock-more shown ticks before now after clocks clock opens next is)

pub ruleset clocks = (OpensClocks-none)

-- Devices that are opened one kind after the other.
use Rattle.std.proofs.Common.{◌≡◌, ◌∙◌, inl, inr, ℕ, List, [], length, Option, refl, sym, ap, subst}
use Rattle.dev_traits.specs.Cause.{one_more}
use Rattle.dev_traits.specs.Opener.{Stock}
use Rattle.dev_traits.specs.declared.world.Devices.{Devices}
use Rattle.srv_alone.specs.declared.end.End.{End}
use Rattle.srv_alone.specs.declared.end.End.TheVariants.{DoorFault, InboxFault}
use Rattle.srv_open.specs.Devices.{door_request, OpensDevices, StopsAt, Wanted}
use Rattle.srv_open.specs.Opening.{OpensDoors, OpensInboxes, StopsShort}
use Rattle.srv_open.specs.Shows.{Shows}
use Rattle.srv_open.proofs.OpeningLemmas.{OpensClocks-none, OpensDoors-none, OpensInboxes-none}

-- only doors were opened
pub OpensDevices-doors : {D I C L : Type 0} (show : Shows D I C L) (wanted : Wanted)
    (before after : Option (Stock D I C)) (doors : List D) (inboxes : List I) (clocks : List C)
    → OpensDoors show.door (door_request wanted) before after doors → inboxes ≡ [] → clocks ≡ []
    → OpensDevices show wanted before after (record { doors = doors; inboxes = inboxes; clocks = clocks })
OpensDevices-doors show wanted before after doors inboxes clocks opens no_inboxes no_clocks = record {
  after_doors = after;
  after_inboxes = after;
  doors = opens;
  inboxes = OpensInboxes-none show.inbox wanted.inboxes after inboxes no_inboxes;
  clocks = OpensClocks-none show.clock wanted.ticks after clocks no_clocks;
}

-- no clock was opened
pub OpensDevices-inboxes : {D I C L : Type 0} (show : Shows D I C L) (wanted : Wanted)
    (before now after : Option (Stock D I C)) (doors : List D) (inboxes : List I) (clocks : List C)
    → OpensDoors show.door (door_request wanted) before now doors
    → OpensInboxes show.inbox wanted.inboxes now after inboxes → clocks ≡ []
    → OpensDevices show wanted before after (record { doors = doors; inboxes = inboxes; clocks = clocks })
OpensDevices-inboxes show wanted before now after doors inboxes clocks opens opens' no_clocks = record {
  after_doors = now;
  after_inboxes = after;
  doors = opens;
  inboxes = opens';
  clocks = OpensClocks-none show.clock wanted.ticks after clocks no_clocks;
}

-- nothing was opened
pub OpensDevices-none : {D I C L : Type 0} (show : Shows D I C L) (wanted : Wanted) (opener : Option (Stock D I C))
    (devices : Devices D I C) → devices ≡ record { doors = []; inboxes = []; clocks = [] }
    → OpensDevices show wanted opener opener devices
OpensDevices-none {D} {I} {C} show wanted opener devices none =
    subst (λ (d : Devices D I C). OpensDevices show wanted opener opener d) (sym none)
    (OpensDevices-doors show wanted opener opener [] [] []
    (OpensDoors-none show.door (door_request wanted) opener [] refl) refl refl)

-- not all doors were opened
pub StopsAt-doors : {D I C : Type 0} (wanted : Wanted) (doors : List D) (inboxes : List I) (clocks : List C)
    (faults faults' : ℕ) (end : End) → StopsShort DoorFault (length doors) wanted.workers faults faults' end
    → inboxes ≡ [] → clocks ≡ []
    → StopsAt wanted (record { doors = doors; inboxes = inboxes; clocks = clocks }) faults faults' end
StopsAt-doors {D} {I} {C} wanted doors inboxes clocks faults faults' end short no_inboxes no_clocks = elim short [
  | inl memory ↦ subst Stops (sym memory.0) memory.1
  | inr next ↦ subst Stops (sym next.0) (record {
    number_is = refl;
    few_doors = next.1;
    no_inboxes = no_inboxes;
    no_clocks = no_clocks;
    cause = next.2;
  })
]
  where
    Stops : End → Type 0
    Stops e = StopsAt wanted (record { doors = doors; inboxes = inboxes; clocks = clocks }) faults faults' e

-- all doors were opened, without a failure, and not all inboxes
pub StopsAt-inboxes : {D I C : Type 0} (wanted : Wanted) (doors : List D) (inboxes : List I) (clocks : List C)
    (faults now faults' : ℕ) (end : End) → length doors ≡ wanted.workers → now ≡ faults
    → StopsShort InboxFault (length inboxes) (length wanted.inboxes) now faults' end → clocks ≡ []
    → StopsAt wanted (record { doors = doors; inboxes = inboxes; clocks = clocks }) faults faults' end
StopsAt-inboxes {D} {I} {C} wanted doors inboxes clocks faults now faults' end all calm short no_clocks = elim short [
  | inl memory ↦ subst Stops (sym memory.0) (memory.1 ∙ calm)
  | inr next ↦ subst Stops (sym next.0) (record {
    doors = all;
    number_is = refl;
    few_inboxes = next.1;
    no_clocks = no_clocks;
    cause = next.2 ∙ ap one_more calm;
  })
]
  where
    Stops : End → Type 0
    Stops e = StopsAt wanted (record { doors = doors; inboxes = inboxes; clocks = clocks }) faults faults' e

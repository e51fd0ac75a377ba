-- The end of a run of `serve` by its workers' reports.
use Rattle.std.proofs.Common.{◌≡◌, ◌⊎◌, inl, inr, ℕ, zero, suc, ◌+◌, Bool, true, false, if◌then◌else◌, nat_lt, List, [], ◌∷◌, length, map, All, slice_get, Option, Some, None, IsSomeAnd, refl, sym, ap, subst, ◌∙◌, arith}
use Rattle.std.proofs.lemmas.List.{length-map}
use Rattle.std.proofs.lemmas.List.Elements.{All-head, All-tail}
use Rattle.std.specs.Option.{option_or}
use Rattle.srv_door.specs.declared.door_report.DoorEnd.{DoorEnd}
use Rattle.srv_door.specs.declared.door_report.DoorEnd.TheVariants as door_ends
use Rattle.srv_door.specs.declared.door_report.DoorReport.{DoorReport}
use Rattle.srv_ingest.specs.declared.report.ExpireReport.{ExpireReport}
use Rattle.srv_ingest.specs.declared.report.IngestEnd.{IngestEnd}
use Rattle.srv_ingest.specs.declared.report.IngestEnd.TheVariants as inbox_ends
use Rattle.srv_ingest.specs.declared.report.IngestReport.{IngestReport}
use Rattle.srv_words.proofs.SomeLemmas.{or_some}
use Rattle.srv_alone.specs.declared.end.End.{End}
use Rattle.srv_alone.specs.declared.end.End.TheVariants.{NoMemory, DoorFault, InboxFault}
use Rattle.srv_closing.specs.Closing.{clock_end, door_end, end_at_door, end_at_inbox, first_end_of, first_from, inbox_end, short_end}

-- what holds of the first end of some devices holds of the end at one of them
pub at-device : {R : Type 0} (end_of : ℕ → R → Option End) (k : ℕ) (reports : List R) (end : End)
    → first_from end_of k reports ≡ Some end
    → (i : ℕ) × IsSomeAnd (slice_get reports i) (λ report. end_of (k + i) report ≡ Some end)
unfolding first_from
at-device end_of k [] end is = absurd cc
at-device {R} end_of k (report ∷ more) end is =
    or_some (end_of k report) (first_from end_of (k + 1) more) end is
    (λ here. (0, subst (λ (n : ℕ). end_of n report ≡ Some end) (omega arith) here))
    (λ first. after (at-device end_of (k + 1) more end first))
  where
    Found : ℕ → List R → Type 0
    Found n reports = (i : ℕ) × IsSomeAnd (slice_get reports i) (λ r. end_of (n + i) r ≡ Some end)

    later : (i : ℕ) (o : Option R) → IsSomeAnd o (λ r. end_of (k + 1 + i) r ≡ Some end)
        → IsSomeAnd o (λ r. end_of (k + suc i) r ≡ Some end)
    later i (Some r) has = subst (λ (n : ℕ). end_of n r ≡ Some end) (omega arith) has
    later i None has = absurd has

    after : Found (k + 1) more → Found k (report ∷ more)
    after (i, has) = (suc i, later i (slice_get more i) has)

-- memory that ran out blames no device
short-door : (b : Bool) (number : ℕ) → (if b then Some NoMemory else None) ≡ Some (DoorFault number) → ⊥
short-door true number is = cc
short-door false number is = cc

short-inbox : (b : Bool) (number : ℕ) → (if b then Some NoMemory else None) ≡ Some (InboxFault number) → ⊥
short-inbox true number is = cc
short-inbox false number is = cc

-- the number of a door or an inbox that is blamed
abbrev number_of : End → ℕ
number_of (DoorFault number) = number
number_of (InboxFault number) = number
number_of end = 0

abbrev number_in : Option End → ℕ
number_in (Some end) = number_of end
number_in None = 0

-- a door is blamed by its own number, since it failed
pub door-blamed : (at number : ℕ) (end : DoorEnd) (short : ℕ) → end_at_door at end short ≡ Some (DoorFault number)
    → (end ≡ door_ends.DoorFault) × (at ≡ number)
door-blamed at number door_ends.DoorFault short is = (refl, ap number_in is)
door-blamed at number door_ends.Closed short is = absurd (short-door (nat_lt 0 short) number is)

-- an inbox is blamed by its own number, since it failed
pub inbox-blamed : (at number : ℕ) (end : IngestEnd) (short : ℕ) → end_at_inbox at end short ≡ Some (InboxFault number)
    → (end ≡ inbox_ends.InboxFault) × (at ≡ number)
inbox-blamed at number inbox_ends.InboxFault short is = (refl, ap number_in is)
inbox-blamed at number inbox_ends.NoMemory short is = absurd cc
inbox-blamed at number inbox_ends.Done short is = absurd (short-inbox (nat_lt 0 short) number is)

-- an inbox never blames a door, nor a door an inbox
inbox-no-door : (at number : ℕ) (end : IngestEnd) (short : ℕ) → end_at_inbox at end short ≡ Some (DoorFault number) → ⊥
inbox-no-door at number inbox_ends.InboxFault short is = cc
inbox-no-door at number inbox_ends.NoMemory short is = cc
inbox-no-door at number inbox_ends.Done short is = short-door (nat_lt 0 short) number is

door-no-inbox : (at number : ℕ) (end : DoorEnd) (short : ℕ) → end_at_door at end short ≡ Some (InboxFault number) → ⊥
door-no-inbox at number door_ends.DoorFault short is = cc
door-no-inbox at number door_ends.Closed short is = short-inbox (nat_lt 0 short) number is

-- nothing is there of which something false holds
none-such : {R : Type 0} (o : Option R) (P : R → Type 0) → IsSomeAnd o P → ((r : R) → P r → ⊥) → ⊥
none-such (Some r) P has never = never r has
none-such None P has never = absurd has

-- the number of a device that is blamed is where it stands
at-number : {R : Type 0} (P : R → Type 0) (Q : ℕ → R → Type 0) (number : ℕ) (reports : List R)
    → ((i : ℕ) (r : R) → Q i r → P r × (i ≡ number))
    → (i : ℕ) × IsSomeAnd (slice_get reports i) (λ r. Q (0 + i) r)
    → IsSomeAnd (slice_get reports number) P
at-number {R} P Q number reports so (i, has) = there (slice_get reports i) refl has
  where
    there : (o : Option R) → slice_get reports i ≡ o → IsSomeAnd o (λ r. Q (0 + i) r)
        → IsSomeAnd (slice_get reports number) P
    there (Some r) is holds =
        let found = so (0 + i) r holds in
        let same : i ≡ number = omega (arith, found.1) in
        subst (λ (n : ℕ). IsSomeAnd (slice_get reports n) P) same
        (subst (λ (o : Option R). IsSomeAnd o P) (sym is) found.0)
    there None is holds = absurd holds

-- a run that ends at a door ends at one that failed
pub door-end : (doors : List DoorReport) (inboxes : List IngestReport) (clocks : List ExpireReport)
    (number : ℕ) → first_end_of doors inboxes clocks ≡ Some (DoorFault number)
    → IsSomeAnd (slice_get doors number) (λ report. report.end ≡ door_ends.DoorFault)
door-end doors inboxes clocks number is =
    at-doors (or_some (first_from door_end 0 doors) others (DoorFault number) is inl inr)
  where
    others : Option End
    others = option_or (first_from inbox_end 0 inboxes) (first_from clock_end 0 clocks)

    Found : Type 0
    Found = IsSomeAnd (slice_get doors number) (λ report. report.end ≡ door_ends.DoorFault)

    no-inbox : first_from inbox_end 0 inboxes ≡ Some (DoorFault number) → Found
    no-inbox first =
        let found = at-device inbox_end 0 inboxes (DoorFault number) first in
        absurd (none-such (slice_get inboxes found.0)
        (λ (r : IngestReport). end_at_inbox (0 + found.0) r.end r.short ≡ Some (DoorFault number)) found.1
        (λ r has. inbox-no-door (0 + found.0) number r.end r.short has))

    no-clock : first_from clock_end 0 clocks ≡ Some (DoorFault number) → Found
    no-clock first =
        let found = at-device clock_end 0 clocks (DoorFault number) first in
        absurd (none-such (slice_get clocks found.0)
        (λ (r : ExpireReport). short_end r.short ≡ Some (DoorFault number)) found.1
        (λ r has. short-door (nat_lt 0 r.short) number has))

    at-others : (first_from inbox_end 0 inboxes ≡ Some (DoorFault number))
        ⊎ (first_from clock_end 0 clocks ≡ Some (DoorFault number)) → Found
    at-others (inl first) = no-inbox first
    at-others (inr first) = no-clock first

    at-doors : (first_from door_end 0 doors ≡ Some (DoorFault number)) ⊎ (others ≡ Some (DoorFault number))
        → Found
    at-doors (inl first) =
        at-number (λ (r : DoorReport). r.end ≡ door_ends.DoorFault)
        (λ (i : ℕ) (r : DoorReport). end_at_door i r.end r.short ≡ Some (DoorFault number)) number doors
        (λ i r has. door-blamed i number r.end r.short has)
        (at-device door_end 0 doors (DoorFault number) first)
    at-doors (inr first) =
        at-others (or_some (first_from inbox_end 0 inboxes) (first_from clock_end 0 clocks)
        (DoorFault number) first inl inr)

-- a run that ends at an inbox ends at one that failed
pub inbox-end : (doors : List DoorReport) (inboxes : List IngestReport) (clocks : List ExpireReport)
    (number : ℕ) → first_end_of doors inboxes clocks ≡ Some (InboxFault number)
    → IsSomeAnd (slice_get inboxes number) (λ report. report.end ≡ inbox_ends.InboxFault)
inbox-end doors inboxes clocks number is =
    at-doors (or_some (first_from door_end 0 doors) others (InboxFault number) is inl inr)
  where
    others : Option End
    others = option_or (first_from inbox_end 0 inboxes) (first_from clock_end 0 clocks)

    Found : Type 0
    Found = IsSomeAnd (slice_get inboxes number) (λ report. report.end ≡ inbox_ends.InboxFault)

    no-clock : first_from clock_end 0 clocks ≡ Some (InboxFault number) → Found
    no-clock first =
        let found = at-device clock_end 0 clocks (InboxFault number) first in
        absurd (none-such (slice_get clocks found.0)
        (λ (r : ExpireReport). short_end r.short ≡ Some (InboxFault number)) found.1
        (λ r has. short-inbox (nat_lt 0 r.short) number has))

    at-others : (first_from inbox_end 0 inboxes ≡ Some (InboxFault number))
        ⊎ (first_from clock_end 0 clocks ≡ Some (InboxFault number)) → Found
    at-others (inl first) =
        at-number (λ (r : IngestReport). r.end ≡ inbox_ends.InboxFault)
        (λ (i : ℕ) (r : IngestReport). end_at_inbox i r.end r.short ≡ Some (InboxFault number)) number
        inboxes (λ i r has. inbox-blamed i number r.end r.short has)
        (at-device inbox_end 0 inboxes (InboxFault number) first)
    at-others (inr first) = no-clock first

    at-doors : (first_from door_end 0 doors ≡ Some (InboxFault number))
        ⊎ (others ≡ Some (InboxFault number)) → Found
    at-doors (inl first) =
        let found = at-device door_end 0 doors (InboxFault number) first in
        absurd (none-such (slice_get doors found.0)
        (λ (r : DoorReport). end_at_door (0 + found.0) r.end r.short ≡ Some (InboxFault number)) found.1
        (λ r has. door-no-inbox (0 + found.0) number r.end r.short has))
    at-doors (inr first) =
        at-others (or_some (first_from inbox_end 0 inboxes) (first_from clock_end 0 clocks)
        (InboxFault number) first inl inr)

-- a device is as its report says
left-at : {T X R : Type 0} (left : T → X) (report : T → R) (Is : T → Type 0) (Q : R → Type 0) (Z : X → Type 0)
    (runs : List T) (n : ℕ) → All Is runs → ((run : T) → Is run → Q (report run) → Z (left run))
    → IsSomeAnd (slice_get (map report runs) n) Q → IsSomeAnd (slice_get (map left runs) n) Z
left-at left report Is Q Z [] n all so has = absurd has
left-at left report Is Q Z (run ∷ runs) zero all so has = so run (All-head Is run runs all) has
left-at left report Is Q Z (run ∷ runs) (suc n) all so has =
    left-at left report Is Q Z runs n (All-tail Is run runs all) so has

-- what was left at a number is as what is told there says
pub left-where : {T X R : Type 0} (left : T → X) (report : T → R) (Is : T → Type 0) (Q : R → Type 0) (Z : X → Type 0)
    (runs : List T) (after : List X) (reports : List R) (n : ℕ) → map left runs ≡ after → map report runs ≡ reports
    → All Is runs → ((run : T) → Is run → Q (report run) → Z (left run)) → IsSomeAnd (slice_get reports n) Q
    → IsSomeAnd (slice_get after n) Z
left-where {T} {X} {R} left report Is Q Z runs after reports n left_is told all so has =
    subst (λ (xs : List X). IsSomeAnd (slice_get xs n) Z) left_is (left-at left report Is Q Z runs n all so
    (subst (λ (rs : List R). IsSomeAnd (slice_get rs n) Q) (sym told) has))

-- there are as many reports as devices
pub told-count : {T X R : Type 0} (came : T → X) (report : T → R) (runs : List T) {before : List X} {reports : List R}
    → map came runs ≡ before → map report runs ≡ reports → length reports ≡ length before
told-count came report runs came_is told =
    ap length (sym told) ∙ length-map runs report ∙ sym (length-map runs came) ∙ ap length came_is

-- The machine that reads requests, at rest and while it sends. It is long, since it has one fact for each event.
use Rattle.std.proofs.Common.{◌≡◌, ◌≤◌, ◌<◌, ℕ, ◌+◌, ◌-◌, Bool, true, false, cond, Bor, List, [], ◌++◌, length, take, Option, Some, None, refl, sym, ap, subst, ◌∙◌, arith}
use Rattle.std.specs.Prelude.{is_some}
use Rattle.std.proofs.lemmas.Bool.{lt-ltb, le-ltb}
use Rattle.std.proofs.lemmas.List.{take_all}
use Rattle.web_frame.specs.Limit.{MAX_HEAD}
use Rattle.web_frame.specs.Cut.{cut_of, Cut, none_yet, whole, too_long}
use Rattle.web_frame.specs.Items.{bad_head, head_too_long, item_of, request, Item}
use Rattle.web_frame.specs.Stream.{held_after, held_by, held_len, next_by, next_by_item, next_of, target_in, Held}
use Rattle.web_session.specs.declared.action.Action.TheVariants.{Read, Ask, Send}
use Rattle.web_session.specs.declared.action.End.{End}
use Rattle.web_session.specs.declared.event.Event.TheVariants.{Bytes, Answer, Sent, EndOfInput, Fault}
use Rattle.web_session.specs.declared.phase.Phase.{Phase}
use Rattle.web_session.specs.declared.phase.Phase.TheVariants.{Waiting, Asking, Sending, Ended}
use Rattle.web_session.specs.Event.{after_event, after_in}
use Rattle.web_session.specs.Run.{item_asked}
use Rattle.web_session.specs.State.{action_at, action_of, end_after, looked, phase_after, replied, replied_by, sent, resting, State}
use Rattle.web_session.proofs.LookLemmas.{held_after-cut, next_of-cut}
use Rattle.dap_reply.specs.Reply.{is_last}
use Rattle.dap_reply.specs.Served.{asked_of}
use Rattle.dap_reply.proofs.ServedLemmas.{last-ends}
use Rattle.pub_core.specs.Shown.{sending_reply}
use Rattle.pub_core.specs.Standing.{first_item, item_at}
use Rattle.pub_core.proofs.ItemLemmas.{cut-none}

-- ---- asking for the action that is due

-- ---- at rest

-- where a machine stands by the request at the front of what it holds
abbrev pub phase_at : Option Item → Phase
phase_at None = Waiting
phase_at (Some item) = Asking (asked_of item)

phase-item : (item : Item) → phase_after (next_by_item item) ≡ phase_at (Some item)
phase-item (request r target) = refl
phase-item bad_head = refl
phase-item head_too_long = refl

phase-by : (left : List ℕ) (cut : Cut) → phase_after (next_by cut left) ≡ phase_at (item_at cut left)
phase-by left none_yet = refl
phase-by left (whole n) = phase-item (item_of (take n left))
phase-by left too_long = refl

pub phase-first : (left : List ℕ) → phase_after (next_of left) ≡ phase_at (first_item left)
unfolding first_item
phase-first left = ap phase_after (next_of-cut left (cut_of left) refl) ∙ phase-by left (cut_of left)

pub phase-of : (left : List ℕ) (front : Option Item) → first_item left ≡ front
    → phase_after (next_of left) ≡ phase_at front
phase-of left front is = phase-first left ∙ ap phase_at is

-- its next action
pub acts-rest : (left : List ℕ) (count : ℕ) (front : Option Item) → first_item left ≡ front
    → action_of (resting left count) ≡ action_at (phase_at front) (held_after left)
unfolding action_of
acts-rest left count front is = ap (λ (p : Phase). action_at p (held_after left)) (phase-of left front is)

pub held-none : (left : List ℕ) → first_item left ≡ None → held_after left ≡ record { head = []; rest = left }
held-none left is = held_after-cut left none_yet (cut-none left is)

pub reads-rest : (left : List ℕ) (count : ℕ) → first_item left ≡ None
    → action_of (resting left count) ≡ Read (MAX_HEAD - length left)
reads-rest left count is =
    let none : 0 + length left ≡ length left = omega arith in
    acts-rest left count None is
    ∙ ap (λ (h : Held). Read (MAX_HEAD - held_len h)) (held-none left is)
    ∙ ap (λ (n : ℕ). Read (MAX_HEAD - n)) none

pub asks-rest-for : (left : List ℕ) (count : ℕ) (item : Item) → first_item left ≡ Some item
    → action_of (resting left count) ≡ Ask (asked_of item)
asks-rest-for left count item is = acts-rest left count (Some item) is

-- the item that is asked for
said-item : (item : Item) (given : Item) (held : Held) → item_of held.head ≡ item → item ≡ given
    → item_asked (asked_of given) held ≡ given
said-item item (request r target) held head is = ap (λ (i : Item). request r (target_in i)) (head ∙ is)
said-item item bad_head held head is = refl
said-item item head_too_long held head is = refl

said-by : (left : List ℕ) (item : Item) (cut : Cut) → item_at cut left ≡ Some item
    → item_asked (asked_of item) (held_by cut left) ≡ item
said-by left item none_yet is = absurd (cc)
said-by left item (whole n) is =
    let same : item_of (take n left) ≡ item = cc in
    said-item (item_of (take n left)) item (held_by (whole n) left) refl same
said-by left item too_long is =
    let same : head_too_long ≡ item = cc in
    subst (λ (i : Item). item_asked (asked_of i) (held_by too_long left) ≡ i) same refl

pub item-said : (left : List ℕ) (item : Item) → first_item left ≡ Some item
    → item_asked (asked_of item) (held_after left) ≡ item
unfolding first_item
item-said left item is =
    ap (item_asked (asked_of item)) (held_after-cut left (cut_of left) refl) ∙ said-by left item (cut_of left) is

-- ---- events

pub feeds-machine : (left : List ℕ) (count : ℕ) (piece : Bor (List ℕ)) → first_item left ≡ None
    → length piece.now ≤ MAX_HEAD - length left
    → after_event (resting left count) (Bytes piece) ≡ resting (left ++ piece.now) count
unfolding after_event looked
feeds-machine left count piece is fits =
    let none : 0 + length left ≡ length left = omega arith in
    ap (λ (p : Phase). after_in p (resting left count) (Bytes piece)) (phase-of left None is)
    ∙ ap (λ (h : Held). resting (h.rest ++ take (MAX_HEAD - held_len h) piece.now) count) (held-none left is)
    ∙ ap (λ (n : ℕ). resting (left ++ take (MAX_HEAD - n) piece.now) count) none
    ∙ ap (λ (l : List ℕ). resting (left ++ l) count) (take_all (MAX_HEAD - length left) piece.now fits)

pub begins-machine : (left : List ℕ) (count len : ℕ) (item : Item) → first_item left ≡ Some item → 0 < len
    → after_event (resting left count) (Answer len) ≡ sending_reply left count item 0 len
unfolding after_event sent
begins-machine left count len item is some =
    ap (λ (p : Phase). after_in p (resting left count) (Answer len)) (phase-of left (Some item) is)
    ∙ ap (λ (b : Bool). cond b (sending_reply left count item 0 len) (replied (resting left count) (asked_of item)))
    (lt-ltb 0 len some)

pub sends-part-machine : (left : List ℕ) (number count from len : ℕ) (item : Item) → from + count < len
    → after_event (sending_reply left number item from len) (Sent count)
    ≡ sending_reply left number item (from + count) len
unfolding after_event sent
sends-part-machine left number count from len item below =
    ap (λ (b : Bool). cond b (sending_reply left number item (from + count) len)
    (replied (sending_reply left number item from len) (asked_of item))) (lt-ltb (from + count) len below)

sends-whole-by : (left : List ℕ) (number count from len : ℕ) (item : Item) → len ≤ from + count
    → after_event (sending_reply left number item from len) (Sent count)
    ≡ replied_by (end_after (asked_of item) number) (sending_reply left number item from len)
unfolding after_event sent replied
sends-whole-by left number count from len item all =
    ap (λ (b : Bool). cond b (sending_reply left number item (from + count) len)
    (replied (sending_reply left number item from len) (asked_of item))) (le-ltb (from + count) len all)

ends-some : (end : Option End) → is_some end ≡ true → (e : End) × (end ≡ Some e)
ends-some None is = absurd (cc)
ends-some (Some e) is = (e, refl)

ends-none : (end : Option End) → is_some end ≡ false → end ≡ None
ends-none None is = refl
ends-none (Some e) is = absurd (cc)

pub sends-last-machine : (left : List ℕ) (number count from len : ℕ) (item : Item) → len ≤ from + count
    → is_last item (number + 1) ≡ true
    → (e : End) × ((after_event (sending_reply left number item from len) (Sent count)).phase ≡ Ended e)
sends-last-machine left number count from len item all last =
    let found = ends-some (end_after (asked_of item) number) (sym (last-ends item number) ∙ last) in (
      found.0,
      ap (λ (x : State). x.phase) (sends-whole-by left number count from len item all)
          ∙ ap (λ (o : Option End). (replied_by o (sending_reply left number item from len)).phase) found.1,
    )

pub sends-whole-machine : (left : List ℕ) (number count from len : ℕ) (item : Item) → len ≤ from + count
    → is_last item (number + 1) ≡ false
    → after_event (sending_reply left number item from len) (Sent count) ≡ resting (held_after left).rest (number + 1)
unfolding looked
sends-whole-machine left number count from len item all goes =
    let none : end_after (asked_of item) number ≡ None =
    ends-none (end_after (asked_of item) number) (sym (last-ends item number) ∙ goes) in
    sends-whole-by left number count from len item all
    ∙ ap (λ (o : Option End). replied_by o (sending_reply left number item from len)) none

-- a machine that reads ends with its input
pub ends-machine : (s : State) (room : ℕ) → action_of s ≡ Read room
    → (e : End) × ((after_event s EndOfInput).phase ≡ Ended e)
unfolding after_event action_of
ends-machine s room is = ends-at s.phase s is
  where
    ends-at : (phase : Phase) (s : State) → action_at phase s.held ≡ Read room
        → (e : End) × ((after_in phase s EndOfInput).phase ≡ Ended e)
    ends-at Waiting s is = (_, refl)
    ends-at (Asking asked) s is = absurd (cc)
    ends-at (Sending asked from len) s is = absurd (cc)
    ends-at (Ended end) s is = absurd (cc)

-- one that reads or sends ends where its link fails
pub fails-reading : (s : State) (room : ℕ) → action_of s ≡ Read room
    → (e : End) × ((after_event s Fault).phase ≡ Ended e)
unfolding after_event action_of
fails-reading s room is = fails-at s.phase s is
  where
    fails-at : (phase : Phase) (s : State) → action_at phase s.held ≡ Read room
        → (e : End) × ((after_in phase s Fault).phase ≡ Ended e)
    fails-at Waiting s is = (_, refl)
    fails-at (Asking asked) s is = absurd (cc)
    fails-at (Sending asked from len) s is = absurd (cc)
    fails-at (Ended end) s is = absurd (cc)

pub fails-sending : (s : State) (from : ℕ) → action_of s ≡ Send from
    → (e : End) × ((after_event s Fault).phase ≡ Ended e)
unfolding after_event action_of
fails-sending s from is = fails-at s.phase s is
  where
    fails-at : (phase : Phase) (s : State) → action_at phase s.held ≡ Send from
        → (e : End) × ((after_in phase s Fault).phase ≡ Ended e)
    fails-at Waiting s is = absurd (cc)
    fails-at (Asking asked) s is = absurd (cc)
    fails-at (Sending asked from len) s is = (_, refl)
    fails-at (Ended end) s is = absurd (cc)

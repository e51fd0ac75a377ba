-- What a session keeps: room where it waits, bytes where it sends, and replies where it goes on.
use Rattle.std.proofs.Common.{◌≡◌, ℕ, ◌+◌, ◌-◌, ◌^◌, ◌<◌, Bool, true, false, ◌&&◌, if◌then◌else◌, ltb, min, List, length, take, refl, sym, ap, ◌∙◌, arith, inl, inr}
use Rattle.std.proofs.lemmas.Bool.{lt-ltb, ltb-true, and_parts, cases_lt, le-ltb}
use Rattle.std.proofs.lemmas.List.{take_all}
use Rattle.web_frame.specs.Limit.{MAX_HEAD}
use Rattle.web_frame.specs.Cut.{Cut, none_yet, too_long, cut_of}
use Rattle.web_frame.specs.Cut as cuts
use Rattle.web_frame.specs.Items.{Item, request, bad_head, head_too_long, item_of}
use Rattle.web_frame.specs.Stream.{Held, held_len, with_bytes, next_by_item, next_by, next_of, held_by, held_after}
use Rattle.web_frame.proofs.ItemLemmas.{cut_none_yet}
use Rattle.web_session.specs.declared.action.Asked.{Asked}
use Rattle.web_session.specs.declared.action.End.{End}
use Rattle.web_session.specs.declared.phase.Phase.{Phase}
use Rattle.web_session.specs.declared.phase.Phase.TheVariants.{Waiting, Asking, Sending, Ended}
use Rattle.web_session.specs.State.{MAX_REPLIES}
use Rattle.web_session.specs.State.{State, is_sound_in, is_sound, phase_after, replied, sent}

-- both tests pass
both : (a b : Bool) → a ≡ true → b ≡ true → (a && b) ≡ true
both a b first second = ap (λ x. x && b) first ∙ second

-- an item that was found is asked for
sound_item : (item : Item) (held : Held) (before : ℕ) → before < MAX_REPLIES
    → is_sound_in (phase_after (next_by_item item)) held before ≡ true
sound_item (request r target) held before some = lt-ltb before MAX_REPLIES some
sound_item bad_head held before some = lt-ltb before MAX_REPLIES some
sound_item head_too_long held before some = lt-ltb before MAX_REPLIES some

sound_cut : (rest : List ℕ) (cut : Cut) (before : ℕ) → cut_of rest ≡ cut → before < MAX_REPLIES
    → is_sound_in (phase_after (next_by cut rest)) (held_by cut rest) before ≡ true
sound_cut rest none_yet before is some =
    let below : length rest < MAX_HEAD = cut_none_yet rest is in
    both _ _ (lt-ltb (0 + length rest) MAX_HEAD (omega arith)) (lt-ltb before MAX_REPLIES some)
sound_cut rest (cuts.whole n) before is some =
    sound_item (item_of (take n rest)) (held_by (cuts.whole n) rest) before some
sound_cut rest too_long before is some = lt-ltb before MAX_REPLIES some

-- a session that looked for the next head is sound
pub sound_looked : (rest : List ℕ) (phase : Phase) (held : Held) (before : ℕ) → phase ≡ phase_after (next_of rest)
    → held ≡ held_after rest → before < MAX_REPLIES
    → is_sound (record { phase = phase; held = held; before = before }) ≡ true
unfolding is_sound next_of held_after
sound_looked rest phase held before is_phase is_held some =
    ap (λ (p : Phase). is_sound_in p held before) is_phase
    ∙ ap (λ (h : Held). is_sound_in (phase_after (next_of rest)) h before) is_held
    ∙ sound_cut rest (cut_of rest) before refl some

pub sound_ended : (end : End) (held : Held) (before : ℕ)
    → is_sound (record { phase = Ended end; held = held; before = before }) ≡ true
unfolding is_sound
sound_ended end held before = refl

pub sound_sending : (asked : Asked) (from len : ℕ) (held : Held) (before : ℕ) → from < len → before < MAX_REPLIES
    → is_sound (record { phase = Sending asked from len; held = held; before = before }) ≡ true
unfolding is_sound
sound_sending asked from len held before left some = both _ _ (lt-ltb from len left) (lt-ltb before MAX_REPLIES some)

pub goes_on_waiting : (s : State) → is_sound s ≡ true → s.phase ≡ Waiting → s.before < MAX_REPLIES
unfolding is_sound
goes_on_waiting s sound is =
    let parts = and_parts (ltb (held_len s.held) MAX_HEAD) (ltb s.before MAX_REPLIES)
    (sym (ap (λ (p : Phase). is_sound_in p s.held s.before) is) ∙ sound) in
    ltb-true s.before MAX_REPLIES parts.1

pub goes_on_asking : (s : State) (asked : Asked) → is_sound s ≡ true → s.phase ≡ Asking asked → s.before < MAX_REPLIES
unfolding is_sound
goes_on_asking s asked sound is =
    ltb-true s.before MAX_REPLIES (sym (ap (λ (p : Phase). is_sound_in p s.held s.before) is) ∙ sound)

pub goes_on_sending : (s : State) (asked : Asked) (from len : ℕ) → is_sound s ≡ true → s.phase ≡ Sending asked from len
    → s.before < MAX_REPLIES
unfolding is_sound
goes_on_sending s asked from len sound is =
    let parts = and_parts (ltb from len) (ltb s.before MAX_REPLIES)
    (sym (ap (λ (p : Phase). is_sound_in p s.held s.before) is) ∙ sound) in
    ltb-true s.before MAX_REPLIES parts.1

-- the bytes that are fed are the first, as many as there is room for
pub fed_first : (held : Held) (piece : List ℕ) (count : ℕ) → count ≡ min (length piece) (MAX_HEAD - held_len held)
    → with_bytes (take count piece) held ≡ with_bytes (take (MAX_HEAD - held_len held) piece) held
fed_first held piece count is = elim (cases_lt (MAX_HEAD - held_len held) (length piece)) [
  | inl more ↦
      let same : count ≡ MAX_HEAD - held_len held = omega arith in
      ap (λ (n : ℕ). with_bytes (take n piece) held) same
  | inr fits ↦
      let all : take count piece ≡ piece = take_all count piece (omega arith) in
      let whole : take (MAX_HEAD - held_len held) piece ≡ piece = take_all (MAX_HEAD - held_len held) piece fits in
      ap (λ (l : List ℕ). with_bytes l held) (all ∙ sym whole)
]

pub ruleset sounds = (sound_looked, sound_ended, sound_sending, fed_first)

-- a sum that stops at the greatest number is past no other end of a reply
pub sent_capped : (s : State) (asked : Asked) (capped total len : ℕ) → capped ≡ min total (2 ^ 64 - 1) → len < 2 ^ 64
    → sent s asked capped len ≡ sent s asked total len
unfolding sent
sent_capped s asked capped total len is small = elim (cases_lt total len) [
  | inl below ↦
      let same : capped ≡ total = omega arith in
      ap (λ (n : ℕ). sent s asked n len) same
  | inr past ↦ is_whole s asked capped len (le-ltb capped len (omega arith))
      ∙ sym (is_whole s asked total len (le-ltb total len past))
]
  where
    is_whole : (s : State) (asked : Asked) (from len : ℕ) → ltb from len ≡ false
        → sent s asked from len ≡ replied s asked
    is_whole s asked from len is =
        ap (λ t. if t then record s { phase = Sending asked from len } else replied s asked) is

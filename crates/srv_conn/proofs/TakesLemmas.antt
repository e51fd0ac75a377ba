-- Bytes that are taken, call by call.
use Rattle.std.proofs.Common.{◌≡◌, ◌<◌, ℕ, ◌+◌, ◌-◌, List, [], ◌++◌, length, sym, ap, ap₂, subst, ◌∙◌, append_assoc, append-nil, refl, arith, length-append}
use Rattle.dev_traits.specs.Shown.{LinkShown}
use Rattle.web_frame.specs.Limit.{MAX_HEAD}
use Rattle.web_session.specs.declared.action.End.{End}
use Rattle.web_session.specs.State.{resting, State}
use Rattle.dap_reply.specs.Served.{held_bytes, IsAtRest}
use Rattle.srv_action.specs.Acts.{EndsWaiting}
use Rattle.dev_traits.specs.Moved.{moved, AreNext}
use Rattle.srv_action.specs.Taking.{EndsReading, Takes, TakesSome}
use Rattle.srv_conn.specs.Turn.{FindsNone}
use Rattle.dev_traits.proofs.MovedLemmas.{moved-more, moved-none, next-more, next-none}
use Rattle.srv_action.proofs.SessionLemmas.{held-at, rests-at}

-- what a session holds after bytes were taken
takes-held : {link now : LinkShown} {s after : State} {taken : List ℕ} → Takes link now s after taken
    → held_bytes after ≡ held_bytes s ++ taken
takes-held {s = s} {after = after} {taken = taken} takes =
    held-at after (held_bytes s ++ taken) s.before takes.session_is

pub takes-rests : {link now : LinkShown} {s after : State} {taken : List ℕ} → Takes link now s after taken
    → IsAtRest after
takes-rests {s = s} {after = after} {taken = taken} takes =
    rests-at after (held_bytes s ++ taken) s.before takes.session_is

-- nothing was taken yet
pub Takes-nothing : (link : LinkShown) (s : State) → IsAtRest s → Takes link link s s []
Takes-nothing link s rests = record {
  moved_is = sym (moved-none link.held);
  next = next-none link.held;
  faults_are = refl;
  session_is = rests.session_is ∙ ap (λ (l : List ℕ). resting l s.before) (sym (append-nil (held_bytes s)));
}

pub takes-then : {first second third : LinkShown} {s mid after : State} {taken more : List ℕ}
    → Takes first second s mid taken → Takes second third mid after more → Takes first third s after (taken ++ more)
takes-then {first = first} {s = s} {taken = taken} {more = more} one two = record {
  moved_is = two.moved_is ∙ ap (moved more []) one.moved_is ∙ moved-more taken more [] first.held;
  next = next-more taken more [] first.held one.next (subst (AreNext more) one.moved_is two.next);
  faults_are = two.faults_are ∙ one.faults_are;
  session_is = two.session_is ∙ ap₂ resting
      (ap (λ (l : List ℕ). l ++ more) (takes-held one)
      ∙ append_assoc (held_bytes s) taken more)
      (ap (λ (x : State). x.before) one.session_is);
}

-- the room for a head gets smaller
pub takes-less : {link now : LinkShown} {s after : State} → TakesSome link now s after
    → MAX_HEAD - length (held_bytes after) < MAX_HEAD - length (held_bytes s)
takes-less {s = s} {after = after} some =
    let longer : length (held_bytes after) ≡ length (held_bytes s) + length some.taken =
    ap length (takes-held some.takes) ∙ length-append (held_bytes s) some.taken in
    omega (arith, longer, some.room, some.some)

-- a session that waits ends where a call fails or input is over
pub takes-ends : {first second third : LinkShown} {s mid after : State} {taken : List ℕ} {end : End}
    → Takes first second s mid taken → EndsWaiting second third mid after end → FindsNone first third s after end
takes-ends {second = second} {third = third} {s = s} {taken = taken} {end = end} takes w = record {
  taken = taken;
  moved_is = w.held_is ∙ takes.moved_is;
  next = takes.next;
  waiting = sym (ap (λ (x : State). x.phase) takes.session_is) ∙ w.waiting;
  ended = w.ended;
  why = subst (λ (n : ℕ). EndsReadingFrom n (held_bytes s ++ taken)) takes.faults_are
      (subst (EndsReadingFrom second.faults) (takes-held takes) w.why);
}
  where
    EndsReadingFrom : ℕ → List ℕ → Type 0
    EndsReadingFrom faults left = EndsReading (record { held = second.held; faults = faults }) third left end

-- nothing was taken before it
pub none-taken : {before after : LinkShown} {session session' : State} {end : End} {count : ℕ}
    → session ≡ resting (held_bytes session) count → EndsWaiting before after session session' end
    → FindsNone before after session session' end
none-taken {before = before} {session = session} {count = count} rests w =
    takes-ends (Takes-nothing before session (rests-at session (held_bytes session) count rests)) w

-- The event of a session by one call of a link.
use Rattle.std.proofs.Common.{◌≡◌, ◌≤◌, ℕ, ◌-◌, Bor, List, ◌++◌, length, take, sym, ap, subst, ◌∙◌, arith}
use Rattle.std.specs.Prelude.{IfSome}
use Rattle.std.proofs.lemmas.List.{length-take, take-append-le}
use Rattle.dev_traits.specs.declared.link.Taken.TheVariants as takes
use Rattle.dev_traits.specs.Link.{after_take, GivesNext}
use Rattle.dev_traits.specs.Shown.{LinkShown}
use Rattle.web_frame.specs.Limit.{MAX_HEAD}
use Rattle.web_frame.specs.Stream.{held_len}
use Rattle.web_session.specs.declared.action.Action.{Action}
use Rattle.web_session.specs.declared.action.Action.TheVariants.{Read, Close}
use Rattle.web_session.specs.declared.event.Event.TheVariants.{Bytes, EndOfInput}
use Rattle.web_session.specs.Event.{after_event}
use Rattle.web_session.specs.State.{action_of, end_of_input, resting, State}
use Rattle.dap_reply.specs.Served.{held_bytes, IsAtRest}
use Rattle.srv_action.specs.Taking.{Takes}
use Rattle.srv_action.proofs.EventLemmas.{feeds, input-ends}
use Rattle.dev_traits.proofs.MovedLemmas.{moved-given, next-given}
use Rattle.srv_action.proofs.SessionLemmas.{ends-so, reads-waiting}

-- bytes came
pub takes-given : (link now : LinkShown) (s after : State) (buf rest : List ℕ) (count read : ℕ) (piece : Bor (List ℕ))
    → IsAtRest s → action_of s ≡ Read count → read ≤ count → read ≤ length buf → piece.now ≡ take read buf
    → IfSome link.held (λ wire. GivesNext wire buf (takes.Bytes read)) → now.held ≡ after_take read link.held
    → now.faults ≡ link.faults → after ≡ after_event s (Bytes piece)
    → Takes link now s after (take read (buf ++ rest))
takes-given link now s after buf rest count read piece rests reads within fits cut given took faults is =
    subst (Takes link now s after) (sym front) (record {
      moved_is = took ∙ moved-given link.held buf read given fits;
      next = next-given link.held buf read given fits;
      faults_are = faults;
      session_is = is ∙ feeds s piece rests (reads-waiting s count reads).0 room
          ∙ ap (λ (l : List ℕ). resting (held_bytes s ++ l) s.before) cut;
    })
  where
    front : take read (buf ++ rest) ≡ take read buf
    front = take-append-le read buf rest fits

    room : length piece.now ≤ MAX_HEAD - held_len s.held
    room = omega (arith, ap length cut, length-take read buf, (reads-waiting s count reads).1, within)

-- input is over
pub closes-input : (s after : State) (count : ℕ) (action : Action) → IsAtRest s → action_of s ≡ Read count
    → after ≡ after_event s EndOfInput → action ≡ action_of after → action ≡ Close (end_of_input (held_bytes s))
closes-input s after count action rests reads is due =
    due ∙ ends-so after (end_of_input (held_bytes s))
    (ap (λ (x : State). x.phase) is ∙ input-ends s rests (reads-waiting s count reads).0)

-- Connections that show sessions, one by one. It is long, since each fact goes down two lists at once.
use Rattle.std.proofs.Common.{◌≡◌, ◌≤◌, ◌<◌, zero, suc, ℕ, not, ◌&&◌, List, [], ◌∷◌, ◌++◌, leb, length, length-append, map, take, set, get_or, Option, Some, None, refl, sym, ap, ap₂, subst, ◌∙◌, arith}
use Rattle.std.specs.Prelude.{slice_get}
use Rattle.std.specs.List.{All}
use Rattle.std.proofs.lemmas.List.Elements.{All-nil}
use Rattle.fm_model.specs.declared.op.Op.{Op}
use Rattle.fm_model.specs.declared.proto.Proto.{Proto}
use Rattle.web_frame.specs.Cut.{cut_of, head_len}
use Rattle.web_frame.specs.Stream.{Held}
use Rattle.web_frame.proofs.ItemLemmas.{ReadsTo-start}
use Rattle.web_session.specs.declared.phase.Phase.{Phase}
use Rattle.web_session.specs.State.{fresh, resting, State}
use Rattle.dap_reply.specs.Parts.{Parts}
use Rattle.dap_reply.specs.Script.{script_of}
use Rattle.pub_core.specs.declared.connection.Connection.{Connection}
use Rattle.pub_core.specs.declared.event.Event.{Event}
use Rattle.pub_core.specs.Happening.{after, after_at}
use Rattle.pub_core.specs.Shown.{AreShown, IsShown, Stands}
use Rattle.pub_core.specs.Shown.Stands.{at_end, at_rest, in_reply}
use Rattle.pub_core.specs.Standing.{first_item, Rests}
use Rattle.pub_core.specs.World.{is_due, is_idle, is_refused_at, next_item, output_of, rests, script_in, untouched, SessionState}
use Rattle.pub_core.proofs.MachineLemmas.{held-none, phase-of}
use Rattle.pub_core.proofs.OneSession.{all-le, rest-published}
use Rattle.pub_core.proofs.Resting.{due-rest}
use Rattle.pub_core.proofs.SoFar.{script-published}

-- ---- a session to which nothing happened

first-none : first_item [] ≡ None
unfolding first_item cut_of head_len
first-none = refl

state_of : ℕ → Phase → Held → State
state_of before phase held = record { phase = phase; held = held; before = before }

fresh-rests : fresh ≡ resting [] 0
unfolding state_of
fresh-rests = ap₂ (state_of 0) (sym (phase-of [] None first-none)) (sym (held-none [] first-none))

untouched-rests : (proto : Proto) → Rests proto [] untouched []
unfolding script_in script_of
untouched-rests proto = record {
  done = [];
  reads = ReadsTo-start [];
  count = refl;
  all_sent = refl;
  goes_on = refl;
  stays = refl;
}

no-output : (proto : Proto) → output_of proto [] untouched ≡ []
unfolding output_of
no-output proto = refl

pub shown-new : (proto : Proto) (c : Connection) → c.session ≡ fresh → c.output ≡ [] → c.seen ≡ 0
    → IsShown proto [] c untouched
shown-new proto c session output seen = record {
  shows = record {
    output_is = output ∙ sym (no-output proto);
    seen_is = seen;
    seen_within = omega arith;
    revs_within = All-nil (λ (revision : ℕ). revision ≤ 0);
    stands = at_rest [] (untouched-rests proto) (session ∙ fresh-rests ∙ ap (resting []) (untouched-rests proto).count);
  };
  due = due-rest (untouched-rests proto) ∙ ap (is_refused_at proto.site) first-none;
}

-- ---- one more operation is published

stands-published : {proto : Proto} {log : List Op} {s : SessionState} {machine : State} {plan : Option Parts}
    (more : List Op) → All (λ (revision : ℕ). revision ≤ length log) s.revs → Stands proto log s machine plan
    → Stands proto (log ++ more) s machine plan
stands-published more within (at_rest left r is) =
    let later = rest-published more within r in
    at_rest left later (is ∙ ap (resting left) (sym r.count ∙ later.count))
stands-published {proto} {log} {s} more within (in_reply left item before reply from r plan is) =
    in_reply left item before reply from (record {
      done = r.done;
      reads = r.reads;
      item_is = r.item_is;
      count = r.count;
      script_is = script-published proto log more s within ∙ r.script_is;
      sent_is = r.sent_is;
      some = r.some;
      stays = r.stays;
    }) plan is
stands-published more within (at_end end phase ended) = at_end end phase ended

due-published : (proto : Proto) (log more : List Op) (s : SessionState)
    → All (λ (revision : ℕ). revision ≤ length log) s.revs
    → is_due proto (log ++ more) s ≡ is_due proto log s
unfolding is_due is_idle rests
due-published proto log more s within =
    ap (λ (l : List ℕ). (leb (length l) s.sent && not s.ended) && is_refused_at proto.site (next_item s))
    (script-published proto log more s within)

pub shown-published : {proto : Proto} {log : List Op} {c : Connection} {s : SessionState} (more : List Op)
    → IsShown proto log c s → IsShown proto (log ++ more) c s
unfolding output_of
shown-published {proto} {log} {c} {s} more shown = record {
  shows = record {
    output_is = shown.shows.output_is
        ∙ ap (take s.sent) (sym (script-published proto log more s shown.shows.revs_within));
    seen_is = shown.shows.seen_is;
    seen_within = omega (arith, shown.shows.seen_within, length-append log more);
    revs_within = all-le s.revs (length log) (length (log ++ more)) (omega (arith, length-append log more))
        shown.shows.revs_within;
    stands = stands-published more shown.shows.revs_within shown.shows.stands;
  };
  due = due-published proto log more s shown.shows.revs_within ∙ shown.due;
}

pub all-published : (proto : Proto) (log more : List Op) (connections : List Connection) (sessions : List SessionState)
    → AreShown proto log connections sessions → AreShown proto (log ++ more) connections sessions
unfolding AreShown
all-published proto log more [] [] shown = shown
all-published proto log more [] (s ∷ sessions) shown = shown
all-published proto log more (c ∷ connections) [] shown = shown
all-published proto log more (c ∷ connections) (s ∷ sessions) shown =
    (shown-published more shown.0, all-published proto log more connections sessions shown.1)

-- ---- one of them

pub all-more-shown : (proto : Proto) (log : List Op) (connections : List Connection) (sessions : List SessionState)
    (c : Connection) (s : SessionState) → AreShown proto log connections sessions → IsShown proto log c s
    → AreShown proto log (connections ++ c ∷ []) (sessions ++ s ∷ [])
unfolding AreShown
all-more-shown proto log [] [] c s shown one = (one, tt)
all-more-shown proto log [] (s0 ∷ sessions) c s shown one = absurd shown
all-more-shown proto log (c0 ∷ connections) [] c s shown one = absurd shown
all-more-shown proto log (c0 ∷ connections) (s0 ∷ sessions) c s shown one =
    (shown.0, all-more-shown proto log connections sessions c s shown.1 one)

pub none-shown : (proto : Proto) (log : List Op) → AreShown proto log [] []
unfolding AreShown
none-shown proto log = tt

past-shown : (proto : Proto) (log : List Op) (connections : List Connection) (sessions : List SessionState) (n : ℕ)
    → AreShown proto log connections sessions → length connections ≤ n → slice_get sessions n ≡ None
unfolding AreShown
past-shown proto log [] [] n shown past = refl
past-shown proto log [] (s ∷ sessions) n shown past = absurd shown
past-shown proto log (c ∷ connections) [] n shown past = absurd shown
past-shown proto log (c ∷ connections) (s ∷ sessions) zero shown past = absurd (omega arith)
past-shown proto log (c ∷ connections) (s ∷ sessions) (suc n) shown past =
    past-shown proto log connections sessions n shown.1 (omega arith)

-- the one of a number that isn't there
pub shown-past : (proto : Proto) (log : List Op) (connections : List Connection) (sessions : List SessionState) (n : ℕ)
    (event : Event) → AreShown proto log connections sessions → length connections ≤ n
    → AreShown proto log connections (after_at proto log sessions n event)
unfolding after_at
shown-past proto log connections sessions n event shown past =
    subst (λ (o : Option SessionState). AreShown proto log connections
    (elim o [ None ↦ sessions | Some s ↦ set sessions n (after proto log event s) ]))
    (sym (past-shown proto log connections sessions n shown past)) shown

-- the session of a number, and its replacement
record At (proto : Proto) (log : List Op) (connections : List Connection) (sessions : List SessionState) (n : ℕ)
    (c : Connection) : Type 0 where
  s : SessionState
  there : slice_get sessions n ≡ Some s
  shown : IsShown proto log c s
  then : (d : Connection) (t : SessionState) → IsShown proto log d t
      → AreShown proto log (set connections n d) (set sessions n t)

at : (proto : Proto) (log : List Op) (connections : List Connection) (sessions : List SessionState) (n : ℕ)
    (c : Connection) → AreShown proto log connections sessions → n < length connections
    → At proto log connections sessions n (get_or connections n c)
unfolding AreShown
at proto log [] sessions n c shown below = absurd (omega arith)
at proto log (c0 ∷ connections) [] n c shown below = absurd shown
at proto log (c0 ∷ connections) (s0 ∷ sessions) zero c shown below = record {
  s = s0;
  there = refl;
  shown = shown.0;
  then = λ d t one. (one, shown.1);
}
at proto log (c0 ∷ connections) (s0 ∷ sessions) (suc n) c shown below =
    let rest : At proto log connections sessions n (get_or connections n c) =
    at proto log connections sessions n c shown.1 (omega arith) in
    record {
      s = rest.s;
      there = rest.there;
      shown = rest.shown;
      then = λ d t one. (shown.0, rest.then d t one);
    }

pub shown-at : (proto : Proto) (log : List Op) (connections : List Connection) (sessions : List SessionState) (n : ℕ)
    (event : Event) (c now : Connection) → c ≡ get_or connections n c → AreShown proto log connections sessions
    → n < length connections
    → ((s : SessionState) → IsShown proto log c s → IsShown proto log now (after proto log event s))
    → AreShown proto log (set connections n now) (after_at proto log sessions n event)
unfolding after_at
shown-at proto log connections sessions n event c now there shown below happens =
    let here : At proto log connections sessions n (get_or connections n c) =
    at proto log connections sessions n c shown below in
    subst (λ (o : Option SessionState). AreShown proto log (set connections n now)
    (elim o [ None ↦ sessions | Some s ↦ set sessions n (after proto log event s) ])) (sym here.there)
    (here.then now (after proto log event here.s)
    (happens here.s (subst (λ (x : Connection). IsShown proto log x here.s) (sym there) here.shown)))

-- ---- their outcome

pub outputs-shown : (proto : Proto) (log : List Op) (connections : List Connection) (sessions : List SessionState)
    → AreShown proto log connections sessions
    → map (λ (c : Connection). c.output) connections ≡ map (output_of proto log) sessions
unfolding AreShown
outputs-shown proto log [] [] shown = refl
outputs-shown proto log [] (s ∷ sessions) shown = absurd shown
outputs-shown proto log (c ∷ connections) [] shown = absurd shown
outputs-shown proto log (c ∷ connections) (s ∷ sessions) shown =
    ap₂ (λ (o : List ℕ) (l : List (List ℕ)). o ∷ l) shown.0.shows.output_is
    (outputs-shown proto log connections sessions shown.1)

pub seen-shown : (proto : Proto) (log : List Op) (connections : List Connection) (sessions : List SessionState)
    → AreShown proto log connections sessions
    → map (λ (c : Connection). c.seen) connections ≡ map (λ (s : SessionState). s.seen) sessions
unfolding AreShown
seen-shown proto log [] [] shown = refl
seen-shown proto log [] (s ∷ sessions) shown = absurd shown
seen-shown proto log (c ∷ connections) [] shown = absurd shown
seen-shown proto log (c ∷ connections) (s ∷ sessions) shown =
    ap₂ (λ (o : ℕ) (l : List ℕ). o ∷ l) shown.0.shows.seen_is (seen-shown proto log connections sessions shown.1)

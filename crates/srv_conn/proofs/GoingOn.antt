-- A served link goes on after a whole reply that isn't a connection's last.
use Rattle.std.proofs.Common.{◌≡◌, ℕ, suc, ◌+◌, List, [], ◌∷◌, ◌++◌, length, Bool, Option, None, refl, sym, ap, ap₂, subst, ◌∙◌, arith, length-append}
use Rattle.std.specs.Prelude.{is_some}
use Rattle.web_frame.specs.Items.{heads_of, AreFirst, Item, ReadsTo}
use Rattle.web_frame.specs.Stream.{held_after, next_of, Held}
use Rattle.web_frame.proofs.LeftLemmas.{Leaves}
use Rattle.web_session.specs.declared.action.Asked.{Asked}
use Rattle.web_session.specs.declared.action.Asked.TheVariants as says
use Rattle.web_session.specs.declared.action.End.{End}
use Rattle.web_session.specs.declared.phase.Phase.TheVariants.{Asking}
use Rattle.web_session.specs.Run.{item_asked}
use Rattle.web_session.specs.State.{end_after, looked, phase_after, replied, replied_by, resting, State}
use Rattle.dap_reply.specs.declared.served.Mark.{Mark}
use Rattle.dap_reply.specs.Collections.{Collections}
use Rattle.dap_reply.specs.Reply.{is_last}
use Rattle.dap_reply.specs.Served.{asked_of, held_bytes}
use Rattle.dap_reply.proofs.ServedLemmas.{last-ends}
use Rattle.srv_conn.specs.ServesMany.{Point}
use Rattle.srv_conn.specs.Turn.{item_of_turn, IsWhole}
use Rattle.srv_conn.proofs.EachLemmas.{Each-append}
use Rattle.srv_conn.proofs.HeadLemmas.{asked-first, leaves-passed, passes}
use Rattle.srv_conn.specs.SoFar.{Each, GoesOn, Serving}
use Rattle.srv_conn.proofs.Serving.{begun-grows, each-later, Begun-replies}
use Rattle.srv_action.proofs.SessionLemmas.{held-at}

-- the question of an item is the session's question
pub asked-back : (asked : Asked) (held : Held) → asked_of (item_asked asked held) ≡ asked
asked-back (says.Head r) held = refl
asked-back says.BadHead held = refl
asked-back says.HeadTooLong held = refl

-- a reply is a connection's last where the connection ends after it
pub last-said : (asked : Asked) (held : Held) (before : ℕ)
    → is_last (item_asked asked held) (before + 1) ≡ is_some (end_after asked before)
last-said asked held before =
    last-ends (item_asked asked held) before
    ∙ ap (λ (a : Asked). is_some (end_after a before)) (asked-back asked held)

-- the question is the next of the items that are read
pub asked-now : (them : Collections) (start now : Point) (asked : Asked) (s : Serving them start now)
    → now.session.phase ≡ Asking asked
    → AreFirst (s.done ++ item_of_turn now asked ∷ []) (heads_of (held_bytes start.session ++ s.taken)).items
asked-now them start now asked s asking =
    subst (λ (h : Held). AreFirst (s.done ++ item_asked asked h ∷ [])
    (heads_of (held_bytes start.session ++ s.taken)).items) (sym (ap (λ (x : State). x.held) s.session_is))
    (asked-first (held_bytes start.session ++ s.taken) (held_bytes now.session) s.done asked s.reads
    (sym (ap (λ (x : State). x.phase) s.session_is) ∙ asking))

goes_on_with : (asked : Asked) (text left : List ℕ) (done : List Item) (before : ℕ) → end_after asked before ≡ None
    → ReadsTo text done left → phase_after (next_of left) ≡ Asking asked
    → ReadsTo text (done ++ item_asked asked (held_after left) ∷ []) (held_after left).rest
goes_on_with (says.Head r) text left done before none reads asking = passes text left done r reads asking
goes_on_with says.BadHead text left done before none reads asking = absurd (cc)
goes_on_with says.HeadTooLong text left done before none reads asking = absurd (cc)

left_with : (asked : Asked) (text left : List ℕ) (n before : ℕ) → end_after asked before ≡ None
    → Leaves text n left → phase_after (next_of left) ≡ Asking asked → Leaves text (suc n) (held_after left).rest
left_with (says.Head r) text left n before none l asking = leaves-passed text left n r l asking
left_with says.BadHead text left n before none l asking = absurd (cc)
left_with says.HeadTooLong text left n before none l asking = absurd (cc)

-- where a reply leads on
pub leads-on : (s : State) (asked : Asked) → end_after asked s.before ≡ None
    → replied s asked ≡ resting s.held.rest (s.before + 1)
unfolding replied looked
leads-on s asked none = ap (λ (end : Option End). replied_by end s) none

pub Serving-goes : (them : Collections) (start now after : Point) (asked : Asked)
    → Serving them start now → now.session.phase ≡ Asking asked → IsWhole them now after asked None
    → Serving them start after
Serving-goes them start now after asked s asking w = record {
  taken = s.taken;
  written = _;
  done = s.done ++ item ∷ [];
  begun = Begun-replies them start now after asked w.mark s w.replies;
  each = subst
      (λ (l : List Mark). Each (GoesOn them after.views.seen) l (s.done ++ item ∷ []) (start.session.before + 1))
      (sym w.replies.trail_is)
      (Each-append (GoesOn them after.views.seen) now.trail (w.mark ∷ []) s.done (item ∷ []) (start.session.before + 1)
      s.begun.count
      (each-later them now.views.seen after.views.seen now.trail s.done (start.session.before + 1)
      (begun-grows them now after asked w.mark w.replies) s.each)
      (subst (λ (n : ℕ). GoesOn them after.views.seen n w.mark item) number this, tt));
  faults_are = w.faults_are ∙ s.faults_are;
  reads = subst (ReadsTo (held_bytes start.session ++ s.taken) (s.done ++ item ∷ [])) (sym held)
      (subst (λ (h : Held). ReadsTo (held_bytes start.session ++ s.taken) (s.done ++ item_asked asked h ∷ []) h.rest)
      (sym held_is)
      (goes_on_with asked (held_bytes start.session ++ s.taken) (held_bytes now.session) s.done now.session.before none
      s.reads asks));
  leaves = subst (λ (n : ℕ). Leaves (held_bytes start.session ++ s.taken) n (held_bytes after.session)) (sym one_more)
      (subst (Leaves (held_bytes start.session ++ s.taken) (suc (length s.done))) (sym held)
      (subst (λ (h : Held). Leaves (held_bytes start.session ++ s.taken) (suc (length s.done)) h.rest) (sym held_is)
      (left_with asked (held_bytes start.session ++ s.taken) (held_bytes now.session) (length s.done)
      now.session.before none s.leaves asks)));
  session_is = session ∙ ap₂ resting (sym held) counted;
}
  where
    item : Item
    item = item_of_turn now asked

    none : end_after asked now.session.before ≡ None
    none = sym w.end_is

    before_is : now.session.before ≡ start.session.before + length s.done
    before_is = ap (λ (x : State). x.before) s.session_is

    held_is : now.session.held ≡ held_after (held_bytes now.session)
    held_is = ap (λ (x : State). x.held) s.session_is

    asks : phase_after (next_of (held_bytes now.session)) ≡ Asking asked
    asks = sym (ap (λ (x : State). x.phase) s.session_is) ∙ asking

    number : now.session.before + 1 ≡ start.session.before + 1 + length now.trail
    number = omega (arith, before_is, s.begun.count)

    this : GoesOn them after.views.seen (now.session.before + 1) w.mark item
    this = (
      omega (arith, w.replies.revision_is),
      w.whole,
      last-said asked now.session.held now.session.before ∙ ap is_some none,
    )

    session : after.session ≡ resting now.session.held.rest (now.session.before + 1)
    session = w.session_is ∙ leads-on now.session asked none

    held : held_bytes after.session ≡ now.session.held.rest
    held = held-at after.session now.session.held.rest (now.session.before + 1) session

    one_more : length (s.done ++ item ∷ []) ≡ suc (length s.done)
    one_more = omega (arith, length-append s.done (item ∷ []))

    counted : now.session.before + 1 ≡ start.session.before + length (s.done ++ item ∷ [])
    counted = omega (arith, before_is, length-append s.done (item ∷ []))

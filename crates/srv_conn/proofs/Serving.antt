-- How far a served link came, from reply to reply.
use Rattle.std.proofs.Common.{◌≡◌, ◌≤◌, ℕ, ◌+◌, List, [], ◌∷◌, ◌++◌, length, take, refl, sym, ap, ap₂, subst, ◌∙◌, append_assoc, append-nil, arith, length-append}
use Rattle.fm_model.specs.declared.op.Op.{Op}
use Rattle.dev_traits.specs.Link.{after_put}
use Rattle.dev_traits.specs.Shown.{LinkShown}
use Rattle.pub_look.specs.History.{Continues}
use Rattle.pub_look.proofs.HistoryLemmas.{continues_length}
use Rattle.web_frame.specs.Items.{Item, ReadsTo}
use Rattle.web_frame.proofs.ItemLemmas.{ReadsTo-feed, ReadsTo-start}
use Rattle.web_frame.proofs.LeftLemmas.{Leaves, Leaves-feed, Leaves-start}
use Rattle.web_session.specs.declared.action.Asked.{Asked}
use Rattle.web_session.specs.State.{resting, State}
use Rattle.dap_reply.specs.declared.served.Mark.{Mark}
use Rattle.dap_reply.specs.Collections.{Collections}
use Rattle.dap_reply.specs.Served.{held_bytes, IsAtRest}
use Rattle.dap_reply.specs.ServedMany.{reply_for, sent_for}
use Rattle.dev_traits.specs.Moved.{moved, AreNext}
use Rattle.srv_conn.specs.ServesMany.{Point}
use Rattle.srv_conn.specs.SoFar.{Begun, Each, GoesOn, Serving}
use Rattle.srv_conn.specs.Turn.{item_of_turn, reply_of_turn, IsBegun}
use Rattle.srv_action.specs.Taking.{Takes}
use Rattle.srv_conn.proofs.EachLemmas.{Each-map}
use Rattle.srv_conn.proofs.GoesLemmas.{goes-on, goes-start}
use Rattle.dev_traits.proofs.MovedLemmas.{moved-more, moved-none, moved-put, next-more, next-none}
use Rattle.srv_conn.proofs.ScriptLemmas.{reply-later, sent-append, sent-later, sent-none, sent-one}
use Rattle.srv_action.proofs.SessionLemmas.{held-at}
use Rattle.srv_conn.proofs.ViewLemmas.{all-behind}

-- ---- the start

pub Serving-start : (them : Collections) (start : Point) → start.trail ≡ [] → IsAtRest start.session
    → Serving them start start
Serving-start them start none rests = record {
  taken = [];
  written = [];
  done = [];
  begun = record {
    moved_is = sym (moved-none start.link.held);
    next = next-none start.link.held;
    count = ap length none;
    goes_of = goes-start them start none;
    written_is = sym (ap (λ (l : List Mark). sent_for them start.views.seen l [] start.session.before) none
        ∙ sent-none them start.views.seen [] start.session.before);
  };
  each = let P : List Mark → Type 0 = λ l. Each (GoesOn them start.views.seen) l [] (start.session.before + 1) in
      subst P (sym none) tt;
  faults_are = refl;
  reads = subst (λ (l : List ℕ). ReadsTo l [] (held_bytes start.session)) (sym (append-nil (held_bytes start.session)))
      (ReadsTo-start (held_bytes start.session));
  leaves = subst (λ (l : List ℕ). Leaves l 0 (held_bytes start.session)) (sym (append-nil (held_bytes start.session)))
      (Leaves-start (held_bytes start.session));
  session_is = let same : start.session.before ≡ start.session.before + 0 = omega arith in
      rests.session_is ∙ ap (resting (held_bytes start.session)) same;
}

-- ---- bytes are taken

-- a point after bytes were taken
abbrev pub with_taken : Point → LinkShown → State → Point
with_taken now link session = record { link = link; views = now.views; session = session; trail = now.trail }

pub Begun-takes : (them : Collections) (start now : Point) (link : LinkShown) (session : State)
    (taken more written : List ℕ) (done : List Item) → Begun them start now taken written done
    → link.held ≡ moved more [] now.link.held → AreNext more now.link.held
    → Begun them start (with_taken now link session) (taken ++ more) written done
Begun-takes them start now link session taken more written done b took next = record {
  moved_is = took ∙ ap (moved more []) b.moved_is ∙ moved-more taken more written start.link.held;
  next = next-more taken more written start.link.held b.next (subst (AreNext more) b.moved_is next);
  count = b.count;
  goes_of = b.goes_of;
  written_is = b.written_is;
}

pub reads-more : (start now : State) (taken more : List ℕ) (done : List Item)
    → ReadsTo (held_bytes start ++ taken) done (held_bytes now)
    → ReadsTo (held_bytes start ++ (taken ++ more)) done (held_bytes now ++ more)
reads-more start now taken more done reads =
    subst (λ (l : List ℕ). ReadsTo l done (held_bytes now ++ more)) (append_assoc (held_bytes start) taken more)
    (ReadsTo-feed more reads)

leaves-more : {n : ℕ} (start now : State) (taken more : List ℕ)
    → Leaves (held_bytes start ++ taken) n (held_bytes now)
    → Leaves (held_bytes start ++ (taken ++ more)) n (held_bytes now ++ more)
leaves-more {n} start now taken more l =
    subst (λ (bytes : List ℕ). Leaves bytes n (held_bytes now ++ more)) (append_assoc (held_bytes start) taken more)
    (Leaves-feed more l)

pub Serving-takes : (them : Collections) (start now : Point) (link : LinkShown) (session : State)
    (more : List ℕ) → Serving them start now → Takes now.link link now.session session more
    → Serving them start (with_taken now link session)
Serving-takes them start now link session more s takes = record {
  taken = s.taken ++ more;
  written = s.written;
  done = s.done;
  begun = Begun-takes them start now link session s.taken more s.written s.done s.begun takes.moved_is
      takes.next;
  each = s.each;
  faults_are = takes.faults_are ∙ s.faults_are;
  reads = subst (ReadsTo (held_bytes start.session ++ (s.taken ++ more)) s.done) (sym held)
      (reads-more start.session now.session s.taken more s.done s.reads);
  leaves = subst (Leaves (held_bytes start.session ++ (s.taken ++ more)) (length s.done)) (sym held)
      (leaves-more start.session now.session s.taken more s.leaves);
  session_is = takes.session_is ∙ ap₂ resting (sym held) (ap (λ (x : State). x.before) s.session_is);
}
  where
    held : held_bytes session ≡ held_bytes now.session ++ more
    held = held-at session (held_bytes now.session ++ more) now.session.before takes.session_is

-- ---- a reply is begun

-- replies that are whole stay so
pub each-later : (them : Collections) (seen later : ℕ → List Op) (marks : List Mark) (items : List Item) (number : ℕ)
    → ((n : ℕ) → Continues (seen n) (later n)) → Each (GoesOn them seen) marks items number
    → Each (GoesOn them later) marks items number
each-later them seen later marks items number grows each =
    Each-map (GoesOn them seen) (GoesOn them later) marks items number
    (λ n mark item goes. (
      omega (
        arith,
        goes.0,
        continues_length (seen (them.choice item)) (later (them.choice item)) (grows (them.choice item)),
      ),
      goes.1 ∙ ap length (sym (reply-later them seen later mark item n grows goes.0)),
      goes.2,
    )) each

within-of : (them : Collections) (seen : ℕ → List Op) (marks : List Mark) (items : List Item) (number : ℕ)
    → Each (GoesOn them seen) marks items number
    → Each (λ _ mark item. mark.revision ≤ length (seen (them.choice item))) marks items number
within-of them seen marks items number each =
    Each-map (GoesOn them seen) (λ _ mark item. mark.revision ≤ length (seen (them.choice item))) marks items number
    (λ n mark item goes. goes.0) each

-- the bytes of whole replies are the same over later operations
pub same-sent : (them : Collections) (seen later : ℕ → List Op) (marks : List Mark) (items : List Item) (before : ℕ)
    → ((n : ℕ) → Continues (seen n) (later n)) → Each (GoesOn them seen) marks items (before + 1)
    → sent_for them seen marks items before ≡ sent_for them later marks items before
same-sent them seen later marks items before grows each =
    sym (sent-later them seen later marks items before grows (within-of them seen marks items (before + 1) each))

-- what was seen grew where a reply was begun
pub begun-grows : (them : Collections) (now after : Point) (asked : Asked) (mark : Mark)
    → IsBegun them now after asked mark → (n : ℕ) → Continues (now.views.seen n) (after.views.seen n)
begun-grows them now after asked mark replies n =
    (all-behind them (them.choice (item_of_turn now asked)) now.views after.views replies.looks.others
    replies.looks.behind n).grows

-- the item that is replied to
pub Begun-replies : (them : Collections) (start now after : Point) (asked : Asked) (mark : Mark)
    (s : Serving them start now) → IsBegun them now after asked mark
    → Begun them start after s.taken (s.written ++ take mark.sent (reply_of_turn them now after asked mark))
    (s.done ++ item_of_turn now asked ∷ [])
Begun-replies them start now after asked mark s replies = record {
  moved_is = replies.put_is ∙ ap (after_put bytes) b.moved_is ∙ moved-put s.taken s.written bytes start.link.held;
  next = b.next;
  count = ap length replies.trail_is ∙ length-append now.trail (mark ∷ [])
      ∙ ap (λ (n : ℕ). n + 1) b.count ∙ sym (length-append s.done (item ∷ []));
  goes_of = goes-on them start now after s.done item mark b.goes_of b.count replies.looks replies.trail_is
      replies.revision_is;
  written_is = ap (λ (l : List ℕ). l ++ bytes) (b.written_is
      ∙ same-sent them now.views.seen seen now.trail s.done start.session.before
      (begun-grows them now after asked mark replies) s.each)
      ∙ ap (λ (n : ℕ). sent_for them seen now.trail s.done start.session.before
      ++ take mark.sent (reply_for them seen mark item n)) number
      ∙ ap (λ (l : List ℕ). sent_for them seen now.trail s.done start.session.before ++ l)
      (sym (sent-one them seen mark item [] (start.session.before + length now.trail)))
      ∙ sym (sent-append them seen now.trail (mark ∷ []) s.done (item ∷ []) start.session.before b.count)
      ∙ ap (λ (l : List Mark). sent_for them seen l (s.done ++ item ∷ []) start.session.before)
      (sym replies.trail_is);
}
  where
    item : Item
    item = item_of_turn now asked

    seen : ℕ → List Op
    seen = after.views.seen

    bytes : List ℕ
    bytes = take mark.sent (reply_of_turn them now after asked mark)

    b : Begun them start now s.taken s.written s.done
    b = s.begun

    before_is : now.session.before ≡ start.session.before + length s.done
    before_is = ap (λ (x : State). x.before) s.session_is

    number : now.session.before + 1 ≡ start.session.before + length now.trail + 1
    number = omega (arith, before_is, b.count)

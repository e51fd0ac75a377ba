-- What was done so far on a link, after a reply was begun.
use Rattle.std.proofs.Common.{◌≡◌, ◌⊎◌, ⊎_elim, inl, inr, ℕ, ◌+◌, List, [], ◌∷◌, ◌++◌, length, take, Bool, true, false, Result, Ok, Err, refl, sym, ap, subst, ◌∙◌, append-nil, arith}
use Rattle.std.specs.Prelude.{is_ok}
use Rattle.std.proofs.lemmas.List.{take_all}
use Rattle.fm_base.specs.Chain.{◌>>=◌}
use Rattle.fm_model.specs.declared.loaded.Loaded.{Loaded}
use Rattle.fm_model.specs.declared.op.Op.{Op}
use Rattle.fm_model.specs.declared.proto.Proto.{Proto}
use Rattle.fm_model.specs.Collection.{coll}
use Rattle.dev_traits.proofs.LinkLemmas.{after_put_nothing}
use Rattle.web_frame.specs.Items.{Item}
use Rattle.web_path.specs.declared.target.Target.{Target}
use Rattle.web_session.specs.declared.action.Asked.{Asked}
use Rattle.web_session.specs.Run.{item_asked}
use Rattle.web_session.specs.State.{State}
use Rattle.dap_reply.specs.declared.body.Answer.{Answer}
use Rattle.dap_reply.specs.declared.fault.DapFault.{DapFault}
use Rattle.dap_reply.specs.Body.{body_of}
use Rattle.dap_reply.specs.Collections.{is_wanted_of, proto_for, Collections, Views}
use Rattle.dap_reply.specs.Head.{no_memory_reply}
use Rattle.dap_reply.specs.Parts.{bytes_of}
use Rattle.dap_reply.specs.Reply.{answer_to, answered, has_head_alone, is_last, is_wanted, reply_of, reply_text, target_wanted}
use Rattle.srv_action.specs.declared.doing.Doing.{Doing}
use Rattle.srv_conn.specs.Begins.{looks_for, revision_for, seen_for, IsReplyTo, IsShortOf}
use Rattle.srv_conn.specs.ServesMany.{point_of, Point}
use Rattle.srv_conn.specs.Sight.{sight_in, IsBehind, OthersStay, Sight}
use Rattle.srv_conn.specs.SoFar.{Asks, Parting, Sending}
use Rattle.srv_conn.specs.Turn.{Sees}
use Rattle.srv_conn.proofs.ViewLemmas.{behind-same}

-- ---- a request for which no collection is looked at

-- its answer is the same over any files
answer-any : (proto : Proto) (one other : List Loaded) (item : Item) → is_wanted proto.site item ≡ false
    → answer_to proto one item ≡ answer_to proto other item
unfolding answer_to
answer-any proto one other item unwanted = by_result (target_wanted proto.site item) unwanted
  where
    by_result : (r : Result Target DapFault) → is_ok r ≡ false → answered (r >>= (λ target. body_of proto one target))
        ≡ answered (r >>= (λ target. body_of proto other target))
    by_result (Ok target) is = absurd (cc)
    by_result (Err fault) is = refl

reply-any : (proto : Proto) (one other : List Loaded) (revision : ℕ) (item : Item) (number : ℕ)
    → is_wanted proto.site item ≡ false
    → reply_of proto one revision item number ≡ reply_of proto other revision item number
unfolding reply_of
reply-any proto one other revision item number unwanted =
    ap (λ (answer : Answer). reply_text answer revision (has_head_alone item) (is_last item number))
    (answer-any proto one other item unwanted)

-- ---- by whether a collection is looked at

reply-own : (proto : Proto) (item : Item) (number revision : ℕ) (before now : List Op) (wanted : Bool)
    → wanted ≡ is_wanted proto.site item → revision ≡ revision_for wanted (length now) (length before)
    → reply_of proto (coll now) revision item number
    ≡ reply_of proto (coll (take revision (seen_for wanted before now))) revision item number
reply-own proto item number revision before now true is revision_is =
    ap (λ (l : List Op). reply_of proto (coll l) revision item number)
    (sym (take_all revision now (omega (arith, revision_is))))
reply-own proto item number revision before now false is revision_is =
    reply-any proto (coll now) (coll (take revision before)) revision item number (sym is)

pub revision-own : (revision : ℕ) (before now : List Op) (wanted : Bool)
    → revision ≡ revision_for wanted (length now) (length before)
    → revision ≡ length (seen_for wanted before now)
revision-own revision before now true is = is
revision-own revision before now false is = is

-- the operations that a reply is over, and the looks with those for it
abbrev pub sight_after : Bool → Sight → List Op → Sight
sight_after wanted before now =
    record { seen = seen_for wanted before.seen now; looks = before.looks ++ looks_for wanted (length now) }

-- what is seen so of the collection that an item is for, and the others as before
sees-own : (them : Collections) (item : Item) (before after : Views) (now : List Op) (wanted : Bool)
    → wanted ≡ is_wanted_of them item
    → IsBehind (them.still (them.choice item)) (before.seen (them.choice item)) now
    → OthersStay (them.choice item) before after
    → sight_in after (them.choice item) ≡ sight_after wanted (sight_in before (them.choice item)) now
    → Sees them before after item
sees-own them item before after now true is behind others sight = record {
  behind = subst (IsBehind (them.still (them.choice item)) (before.seen (them.choice item))) (sym seen) behind;
  looks_are = ap (λ (s : Sight). s.looks) sight
      ∙ ap (λ (l : List Op). before.looks (them.choice item) ++ length l ∷ []) (sym seen)
      ∙ ap (λ (b : Bool). before.looks (them.choice item) ++ looks_for b (length (after.seen (them.choice item)))) is;
  unwanted = λ no. absurd (cc);
  others = others;
}
  where
    seen : after.seen (them.choice item) ≡ now
    seen = ap (λ (s : Sight). s.seen) sight
sees-own them item before after now false is behind others sight = record {
  behind = behind-same (them.still (them.choice item)) (before.seen (them.choice item))
      (after.seen (them.choice item)) seen;
  looks_are = ap (λ (s : Sight). s.looks) sight
      ∙ ap (λ (b : Bool). before.looks (them.choice item) ++ looks_for b (length (after.seen (them.choice item)))) is;
  unwanted = λ _. seen;
  others = others;
}
  where
    seen : after.seen (them.choice item) ≡ before.seen (them.choice item)
    seen = ap (λ (s : Sight). s.seen) sight

-- where nothing is looked at nothing more is seen
pub seen-same : (before now : List Op) (wanted : Bool) → (wanted ≡ false → now ≡ before)
    → seen_for wanted before now ≡ now
seen-same before now true same = refl
seen-same before now false same = sym (same refl)

-- ---- a reply is begun, or memory ran out

module _ {them : Collections} {start : Point} {most : ℕ} where
  -- a reply is begun from the collection that the request is for
  pub begins-sending : (now : Point) (asked : Asked) (session' : State) (doing' : Doing) (number : ℕ)
      (sight sight' : Sight) (last revision : ℕ) (after : Views) → Asks them start now most asked
      → number ≡ them.choice (item_asked asked now.session.held)
      → IsBehind (them.still number) (now.views.seen number) sight'.seen
      → last ≡ length (now.views.seen number) → OthersStay number now.views after
      → sight_in after number ≡ sight_after (is_wanted (them.proto number).site (item_asked asked now.session.held))
      (sight_in now.views number) sight'.seen
      → (r : IsReplyTo (them.proto number) (item_asked asked now.session.held) last now.session session' doing' sight
      sight' revision)
      → Sending them start
      (point_of now.link after now.session (now.trail ++ record { revision = revision; sent = 0 } ∷ [])) most
      (bytes_of r.plan) 0
  begins-sending now asked session' doing' number sight sight' last revision after asks choice behind last_is others
      at r = record {
        before = now;
        asked = asked;
        asks = asks;
        mark = record { revision = revision; sent = 0 };
        replies = record {
          looks = sees-own them item now.views after sight'.seen wanted
              (ap (λ (n : ℕ). is_wanted (them.proto n).site item) choice)
              (subst (λ (n : ℕ). IsBehind (them.still n) (now.views.seen n) sight'.seen) choice behind)
              (subst (λ (n : ℕ). OthersStay n now.views after) choice others)
              (subst (λ (n : ℕ). sight_in after n ≡ sight_after wanted (sight_in now.views n) sight'.seen) choice at);
          trail_is = refl;
          revision_is = revision-own revision (now.views.seen number) sight'.seen wanted known
              ∙ ap length (sym seen) ∙ ap (λ (n : ℕ). length (after.seen n)) choice;
          put_is = after_put_nothing
              (reply_of (proto_for them item) (coll (take revision (after.seen (them.choice item)))) revision item
              (now.session.before + 1)) now.link.held;
        };
        sent_is = refl;
        within = omega arith;
        bytes_are = r.bytes_are
            ∙ reply-own (them.proto number) item (now.session.before + 1) revision (now.views.seen number) sight'.seen
            wanted refl known
            ∙ ap (λ (l : List Op). reply_of (them.proto number) (coll (take revision l)) revision item
            (now.session.before + 1)) (sym seen)
            ∙ ap (λ (n : ℕ). reply_of (them.proto n) (coll (take revision (after.seen n))) revision item
            (now.session.before + 1)) choice;
        session_is = refl;
        faults_are = refl;
      }
    where
      item : Item
      item = item_asked asked now.session.held

      wanted : Bool
      wanted = is_wanted (them.proto number).site item

      seen : after.seen number ≡ seen_for wanted (now.views.seen number) sight'.seen
      seen = ap (λ (s : Sight). s.seen) at

      known : revision ≡ revision_for wanted (length sight'.seen) (length (now.views.seen number))
      known = r.revision_is ∙ ap (revision_for wanted (length sight'.seen)) last_is

  -- memory ran out, with these looks more at one collection
  pub begins-parting : (now : Point) (asked : Asked) (session' : State) (doing' : Doing) (number : ℕ)
      (sight sight' : Sight) (more : List ℕ) (after : Views) → Asks them start now most asked
      → IsBehind (them.still number) (now.views.seen number) sight'.seen → OthersStay number now.views after
      → sight_in after number ≡ record { seen = sight'.seen; looks = now.views.looks number ++ more }
      → IsShortOf now.session session' doing' sight sight'
      → (more ≡ []) ⊎ (more ≡ length sight'.seen ∷ [])
      → Parting them start (point_of now.link after session' now.trail) most 0
  begins-parting now asked session' doing' number sight sight' more after asks behind others at r one = record {
    before = now;
    asked = asked;
    asks = asks;
    number = number;
    behind = subst (IsBehind (them.still number) (now.views.seen number)) (sym seen) behind;
    looks_are = ⊎_elim
        (λ none. inl (looks ∙ ap (λ (l : List ℕ). now.views.looks number ++ l) none
        ∙ append-nil (now.views.looks number)))
        (λ look. inr (looks ∙ ap (λ (l : List ℕ). now.views.looks number ++ l)
        (look ∙ ap (λ (l : List Op). length l ∷ []) (sym seen)))) one;
    others = others;
    trail_is = refl;
    within = omega arith;
    put_is = after_put_nothing no_memory_reply now.link.held;
    faults_are = refl;
    ended = r.ended;
  }
    where
      seen : after.seen number ≡ sight'.seen
      seen = ap (λ (s : Sight). s.seen) at

      looks : after.looks number ≡ now.views.looks number ++ more
      looks = ap (λ (s : Sight). s.looks) at

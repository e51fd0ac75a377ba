-- A session is fed byte by byte until a request is whole.
use Rattle.std.proofs.Common.{◌≡◌, ◌≤◌, ℕ, ◌+◌, ◌-◌, Bool, true, false, cond, List, [], ◌∷◌, ◌++◌, length, take, drop, Option, Some, None, refl, sym, ap, ◌∙◌, arith, append_assoc, append-nil}
use Rattle.std.specs.Prelude.{is_none}
use Rattle.fm_model.specs.declared.op.Op.{Op}
use Rattle.fm_model.specs.declared.proto.Proto.{Proto}
use Rattle.fm_model.specs.Collection.{coll}
use Rattle.web_frame.specs.Limit.{MAX_HEAD}
use Rattle.web_frame.specs.Items.{Item}
use Rattle.pub_core.specs.declared.event.Event.{Event}
use Rattle.pub_core.specs.World.{is_refused_at, script_in, waits, SessionState, World}
use Rattle.pub_core.specs.Happening.{begun, happens, run}
use Rattle.pub_core.specs.Running.{feed_byte, feeding, first_waits}
use Rattle.pub_core.specs.Standing.{first_item, Rests}
use Rattle.pub_core.proofs.ItemLemmas.{first-stays, room-none}
use Rattle.pub_core.proofs.OneSession.{happens-feed, one, run-cons, run-none, waits-one}
use Rattle.pub_core.proofs.Replying.{waits-reply}
use Rattle.pub_core.proofs.Resting.{begin-rest, due-rest, feed-rest, few-rest, waits-rest}
use Rattle.pub_core.proofs.SoFar.{fed_more, script-fed, some-reply}
use Rattle.pub_core.proofs.Steps.{begins, begun-no, feeds}

-- where a session was fed so: a request is whole, and nothing was begun but what was due
pub record Fed (proto : Proto) (log : List Op) (s : SessionState) (left input : List ℕ) (item : Item) : Type 0 where
  pub after : SessionState
  pub behind : List ℕ
  pub run_is : run proto (one log (begun proto log s)) (feeding proto (one log (begun proto log s)) input)
      ≡ one log (begun proto log after)
  pub rests : Rests proto log after behind
  pub item_is : first_item behind ≡ Some item
  pub left_is : behind ++ drop (length (feeding proto (one log (begun proto log s)) input)) input ≡ left ++ input
  pub script_is : script_in proto log after ≡ script_in proto log s
  pub revs_are : after.revs ≡ s.revs
  pub seen_is : after.seen ≡ s.seen

-- a session doesn't wait where a request is whole
busy-by : {proto : Proto} {log : List Op} {s : SessionState} {left : List ℕ} {item : Item} (refused : Bool)
    → is_refused_at proto.site (Some item) ≡ refused → Rests proto log s left → first_item left ≡ Some item
    → waits proto log (begun proto log s) ≡ false
busy-by {proto} {log} {s} {left} {item} true is r first =
    ap (waits proto log) (begins item r first is)
    ∙ waits-reply (begin-rest item s.seen s.seen r first
    (some-reply proto (coll (take s.seen log)) s.seen item (length s.revs + 1)))
busy-by {proto} {log} {s} false is r first =
    ap (waits proto log) (begun-no proto log s (due-rest r ∙ ap (is_refused_at proto.site) first ∙ is))
    ∙ waits-rest r ∙ ap (λ (o : Option Item). is_none o) first

feeding-no : (proto : Proto) (world : World) (input : List ℕ) → first_waits proto world ≡ false
    → feeding proto world input ≡ []
unfolding feeding
feeding-no proto world [] busy = refl
feeding-no proto world (byte ∷ bytes) busy =
    ap (λ (b : Bool). cond b (feed_byte byte ∷ feeding proto (happens proto world (feed_byte byte)) bytes) []) busy

feeding-yes : (proto : Proto) (world : World) (byte : ℕ) (bytes : List ℕ) → first_waits proto world ≡ true
    → feeding proto world (byte ∷ bytes) ≡ feed_byte byte ∷ feeding proto (happens proto world (feed_byte byte)) bytes
unfolding feeding
feeding-yes proto world byte bytes waits =
    ap (λ (b : Bool). cond b (feed_byte byte ∷ feeding proto (happens proto world (feed_byte byte)) bytes) []) waits

-- nothing is fed where a request is whole
fed-none : {proto : Proto} {log : List Op} {s : SessionState} {left : List ℕ} (item found : Item) (input : List ℕ)
    → Rests proto log s left → first_item (left ++ input) ≡ Some item → first_item left ≡ Some found
    → Fed proto log s left input item
fed-none {proto} {log} {s} {left} item found input r all first =
    let none : feeding proto (one log (begun proto log s)) input ≡ [] =
    feeding-no proto (one log (begun proto log s)) input
    (waits-one proto log (begun proto log s) ∙ busy-by (is_refused_at proto.site (Some found)) refl r first) in
    record {
      after = s;
      behind = left;
      run_is = ap (run proto (one log (begun proto log s))) none ∙ run-none proto (one log (begun proto log s));
      rests = r;
      item_is = first ∙ sym (first-stays left input found first) ∙ all;
      left_is = ap (λ (l : List Event). left ++ drop (length l) input) none;
      script_is = refl;
      revs_are = refl;
      seen_is = refl;
    }

fed-by : {proto : Proto} {log : List Op} {s : SessionState} {left : List ℕ} (item : Item) (input : List ℕ)
    (front : Option Item) → Rests proto log s left → first_item (left ++ input) ≡ Some item → first_item left ≡ front
    → Fed proto log s left input item
fed-by {proto} {log} {s} {left} item input (Some found) r all first = fed-none item found input r all first
fed-by {proto} {log} {s} {left} item [] None r all first =
    let clash : None ≡ Some item = sym first ∙ ap first_item (sym (append-nil left)) ∙ all in absurd (cc)
fed-by {proto} {log} {s} {left} item (byte ∷ bytes) None r all first =
    let piece : List ℕ = byte ∷ [] in
    let here : SessionState = fed_more s piece in
    let before : begun proto log s ≡ s = begun-no proto log s (due-rest r ∙ ap (is_refused_at proto.site) first) in
    let room : length piece ≤ MAX_HEAD - length left = omega (arith, room-none left first) in
    let step : happens proto (one log (begun proto log s)) (feed_byte byte) ≡ one log (begun proto log here) =
    ap (λ (x : SessionState). happens proto (one log x) (feed_byte byte)) before
    ∙ happens-feed proto log s piece ∙ ap (one log) (feeds 0 piece r first (omega arith) room) in
    let waiting : first_waits proto (one log (begun proto log s)) ≡ true =
    ap (λ (x : SessionState). first_waits proto (one log x)) before ∙ waits-one proto log s
    ∙ waits-rest r ∙ ap (λ (o : Option Item). is_none o) first in
    let rest : Fed proto log here (left ++ piece) bytes item =
    fed-by item bytes (first_item (left ++ piece)) (feed-rest piece r)
    (ap first_item (append_assoc left piece bytes) ∙ all) refl in
    let events : feeding proto (one log (begun proto log s)) (byte ∷ bytes)
    ≡ feed_byte byte ∷ feeding proto (one log (begun proto log here)) bytes =
    feeding-yes proto (one log (begun proto log s)) byte bytes waiting
    ∙ ap (λ (w : World). feed_byte byte ∷ feeding proto w bytes) step in
    record {
      after = rest.after;
      behind = rest.behind;
      run_is = ap (run proto (one log (begun proto log s))) events
          ∙ run-cons proto (one log (begun proto log s)) (feed_byte byte)
          (feeding proto (one log (begun proto log here)) bytes)
          ∙ ap (λ (w : World). run proto w (feeding proto (one log (begun proto log here)) bytes)) step
          ∙ rest.run_is;
      rests = rest.rests;
      item_is = rest.item_is;
      left_is = ap (λ (l : List Event). rest.behind ++ drop (length l) (byte ∷ bytes)) events
          ∙ rest.left_is ∙ append_assoc left piece bytes;
      script_is = rest.script_is ∙ script-fed proto log s piece (few-rest r);
      revs_are = rest.revs_are;
      seen_is = rest.seen_is;
    }

pub fed : {proto : Proto} {log : List Op} {s : SessionState} {left : List ℕ} (item : Item) (input : List ℕ)
    → Rests proto log s left → first_item (left ++ input) ≡ Some item → Fed proto log s left input item
fed {proto} {log} {s} {left} item input r all = fed-by item input (first_item left) r all refl

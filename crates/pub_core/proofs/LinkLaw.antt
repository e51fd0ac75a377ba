-- The events of a served link lead to a session that was sent the bytes written to the link. It is long, since one
-- induction over the replies needs all that holds where a reply is whole.
use Rattle.std.proofs.Common.{◌≡◌, ◌≤◌, ◌<◌, suc, ℕ, ◌+◌, false, List, [], ◌∷◌, ◌++◌, length, take, drop, Some, refl, sym, ap, ap₂, subst, ◌∙◌, arith, length-append, length-take, append_assoc, append-nil}
use Rattle.std.specs.Prelude.{slice_get}
use Rattle.std.specs.List.{All}
use Rattle.std.proofs.lemmas.List.{take_all}
use Rattle.fm_model.specs.declared.op.Op.{Op}
use Rattle.fm_model.specs.declared.proto.Proto.{Proto}
use Rattle.web_frame.specs.Items.{heads_of, Heads, Item, ReadsTo}
use Rattle.web_frame.specs.Stream.{held_after}
use Rattle.web_frame.proofs.ItemLemmas.{ReadsTo-start}
use Rattle.dap_reply.specs.declared.served.Mark.{Mark}
use Rattle.dap_reply.specs.Reply.{is_last}
use Rattle.dap_reply.specs.Served.{marked_reply, sent_by, RepeatsUnwanted, Rises}
use Rattle.pub_core.specs.declared.event.Event.{Event}
use Rattle.pub_core.specs.World.{script_in, SessionState, World}
use Rattle.pub_core.specs.Happening.{begun, run}
use Rattle.pub_core.specs.Running.{feeding, first_output, left_after, looking, replies, replying, sending, AreTakenInTurn}
use Rattle.pub_core.specs.Standing.{Rests}
use Rattle.pub_core.proofs.Delivery.{output-begun, output-marked, whole-marked}
use Rattle.pub_core.proofs.Feeding.{fed, Fed}
use Rattle.pub_core.proofs.ItemLemmas.{first-there, passes}
use Rattle.pub_core.proofs.OneSession.{all-more, one, output-one, run-append, run-none}
use Rattle.pub_core.proofs.Replying.{sent_more, send-whole}
use Rattle.pub_core.proofs.SoFar.{script-published}
use Rattle.pub_core.proofs.Turns.{begin-reply, fronts, BeginsReply}

-- the facts in marks on the replies to items, after `count` others
pub record AreMarked (proto : Proto) (ops : List Op) (marks : List Mark) (items : List Item) (count : ℕ) : Type 0 where
  pub within : (index : ℕ) (mark : Mark) (item : Item) → slice_get marks index ≡ Some mark
      → slice_get items index ≡ Some item
      → mark.sent ≤ length (marked_reply proto ops mark item (count + index + 1))
  pub whole : (index : ℕ) (mark : Mark) (item : Item) → index + 1 < length marks → slice_get marks index ≡ Some mark
      → slice_get items index ≡ Some item
      → mark.sent ≡ length (marked_reply proto ops mark item (count + index + 1))
  pub goes_on : (index : ℕ) (item : Item) → index + 1 < length marks → slice_get items index ≡ Some item
      → is_last item (count + index + 1) ≡ false

later-number : (count index : ℕ) → count + suc index + 1 ≡ count + 1 + index + 1
later-number count index = omega arith

marked-rest : (proto : Proto) (ops : List Op) (mark : Mark) (marks : List Mark) (item : Item) (items : List Item)
    (count : ℕ) → AreMarked proto ops (mark ∷ marks) (item ∷ items) count → AreMarked proto ops marks items (count + 1)
marked-rest proto ops mark marks item items count m = record {
  within = λ index one_mark one_item mark_is item_is.
      subst (λ (n : ℕ). one_mark.sent ≤ length (marked_reply proto ops one_mark one_item n)) (later-number count index)
      (m.within (suc index) one_mark one_item mark_is item_is);
  whole = λ index one_mark one_item below mark_is item_is.
      subst (λ (n : ℕ). one_mark.sent ≡ length (marked_reply proto ops one_mark one_item n)) (later-number count index)
      (m.whole (suc index) one_mark one_item (omega arith) mark_is item_is);
  goes_on = λ index one_item below item_is.
      subst (λ (n : ℕ). is_last one_item n ≡ false) (later-number count index)
      (m.goes_on (suc index) one_item (omega arith) item_is);
}

rises-le : (from to : ℕ) (marks : List Mark) → Rises from marks to → from ≤ to
unfolding Rises
rises-le from to [] rises = rises
rises-le from to (mark ∷ marks) rises = omega (arith, rises.0, rises-le mark.revision to marks rises.1)

-- where the replies that are left begin
pub record Ready (proto : Proto) (ops : List Op) (n : ℕ) (s : SessionState) (left input : List ℕ) (marks : List Mark)
    (items : List Item) : Type 0 where
  pub rests : Rests proto (take n ops) s left
  pub seen_is : s.seen ≡ n
  pub within : All (λ (revision : ℕ). revision ≤ n) s.revs
  pub items_are : (heads_of (left ++ input)).items ≡ items
  pub few : length marks ≤ length items
  pub rises : Rises n marks (length ops)
  pub repeats : RepeatsUnwanted proto n marks items
  pub marked : AreMarked proto ops marks items (length s.revs)

-- the world there
abbrev pub here : Proto → List Op → ℕ → SessionState → World
here proto ops n s = one (take n ops) (begun proto (take n ops) s)

-- one reply there
record Turned (proto : Proto) (ops : List Op) (n : ℕ) (s : SessionState) (left input : List ℕ) (mark : Mark)
    (item : Item) : Type 0 where
  fed_so : Fed proto (take n ops) s left input item
  begun_so : BeginsReply proto ops fed_so.after fed_so.behind mark item (looking proto ops n mark item)
      (one (take n ops) (begun proto (take n ops) fed_so.after))
  run_is : run proto (here proto ops n s) (replying proto ops (here proto ops n s) n input mark item)
      ≡ run proto (one (take mark.revision ops) begun_so.after) (sending mark)
  script_is : script_in proto (take mark.revision ops) fed_so.after ≡ script_in proto (take n ops) s
  number_is : length fed_so.after.revs ≡ length s.revs

turned : (proto : Proto) (ops : List Op) (n : ℕ) (s : SessionState) (left input : List ℕ) (mark : Mark)
    (marks : List Mark) (item : Item) (items : List Item) → AreTakenInTurn ops
    → Ready proto ops n s left input (mark ∷ marks) (item ∷ items)
    → Turned proto ops n s left input mark item
unfolding replying Rises RepeatsUnwanted
turned proto ops n s left input mark marks item items taken ready = record {
  fed_so = f;
  begun_so = b;
  run_is = run-append proto world (feeds ++ looks) (sending mark)
      ∙ ap (λ (w : World). run proto w (sending mark))
      (run-append proto world feeds looks ∙ ap (λ (w : World). run proto w looks) f.run_is ∙ b.run_is);
  script_is = ap (λ (l : List Op). script_in proto l f.after) (sym (fronts ops n mark.revision ready.rises.0))
      ∙ script-published proto (take n ops) _ f.after (omega_within f.after.revs within)
      ∙ f.script_is;
  number_is = ap length f.revs_are;
}
  where
    world : World
    world = here proto ops n s

    f : Fed proto (take n ops) s left input item
    f = fed item input ready.rests (sym (first-there (left ++ input))
        ∙ ap (λ (l : List Item). slice_get l 0) ready.items_are)

    feeds : List Event
    feeds = feeding proto world input

    looks : List Event
    looks = looking proto ops n mark item

    to : mark.revision ≤ length ops
    to = rises-le mark.revision (length ops) marks ready.rises.1

    within : All (λ (revision : ℕ). revision ≤ n) f.after.revs
    within = subst (λ (l : List ℕ). All (λ (revision : ℕ). revision ≤ n) l) (sym f.revs_are) ready.within

    omega_within : (revs : List ℕ) → All (λ (revision : ℕ). revision ≤ n) revs
        → All (λ (revision : ℕ). revision ≤ length (take n ops)) revs
    omega_within revs all = λ index d below. omega (arith, all index d below, length-take n ops, to, ready.rises.0)

    b : BeginsReply proto ops f.after f.behind mark item looks (one (take n ops) (begun proto (take n ops) f.after))
    b = begin-reply proto ops n f.after f.behind mark item f.rests f.item_is taken ready.rises.0 to within
        (f.seen_is ∙ ready.seen_is) ready.repeats.0

-- ---- the replies, one after the other

reply-at : (proto : Proto) (ops : List Op) (mark : Mark) (item : Item) (count number : ℕ) → count ≡ number
    → marked_reply proto ops mark item (number + 0 + 1) ≡ marked_reply proto ops mark item (count + 1)
reply-at proto ops mark item count number is =
    let same : number + 0 + 1 ≡ count + 1 = omega (arith, is) in
    ap (marked_reply proto ops mark item) same

-- the session that the replies that are left lead to
abbrev pub Leads : Proto → List Op → List Mark → List Item → Type 0
Leads proto ops marks items =
    (n : ℕ) (s : SessionState) (left input : List ℕ) → Ready proto ops n s left input marks items
    → first_output proto (run proto (here proto ops n s) (replies proto ops (here proto ops n s) n input marks items))
    ≡ script_in proto (take n ops) s ++ sent_by proto ops marks items (length s.revs)

leads-last : (proto : Proto) (ops : List Op) (mark : Mark) (item : Item) (items : List Item) → AreTakenInTurn ops
    → Leads proto ops (mark ∷ []) (item ∷ items)
unfolding replies sent_by
leads-last proto ops mark item items taken n s left input ready =
    let t : Turned proto ops n s left input mark item =
    turned proto ops n s left input mark [] item items taken ready in
    let count : ℕ = length t.fed_so.after.revs in
    let script : List ℕ = script_in proto (take n ops) s in
    let same : marked_reply proto ops mark item (length s.revs + 0 + 1)
    ≡ marked_reply proto ops mark item (count + 1) =
    reply-at proto ops mark item count (length s.revs) t.number_is in
    let within : mark.sent ≤ length (marked_reply proto ops mark item (count + 1)) =
    subst (λ (l : List ℕ). mark.sent ≤ length l) same (ready.marked.within 0 mark item refl refl) in
    ap (λ (l : List Event). first_output proto (run proto (here proto ops n s) l))
    (append-nil (replying proto ops (here proto ops n s) n input mark item))
    ∙ ap (first_output proto) t.run_is
    ∙ output-marked mark t.begun_so.replies within
    ∙ ap₂ (λ (l : List ℕ) (k : ℕ). l ++ take mark.sent (marked_reply proto ops mark item (k + 1))) t.script_is
    t.number_is
    ∙ ap (λ (l : List ℕ). script ++ l) (sym (append-nil (take mark.sent (marked_reply proto ops mark item
    (length s.revs + 1)))))

-- where a whole reply leads on to
record Onward (proto : Proto) (ops : List Op) (n : ℕ) (s : SessionState) (left input : List ℕ) (mark : Mark)
    (marks : List Mark) (item : Item) (items : List Item) : Type 0 where
  next : SessionState
  behind : List ℕ
  run_is : run proto (here proto ops n s) (replying proto ops (here proto ops n s) n input mark item)
      ≡ here proto ops mark.revision next
  ready : Ready proto ops mark.revision next behind (left_after proto (here proto ops n s) input) marks items
  script_is : script_in proto (take mark.revision ops) next
      ≡ script_in proto (take n ops) s ++ take mark.sent (marked_reply proto ops mark item (length s.revs + 1))
  number_is : length next.revs ≡ length s.revs + 1

onward : (proto : Proto) (ops : List Op) (n : ℕ) (s : SessionState) (left input : List ℕ) (mark : Mark)
    (marks : List Mark) (item : Item) (items : List Item) → AreTakenInTurn ops → 0 < length marks
    → Ready proto ops n s left input (mark ∷ marks) (item ∷ items)
    → Onward proto ops n s left input mark marks item items
unfolding left_after script_in Rises RepeatsUnwanted
onward proto ops n s left input mark marks item items taken some ready = record {
  next = next;
  behind = (held_after f.behind).rest;
  run_is = t.run_is ∙ whole-marked mark b.replies whole goes;
  ready = record {
    rests = send-whole mark.sent b.replies (omega (arith, whole)) goes;
    seen_is = b.seen_is;
    within = subst (λ (l : List ℕ). All (λ (revision : ℕ). revision ≤ mark.revision) l)
        (ap (λ (l : List ℕ). l ++ mark.revision ∷ []) (sym f.revs_are) ∙ sym b.revs_are)
        (all-more s.revs n mark.revision ready.rises.0 ready.within);
    items_are = items_left;
    few = omega (arith, ready.few);
    rises = ready.rises.1;
    repeats = ready.repeats.1;
    marked = subst (AreMarked proto ops marks items) (sym number)
        (marked-rest proto ops mark marks item items (length s.revs) ready.marked);
  };
  script_is = b.replies.script_is
      ∙ ap₂ (λ (l : List ℕ) (k : ℕ). l ++ marked_reply proto ops mark item (k + 1)) t.script_is t.number_is
      ∙ ap (λ (l : List ℕ). script_in proto (take n ops) s ++ l)
      (sym (take_all mark.sent (marked_reply proto ops mark item (length s.revs + 1)) (omega (arith, whole_here))));
  number_is = number;
}
  where
    t : Turned proto ops n s left input mark item
    t = turned proto ops n s left input mark marks item items taken ready

    f : Fed proto (take n ops) s left input item
    f = t.fed_so

    b : BeginsReply proto ops f.after f.behind mark item (looking proto ops n mark item)
        (one (take n ops) (begun proto (take n ops) f.after))
    b = t.begun_so

    next : SessionState
    next = sent_more b.after mark.sent

    number : length b.after.revs ≡ length s.revs + 1
    number = omega (arith, ap length b.revs_are, length-append f.after.revs (mark.revision ∷ []), t.number_is)

    first_whole : mark.sent ≡ length (marked_reply proto ops mark item (length s.revs + 0 + 1))
    first_whole = ready.marked.whole 0 mark item (omega (arith, some)) refl refl

    whole : mark.sent ≡ length (marked_reply proto ops mark item (length f.after.revs + 1))
    whole = first_whole ∙ ap length (reply-at proto ops mark item (length f.after.revs) (length s.revs) t.number_is)

    whole_here : mark.sent ≡ length (marked_reply proto ops mark item (length s.revs + 1))
    whole_here = first_whole ∙ ap length (reply-at proto ops mark item (length s.revs) (length s.revs) refl)

    goes : is_last item (length b.after.revs) ≡ false
    goes = ap (is_last item) (number ∙ zero-between (length s.revs))
        ∙ ready.marked.goes_on 0 item (omega (arith, some)) refl
      where
        zero-between : (k : ℕ) → k + 1 ≡ k + 0 + 1
        zero-between k = omega arith

    rest : List ℕ
    rest = drop (length (feeding proto (here proto ops n s) input)) input

    read : ReadsTo f.behind ([] ++ item ∷ []) (held_after f.behind).rest
    read = passes item (length b.after.revs) (ReadsTo-start f.behind) f.item_is goes

    items_left : (heads_of ((held_after f.behind).rest ++ rest)).items ≡ items
    items_left =
        let all : item ∷ (heads_of ((held_after f.behind).rest ++ rest)).items ≡ item ∷ items =
        ap (λ (h : Heads). h.items) (sym (read.reads rest))
        ∙ ap (λ (l : List ℕ). (heads_of l).items) f.left_is ∙ ready.items_are in
        cc

leads-on : (proto : Proto) (ops : List Op) (mark next : Mark) (marks : List Mark) (item : Item) (items : List Item)
    → AreTakenInTurn ops → Leads proto ops (next ∷ marks) items → Leads proto ops (mark ∷ next ∷ marks) (item ∷ items)
unfolding replies sent_by
leads-on proto ops mark next marks item items taken further n s left input ready =
    let o : Onward proto ops n s left input mark (next ∷ marks) item items =
    onward proto ops n s left input mark (next ∷ marks) item items taken (omega arith) ready in
    let world : World = here proto ops n s in
    let events : List Event = replying proto ops world n input mark item in
    let rest : List ℕ = left_after proto world input in
    let reply : List ℕ = take mark.sent (marked_reply proto ops mark item (length s.revs + 1)) in
    ap (first_output proto) (run-append proto world events
    (replies proto ops (run proto world events) mark.revision rest (next ∷ marks) items)
    ∙ ap (λ (w : World). run proto w (replies proto ops w mark.revision rest (next ∷ marks) items)) o.run_is)
    ∙ further mark.revision o.next o.behind rest o.ready
    ∙ ap₂ (λ (l : List ℕ) (k : ℕ). l ++ sent_by proto ops (next ∷ marks) items k) o.script_is o.number_is
    ∙ append_assoc (script_in proto (take n ops) s) reply (sent_by proto ops (next ∷ marks) items (length s.revs + 1))

leads-turn : (proto : Proto) (ops : List Op) (mark : Mark) (marks : List Mark) (item : Item) (items : List Item)
    → AreTakenInTurn ops → Leads proto ops marks items → Leads proto ops (mark ∷ marks) (item ∷ items)
leads-turn proto ops mark [] item items taken further = leads-last proto ops mark item items taken
leads-turn proto ops mark (next ∷ marks) item items taken further =
    leads-on proto ops mark next marks item items taken further

pub leads : (proto : Proto) (ops : List Op) (marks : List Mark) (items : List Item) → AreTakenInTurn ops
    → Leads proto ops marks items
unfolding replies sent_by
leads proto ops [] items taken n s left input ready =
    ap (first_output proto) (run-none proto (here proto ops n s))
    ∙ output-one proto (take n ops) (begun proto (take n ops) s) ∙ output-begun ready.rests
    ∙ sym (append-nil (script_in proto (take n ops) s))
leads proto ops (mark ∷ marks) [] taken n s left input ready = absurd (omega (arith, ready.few))
leads proto ops (mark ∷ marks) (item ∷ items) taken n s left input ready =
    leads-turn proto ops mark marks item items taken (leads proto ops marks items taken) n s left input ready

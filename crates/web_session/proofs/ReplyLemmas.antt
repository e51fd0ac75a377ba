-- What a session asked for, after the bytes of a reply: the first heads of what it was fed.
use Rattle.std.proofs.Common.{◌≡◌, ℕ, ◌+◌, Bool, true, false, if◌then◌else◌, ltb, List, [], ◌∷◌, ◌++◌, take, drop, Option, Some, None, refl, sym, ap, subst, ◌∙◌, append-nil}
use Rattle.web_frame.specs.declared.request.Request.{Request}
use Rattle.web_frame.specs.Cut.{Cut, none_yet, whole, too_long, cut_of}
use Rattle.web_frame.specs.Items.{Item, request, bad_head, head_too_long, item_of, heads_of, ReadsTo, AreFirst}
use Rattle.web_frame.specs.Stream.{Held, target_in, next_by_item, next_by, held_by}
use Rattle.web_frame.proofs.ItemLemmas.{ReadsTo-item}
use Rattle.web_session.specs.declared.action.Asked.{Asked}
use Rattle.web_session.specs.declared.action.Asked.TheVariants as says
use Rattle.web_session.specs.declared.action.End.{End}
use Rattle.web_session.specs.declared.phase.Phase.{Phase}
use Rattle.web_session.specs.declared.phase.Phase.TheVariants.{Waiting, Asking, Sending}
use Rattle.web_session.specs.State.{State, phase_after, end_after, replied_by, replied, sent}
use Rattle.web_session.specs.Run.{item_asked, asks_in}
use Rattle.web_session.proofs.LookLemmas.{Present, Follows, next_of-cut, held_after-cut, look_follows, first_asked}

reads_on_item : (item : Item) (n : ℕ) (left text : List ℕ) (done : List Item) (r : Request) (held : Held)
    → ReadsTo text done left → cut_of left ≡ whole n
    → item_of (take n left) ≡ item → phase_after (next_by_item item) ≡ Asking (says.Head r)
    → held ≡ held_by (whole n) left
    → ReadsTo text (done ++ item_asked (says.Head r) held ∷ []) held.rest
reads_on_item (request q target) n left text done r held reads is item looked_is held_is =
    let same : q ≡ r = cc in
    let head : target_in (item_of held.head) ≡ target =
    ap (λ (h : Held). target_in (item_of h.head)) held_is ∙ ap target_in item in
    let asked_item : request q target ≡ item_asked (says.Head r) held =
    ap (λ (x : Request). request x target) same ∙ ap (request r) (sym head) in
    let rest : drop n left ≡ held.rest = sym (ap (λ (h : Held). h.rest) held_is) in
    subst (λ (l : List ℕ). ReadsTo text (done ++ item_asked (says.Head r) held ∷ []) l) rest
    (subst (λ (i : Item). ReadsTo text (done ++ i ∷ []) (drop n left)) asked_item
    (ReadsTo-item n q target reads is item))
reads_on_item bad_head n left text done r held reads is item looked_is held_is =
    let clash : ◌≡◌ {A = Phase} (Asking says.BadHead) (Asking (says.Head r)) = looked_is in
    absurd (cc)
reads_on_item head_too_long n left text done r held reads is item looked_is held_is =
    let clash : ◌≡◌ {A = Phase} (Asking says.HeadTooLong) (Asking (says.Head r)) = looked_is in
    absurd (cc)

reads_on_cut : (cut : Cut) (left text : List ℕ) (done : List Item) (r : Request) (held : Held) → ReadsTo text done left
    → cut_of left ≡ cut
    → phase_after (next_by cut left) ≡ Asking (says.Head r) → held ≡ held_by cut left
    → ReadsTo text (done ++ item_asked (says.Head r) held ∷ []) held.rest
reads_on_cut none_yet left text done r held reads is looked_is held_is =
    let clash : ◌≡◌ {A = Phase} Waiting (Asking (says.Head r)) = looked_is in
    absurd (cc)
reads_on_cut (whole n) left text done r held reads is looked_is held_is =
    reads_on_item (item_of (take n left)) n left text done r held reads is refl looked_is held_is
reads_on_cut too_long left text done r held reads is looked_is held_is =
    let clash : ◌≡◌ {A = Phase} (Asking says.HeadTooLong) (Asking (says.Head r)) = looked_is in
    absurd (cc)

reads_on : (text : List ℕ) (items : List Item) (r : Request) (held : Held) → Present text items (says.Head r) held
    → ReadsTo text items held.rest
reads_on text items r held p =
    let left : List ℕ = p.left in
    subst (λ (l : List Item). ReadsTo text l held.rest) (sym p.asked_is)
    (reads_on_cut (cut_of left) left text p.done r held p.reads refl
    (sym (ap phase_after (next_of-cut left (cut_of left) refl)) ∙ p.looked_is)
    (p.held_is ∙ held_after-cut left (cut_of left) refl))

pub ended_first : (text : List ℕ) (items : List Item) → AreFirst items (heads_of text).items
    → AreFirst (items ++ []) (heads_of text).items
ended_first text items first =
    subst (λ (l : List Item). AreFirst l (heads_of text).items) (sym (append-nil items)) first

replied_follows : (s : State) (what : Asked) (text : List ℕ) (items : List Item) (end : Option End)
    → Present text items what s.held → end_after what s.before ≡ end
    → Follows (replied_by end s) text (items ++ asks_in (replied_by end s).phase (replied_by end s).held)
replied_follows s what text items (Some end) p is = ended_first text items (first_asked text items what s.held p)
replied_follows s (says.Head r) text items None p is =
    look_follows s.held (s.before + 1) text items (reads_on text items r s.held p)
replied_follows s says.BadHead text items None p is = absurd (cc)
replied_follows s says.HeadTooLong text items None p is = absurd (cc)

sent_by : Bool → State → Asked → ℕ → ℕ → State
sent_by test s what from len = if test then record s { phase = Sending what from len } else replied s what

sent_by_follows : (test : Bool) (s : State) (what : Asked) (from len : ℕ) (text : List ℕ) (items : List Item)
    → Present text items what s.held
    → Follows (sent_by test s what from len) text
    (items ++ asks_in (sent_by test s what from len).phase (sent_by test s what from len).held)
unfolding sent_by replied
sent_by_follows true s what from len text items p =
    subst (λ (l : List Item). Present text l what s.held) (sym (append-nil items)) p
sent_by_follows false s what from len text items p = replied_follows s what text items (end_after what s.before) p refl

pub sent_follows : (s : State) (what : Asked) (from len : ℕ) (text : List ℕ) (items : List Item)
    → Present text items what s.held
    → Follows (sent s what from len) text (items ++ asks_in (sent s what from len).phase (sent s what from len).held)
unfolding sent sent_by
sent_follows s what from len text items p = sent_by_follows (ltb from len) s what from len text items p

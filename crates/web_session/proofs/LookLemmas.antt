-- What a session asked for, where it looked for the next head: the first heads of what it was fed.
use Rattle.std.proofs.Common.{◌≡◌, ℕ, List, [], ◌∷◌, ◌++◌, length, take, drop, refl, sym, ap, subst, ◌∙◌, append_assoc, append-nil}
use Rattle.std.proofs.lemmas.List.{take_at}
use Rattle.web_frame.specs.Cut.{Cut, none_yet, whole, too_long, cut_of}
use Rattle.web_frame.specs.Items.{Item, request, bad_head, head_too_long, item_of, Heads, item_before, heads_of, items_before, ReadsTo, AreFirst}
use Rattle.web_frame.specs.Stream.{Held, target_in, next_by_item, next_by, next_of, held_by, held_after}
use Rattle.web_frame.proofs.ItemLemmas.{heads_of-cut}
use Rattle.web_session.specs.declared.action.Asked.{Asked}
use Rattle.web_session.specs.declared.action.Asked.TheVariants as says
use Rattle.web_session.specs.declared.phase.Phase.{Phase}
use Rattle.web_session.specs.declared.phase.Phase.TheVariants.{Waiting, Asking, Sending, Ended}
use Rattle.web_session.specs.State.{State, phase_after, looked}
use Rattle.web_session.specs.Run.{item_asked, asks_in}

-- the present request is the first head of what is left to read
pub record Present (text : List ℕ) (items : List Item) (what : Asked) (held : Held) : Type 0 where
  pub done : List Item
  pub left : List ℕ
  pub reads : ReadsTo text done left
  pub asked_is : items ≡ done ++ item_asked what held ∷ []
  pub looked_is : phase_after (next_of left) ≡ Asking what
  pub held_is : held ≡ held_after left

-- what was asked for, by where the session stands
abbrev pub FollowsIn : Phase → List ℕ → List Item → Held → Type 0
FollowsIn Waiting text items held = ReadsTo text items held.rest × ((cut_of held.rest ≡ none_yet) × (held.head ≡ []))
FollowsIn (Asking what) text items held = Present text items what held
FollowsIn (Sending what from len) text items held = Present text items what held
FollowsIn (Ended end) text items held = AreFirst items (heads_of text).items

abbrev pub Follows : State → List ℕ → List Item → Type 0
Follows s text items = FollowsIn s.phase text items s.held

-- ---- looking for the next head

-- the next request, by where the first head ends
pub next_of-cut : (left : List ℕ) (cut : Cut) → cut_of left ≡ cut → next_of left ≡ next_by cut left
unfolding next_of
next_of-cut left cut is = ap (λ (k : Cut). next_by k left) is

-- what is held afterwards, by where the first head ends
pub held_after-cut : (left : List ℕ) (cut : Cut) → cut_of left ≡ cut → held_after left ≡ held_by cut left
unfolding held_after
held_after-cut left cut is = ap (λ (k : Cut). held_by k left) is

phase_at : (left : List ℕ) (n : ℕ) (item : Item) → cut_of left ≡ whole n → item_of (take n left) ≡ item
    → phase_after (next_of left) ≡ phase_after (next_by_item item)
phase_at left n item is item_is = ap phase_after (next_of-cut left (whole n) is ∙ ap next_by_item item_is)

present : (what : Asked) (left text : List ℕ) (done : List Item) (held : Held) → ReadsTo text done left
    → phase_after (next_of left) ≡ Asking what → held ≡ held_after left
    → Present text (done ++ item_asked what held ∷ []) what held
present what left text done held reads looked_is held_is =
    record { done = done; left = left; reads = reads; asked_is = refl; looked_is = looked_is; held_is = held_is }

look_item : (item : Item) (n : ℕ) (left text : List ℕ) (done : List Item) → ReadsTo text done left
    → cut_of left ≡ whole n → item_of (take n left) ≡ item
    → FollowsIn (phase_after (next_by_item item)) text
    (done ++ asks_in (phase_after (next_by_item item)) (held_by (whole n) left)) (held_by (whole n) left)
look_item (request r target) n left text done reads is item =
    present (says.Head r) left text done (held_by (whole n) left) reads (phase_at left n (request r target) is item)
    (sym (held_after-cut left (whole n) is))
look_item bad_head n left text done reads is item =
    present says.BadHead left text done (held_by (whole n) left) reads (phase_at left n bad_head is item)
    (sym (held_after-cut left (whole n) is))
look_item head_too_long n left text done reads is item =
    present says.HeadTooLong left text done (held_by (whole n) left) reads (phase_at left n head_too_long is item)
    (sym (held_after-cut left (whole n) is))

look_cut : (cut : Cut) (left text : List ℕ) (done : List Item) → ReadsTo text done left → cut_of left ≡ cut
    → FollowsIn (phase_after (next_by cut left)) text
    (done ++ asks_in (phase_after (next_by cut left)) (held_by cut left)) (held_by cut left)
look_cut none_yet left text done reads is =
    (subst (λ (l : List Item). ReadsTo text l left) (sym (append-nil done)) reads, (is, refl))
look_cut (whole n) left text done reads is = look_item (item_of (take n left)) n left text done reads is refl
look_cut too_long left text done reads is =
    present says.HeadTooLong left text done (held_by too_long left) reads
    (ap phase_after (next_of-cut left too_long is)) (sym (held_after-cut left too_long is))

pub look_follows : (held : Held) (before : ℕ) (text : List ℕ) (done : List Item) → ReadsTo text done held.rest
    → Follows (looked held before) text (done ++ asks_in (looked held before).phase (looked held before).held)
unfolding looked next_of held_after
look_follows held before text done reads = look_cut (cut_of held.rest) held.rest text done reads refl

-- ---- what was asked for are the first heads

first_of_more : (items more : List Item) → AreFirst items (items ++ more)
first_of_more items more = take_at items more (length items) refl

-- the heads that were read are the first heads
pub first_read : {text : List ℕ} {items : List Item} {left : List ℕ} → ReadsTo text items left
    → AreFirst items (heads_of text).items
first_read {text} {items} {left} reads =
    let all : heads_of text ≡ items_before items (heads_of (left ++ [])) =
    ap heads_of (sym (append-nil text)) ∙ reads.reads [] in
    ap (λ (h : Heads). take (length items) h.items) all ∙ first_of_more items (heads_of (left ++ [])).items

-- the heads of some bytes begin with this item
record BeginsWith (left : List ℕ) (item : Item) : Type 0 where
  more : List Item
  items_are : (heads_of left).items ≡ item ∷ more

begins_item : (item : Item) (n : ℕ) (left : List ℕ) (what : Asked) (held : Held) → cut_of left ≡ whole n
    → item_of (take n left) ≡ item
    → phase_after (next_by_item item) ≡ Asking what → held ≡ held_by (whole n) left
    → BeginsWith left (item_asked what held)
begins_item (request r target) n left what held is item looked_is held_is =
    let same : says.Head r ≡ what = cc in
    let head : target_in (item_of held.head) ≡ target =
    ap (λ (h : Held). target_in (item_of h.head)) held_is ∙ ap target_in item in
    let asked_item : item_asked what held ≡ request r target =
    ap (λ (w : Asked). item_asked w held) (sym same) ∙ ap (request r) head in
    let heads : heads_of left ≡ item_before (request r target) (drop n left) (heads_of (drop n left)) =
    heads_of-cut left (whole n) is ∙ ap (λ (i : Item). item_before i (drop n left) (heads_of (drop n left))) item in
    record {
      more = (heads_of (drop n left)).items;
      items_are = ap (λ (h : Heads). h.items) heads
          ∙ ap (λ (i : Item). i ∷ (heads_of (drop n left)).items) (sym asked_item);
    }
begins_item bad_head n left what held is item looked_is held_is =
    let same : says.BadHead ≡ what = cc in
    let heads : heads_of left ≡ item_before bad_head (drop n left) (heads_of (drop n left)) =
    heads_of-cut left (whole n) is ∙ ap (λ (i : Item). item_before i (drop n left) (heads_of (drop n left))) item in
    record {
      more = [];
      items_are = ap (λ (h : Heads). h.items) heads
          ∙ ap (λ (w : Asked). item_asked w held ∷ []) same;
    }
begins_item head_too_long n left what held is item looked_is held_is =
    let same : says.HeadTooLong ≡ what = cc in
    let heads : heads_of left ≡ item_before head_too_long (drop n left) (heads_of (drop n left)) =
    heads_of-cut left (whole n) is ∙ ap (λ (i : Item). item_before i (drop n left) (heads_of (drop n left))) item in
    record {
      more = [];
      items_are = ap (λ (h : Heads). h.items) heads
          ∙ ap (λ (w : Asked). item_asked w held ∷ []) same;
    }

begins_cut : (cut : Cut) (left : List ℕ) (what : Asked) (held : Held) → cut_of left ≡ cut
    → phase_after (next_by cut left) ≡ Asking what → held ≡ held_by cut left
    → BeginsWith left (item_asked what held)
begins_cut none_yet left what held is looked_is held_is =
    let clash : ◌≡◌ {A = Phase} Waiting (Asking what) = looked_is in
    absurd (cc)
begins_cut (whole n) left what held is looked_is held_is =
    begins_item (item_of (take n left)) n left what held is refl looked_is held_is
begins_cut too_long left what held is looked_is held_is =
    let same : says.HeadTooLong ≡ what = cc in
    record {
      more = [];
      items_are = ap (λ (h : Heads). h.items) (heads_of-cut left too_long is)
          ∙ ap (λ (w : Asked). item_asked w held ∷ []) same;
    }

-- the heads that were asked for are the first heads
pub first_asked : (text : List ℕ) (items : List Item) (what : Asked) (held : Held) → Present text items what held
    → AreFirst items (heads_of text).items
first_asked text items what held p =
    let left : List ℕ = p.left in
    let begins : BeginsWith left (item_asked what held) =
    begins_cut (cut_of left) left what held refl
    (sym (ap phase_after (next_of-cut left (cut_of left) refl)) ∙ p.looked_is)
    (p.held_is ∙ held_after-cut left (cut_of left) refl) in
    let all : heads_of text ≡ items_before p.done (heads_of left) =
    ap heads_of (sym (append-nil text)) ∙ p.reads.reads []
    ∙ ap (λ (l : List ℕ). items_before p.done (heads_of l)) (append-nil left) in
    let front : List Item = p.done ++ item_asked what held ∷ [] in
    let split : (heads_of text).items ≡ front ++ begins.more =
    ap (λ (h : Heads). h.items) all ∙ ap (λ (l : List Item). p.done ++ l) begins.items_are
    ∙ sym (append_assoc p.done (item_asked what held ∷ []) begins.more) in
    subst (λ (l : List Item). AreFirst l (heads_of text).items) (sym p.asked_is)
    (subst (λ (l : List Item). AreFirst front l) (sym split) (first_of_more front begins.more))

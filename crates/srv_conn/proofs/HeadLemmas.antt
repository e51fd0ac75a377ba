-- The requests that are read, as far as a session came.
use Rattle.std.proofs.Common.{◌≡◌, ℕ, suc, List, [], ◌∷◌, ◌++◌, length, take, drop, refl, sym, ap, subst, ◌∙◌, append-nil}
use Rattle.std.proofs.lemmas.List.{take-append-drop}
use Rattle.web_frame.specs.declared.request.Request.{Request}
use Rattle.web_frame.specs.Cut.{cut_of, Cut, none_yet, whole, too_long}
use Rattle.web_frame.specs.Items.{bad_head, head_too_long, heads_of, item_of, items_before, request, AreFirst, Heads, Item, ReadsTo}
use Rattle.web_frame.specs.Stream.{held_after, held_by, next_by, next_by_item, next_of, target_in, Held}
use Rattle.web_frame.proofs.ItemLemmas.{heads_of-cut, ReadsTo-item}
use Rattle.web_frame.proofs.LeftLemmas.{Leaves, Leaves-head}
use Rattle.web_session.specs.declared.action.Asked.{Asked}
use Rattle.web_session.specs.declared.action.Asked.TheVariants as says
use Rattle.web_session.specs.declared.phase.Phase.TheVariants.{Asking}
use Rattle.web_session.specs.Run.{item_asked}
use Rattle.web_session.specs.State.{phase_after}
use Rattle.web_session.proofs.LookLemmas.{first_asked, held_after-cut, next_of-cut}

-- the first items, and the bytes that follow them
pub rest_of : (items all : List Item) → AreFirst items all → all ≡ items ++ drop (length items) all
rest_of items all first =
    sym (take-append-drop (length items) all) ∙ ap (λ (l : List Item). l ++ drop (length items) all) first

-- the question is the next item
pub asked-first : (text left : List ℕ) (done : List Item) (asked : Asked) → ReadsTo text done left
    → phase_after (next_of left) ≡ Asking asked
    → AreFirst (done ++ item_asked asked (held_after left) ∷ []) (heads_of text).items
asked-first text left done asked reads asking =
    first_asked text (done ++ item_asked asked (held_after left) ∷ []) asked (held_after left) (record {
      done = done;
      left = left;
      reads = reads;
      asked_is = refl;
      looked_is = asking;
      held_is = refl;
    })

-- where no head is whole, all items are read
pub none-left : (text left : List ℕ) (done : List Item) → ReadsTo text done left → cut_of left ≡ none_yet
    → heads_of text ≡ record { items = done; rest = left }
none-left text left done reads is =
    let last : heads_of left ≡ record { items = []; rest = left } = heads_of-cut left none_yet is in
    ap heads_of (sym (append-nil text)) ∙ reads.reads []
    ∙ ap (λ (l : List ℕ). items_before done (heads_of l)) (append-nil left)
    ∙ ap (items_before done) last
    ∙ ap (heads_so left) (append-nil done)
  where
    heads_so : List ℕ → List Item → Heads
    heads_so rest items = record { items = items; rest = rest }

-- ---- after the reply to a head, the bytes after it are left

passes-item : (item : Item) (n : ℕ) (left text : List ℕ) (done : List Item) (r : Request) → ReadsTo text done left
    → cut_of left ≡ whole n → item_of (take n left) ≡ item
    → phase_after (next_by_item item) ≡ Asking (says.Head r)
    → ReadsTo text (done ++ item_asked (says.Head r) (held_by (whole n) left) ∷ []) (drop n left)
passes-item (request q target) n left text done r reads is item looked =
    let same : q ≡ r = cc in
    let asked_item : request q target ≡ item_asked (says.Head r) (held_by (whole n) left) =
    ap (λ (x : Request). request x target) same ∙ ap (request r) (sym (ap target_in item)) in
    subst (λ (i : Item). ReadsTo text (done ++ i ∷ []) (drop n left)) asked_item (ReadsTo-item n q target reads is item)
passes-item bad_head n left text done r reads is item looked = absurd (cc)
passes-item head_too_long n left text done r reads is item looked = absurd (cc)

passes-cut : (cut : Cut) (left text : List ℕ) (done : List Item) (r : Request) → ReadsTo text done left
    → cut_of left ≡ cut → phase_after (next_by cut left) ≡ Asking (says.Head r)
    → ReadsTo text (done ++ item_asked (says.Head r) (held_by cut left) ∷ []) (held_by cut left).rest
passes-cut none_yet left text done r reads is looked = absurd (cc)
passes-cut (whole n) left text done r reads is looked =
    passes-item (item_of (take n left)) n left text done r reads is refl looked
passes-cut too_long left text done r reads is looked = absurd (cc)

pub passes : (text left : List ℕ) (done : List Item) (r : Request) → ReadsTo text done left
    → phase_after (next_of left) ≡ Asking (says.Head r)
    → ReadsTo text (done ++ item_asked (says.Head r) (held_after left) ∷ []) (held_after left).rest
passes text left done r reads looked =
    subst (λ (h : Held). ReadsTo text (done ++ item_asked (says.Head r) h ∷ []) h.rest)
    (sym (held_after-cut left (cut_of left) refl))
    (passes-cut (cut_of left) left text done r reads refl
    (sym (ap phase_after (next_of-cut left (cut_of left) refl)) ∙ looked))

-- ---- and they are what is left of the bytes

leaves-cut : (cut : Cut) (left text : List ℕ) (n : ℕ) (r : Request) → Leaves text n left → cut_of left ≡ cut
    → phase_after (next_by cut left) ≡ Asking (says.Head r) → Leaves text (suc n) (held_by cut left).rest
leaves-cut none_yet left text n r l is looked = absurd (cc)
leaves-cut (whole len) left text n r l is looked = Leaves-head len l is
leaves-cut too_long left text n r l is looked = absurd (cc)

pub leaves-passed : (text left : List ℕ) (n : ℕ) (r : Request) → Leaves text n left
    → phase_after (next_of left) ≡ Asking (says.Head r) → Leaves text (suc n) (held_after left).rest
leaves-passed text left n r l looked =
    subst (λ (h : Held). Leaves text (suc n) h.rest) (sym (held_after-cut left (cut_of left) refl))
    (leaves-cut (cut_of left) left text n r l refl
    (sym (ap phase_after (next_of-cut left (cut_of left) refl)) ∙ looked))

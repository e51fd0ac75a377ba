-- The requests of the bytes that a session was fed, one by one.
use Rattle.std.proofs.Common.{◌≡◌, ◌<◌, zero, suc, ℕ, true, false, List, [], ◌∷◌, ◌++◌, length, take, drop, Some, None, refl, sym, ap, subst, ◌∙◌, append-nil}
use Rattle.std.specs.Prelude.{slice_get}
use Rattle.std.proofs.lemmas.List.{take-append-drop}
use Rattle.web_frame.specs.Limit.{MAX_HEAD}
use Rattle.web_frame.specs.Cut.{cut_of, Cut, none_yet, whole, too_long}
use Rattle.web_frame.specs.Items.{bad_head, head_too_long, heads_of, item_before, item_of, items_before, request, Heads, Item, ReadsTo}
use Rattle.web_frame.specs.Stream.{held_after, held_by, Held}
use Rattle.web_frame.proofs.ItemLemmas.{cut_none_yet, heads_of-cut, items_first, ReadsTo-item}
use Rattle.web_session.proofs.LookLemmas.{held_after-cut}
use Rattle.dap_reply.specs.Reply.{is_last}
use Rattle.pub_core.specs.Standing.{first_item, item_at}

-- ---- lists

-- what follows a list
pub get-after : {A : Type 0} (first more : List A) → slice_get (first ++ more) (length first) ≡ slice_get more 0
get-after [] more = refl
get-after (a ∷ first) more = get-after first more

-- an item at an index of a front stands there in the list
pub get-take : {A : Type 0} (n : ℕ) (all : List A) (index : ℕ) (a : A) → slice_get (take n all) index ≡ Some a
    → slice_get all index ≡ Some a
get-take zero all index a is = absurd (cc)
get-take (suc n) [] index a is = is
get-take (suc n) (b ∷ all) zero a is = is
get-take (suc n) (b ∷ all) (suc index) a is = get-take n all index a is

-- the rest of a list from an index on
pub drop-get : {A : Type 0} (all : List A) (index : ℕ) (a : A) → slice_get all index ≡ Some a
    → drop index all ≡ a ∷ drop (suc index) all
drop-get [] index a is = absurd (cc)
drop-get (b ∷ all) zero a is = ap (λ (x : _). x ∷ all) (cc)
drop-get (b ∷ all) (suc index) a is = drop-get all index a is

-- ---- what is read

-- the heads of bytes of which some are read
pub heads-read : {bytes : List ℕ} {items : List Item} {left : List ℕ} → ReadsTo bytes items left
    → heads_of bytes ≡ items_before items (heads_of left)
heads-read {bytes} {items} {left} reads =
    ap heads_of (sym (append-nil bytes)) ∙ reads.reads []
    ∙ ap (λ (l : List ℕ). items_before items (heads_of l)) (append-nil left)

-- the requests of more bytes begin with those of the first
pub items-more : (bytes more : List ℕ) → (heads_of (bytes ++ more)).items
    ≡ (heads_of bytes).items ++ drop (length (heads_of bytes).items) (heads_of (bytes ++ more)).items
items-more bytes more =
    let n : ℕ = length (heads_of bytes).items in
    let all : List Item = (heads_of (bytes ++ more)).items in
    sym (take-append-drop n all) ∙ ap (λ (l : List Item). l ++ drop n all) (items_first bytes more)

before-first : (item : Item) (rest : List ℕ) (heads : Heads)
    → slice_get (item_before item rest heads).items 0 ≡ Some item
before-first (request r target) rest heads = refl
before-first bad_head rest heads = refl
before-first head_too_long rest heads = refl

first-by : (left : List ℕ) (cut : Cut) → cut_of left ≡ cut → slice_get (heads_of left).items 0 ≡ item_at cut left
first-by left none_yet is = ap (λ (h : Heads). slice_get h.items 0) (heads_of-cut left none_yet is)
first-by left (whole n) is =
    ap (λ (h : Heads). slice_get h.items 0) (heads_of-cut left (whole n) is)
    ∙ before-first (item_of (take n left)) (drop n left) (heads_of (drop n left))
first-by left too_long is = ap (λ (h : Heads). slice_get h.items 0) (heads_of-cut left too_long is)

-- the first request of some bytes
pub first-there : (left : List ℕ) → slice_get (heads_of left).items 0 ≡ first_item left
unfolding first_item
first-there left = first-by left (cut_of left) refl

-- the request after the ones that are read
pub next-there : {bytes : List ℕ} {items : List Item} {left : List ℕ} → ReadsTo bytes items left
    → slice_get (heads_of bytes).items (length items) ≡ first_item left
next-there {bytes} {items} {left} reads =
    ap (λ (h : Heads). slice_get h.items (length items)) (heads-read reads)
    ∙ get-after items (heads_of left).items ∙ first-there left

-- it stays when more bytes follow
pub first-stays : (left more : List ℕ) (item : Item) → first_item left ≡ Some item
    → first_item (left ++ more) ≡ Some item
first-stays left more item is =
    let n : ℕ = length (heads_of left).items in
    let there : slice_get (heads_of left).items 0 ≡ Some item = first-there left ∙ is in
    sym (first-there (left ++ more))
    ∙ get-take n (heads_of (left ++ more)).items 0 item
    (ap (λ (l : List Item). slice_get l 0) (items_first left more) ∙ there)

-- ---- where no request is whole

none-cut : (left : List ℕ) (cut : Cut) → item_at cut left ≡ None → cut ≡ none_yet
none-cut left none_yet is = refl
none-cut left (whole n) is = absurd (cc)
none-cut left too_long is = absurd (cc)

pub cut-none : (left : List ℕ) → first_item left ≡ None → cut_of left ≡ none_yet
unfolding first_item
cut-none left is = none-cut left (cut_of left) is

-- there is room for more
pub room-none : (left : List ℕ) → first_item left ≡ None → length left < MAX_HEAD
room-none left is = cut_none_yet left (cut-none left is)

-- these bytes are what is left
pub rest-none : {bytes : List ℕ} {items : List Item} {left : List ℕ} → ReadsTo bytes items left
    → first_item left ≡ None → (heads_of bytes).rest ≡ left
rest-none {bytes} {items} {left} reads is =
    ap (λ (h : Heads). h.rest) (heads-read reads)
    ∙ ap (λ (h : Heads). h.rest) (heads_of-cut left none_yet (cut-none left is))

-- ---- after a request

passes-item : (item given : Item) (k n : ℕ) (left text : List ℕ) (done : List Item) → ReadsTo text done left
    → cut_of left ≡ whole n → item_of (take n left) ≡ item → item ≡ given → is_last given k ≡ false
    → ReadsTo text (done ++ given ∷ []) (drop n left)
unfolding is_last
passes-item (request r target) given k n left text done reads is item_is same goes =
    subst (λ (i : Item). ReadsTo text (done ++ i ∷ []) (drop n left)) same (ReadsTo-item n r target reads is item_is)
passes-item bad_head given k n left text done reads is item_is same goes =
    let clash : true ≡ false = ap (λ (i : Item). is_last i k) same ∙ goes in absurd (cc)
passes-item head_too_long given k n left text done reads is item_is same goes =
    let clash : true ≡ false = ap (λ (i : Item). is_last i k) same ∙ goes in absurd (cc)

passes-by : (left text : List ℕ) (done : List Item) (item : Item) (k : ℕ) (cut : Cut) → ReadsTo text done left
    → cut_of left ≡ cut → item_at cut left ≡ Some item → is_last item k ≡ false
    → ReadsTo text (done ++ item ∷ []) (held_by cut left).rest
unfolding is_last
passes-by left text done item k none_yet reads is first goes = absurd (cc)
passes-by left text done item k (whole n) reads is first goes =
    let same : item_of (take n left) ≡ item = cc in
    passes-item (item_of (take n left)) item k n left text done reads is refl same goes
passes-by left text done item k too_long reads is first goes =
    let same : head_too_long ≡ item = cc in
    let clash : true ≡ false = ap (λ (i : Item). is_last i k) same ∙ goes in absurd (cc)

-- a request whose reply isn't a connection's last is read, and the bytes behind it are left
pub passes : {text left : List ℕ} {done : List Item} (item : Item) (k : ℕ) → ReadsTo text done left
    → first_item left ≡ Some item → is_last item k ≡ false
    → ReadsTo text (done ++ item ∷ []) (held_after left).rest
unfolding first_item
passes {text} {left} {done} item k reads first goes =
    subst (λ (h : Held). ReadsTo text (done ++ item ∷ []) h.rest) (sym (held_after-cut left (cut_of left) refl))
    (passes-by left text done item k (cut_of left) reads refl first goes)

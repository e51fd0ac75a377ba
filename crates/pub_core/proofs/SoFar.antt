-- The replies that were begun, where a session is fed more, more is published, or one more is begun.
use Rattle.std.proofs.Common.{◌≡◌, ◌≤◌, ◌<◌, zero, suc, ℕ, ◌+◌, false, List, [], ◌∷◌, ◌++◌, length, take, drop, Option, Some, None, refl, ap, ◌∙◌, append-nil, arith}
use Rattle.std.specs.List.{All}
use Rattle.fm_base.proofs.ListLemmas.{slice_get-append}
use Rattle.fm_model.specs.declared.loaded.Loaded.{Loaded}
use Rattle.fm_model.specs.declared.op.Op.{Op}
use Rattle.fm_model.specs.declared.proto.Proto.{Proto}
use Rattle.fm_model.specs.Collection.{coll}
use Rattle.web_frame.specs.Items.{heads_of, Item}
use Rattle.dap_reply.specs.Reply.{is_last, reply_of, reply_text}
use Rattle.dap_reply.specs.Head.{head_text, status_line}
use Rattle.dap_reply.specs.Script.{script_of}
use Rattle.dap_reply.proofs.ScriptLemmas.{script-append, script-later}
use Rattle.pub_core.specs.World.{items_fed, next_item, script_in, SessionState}
use Rattle.pub_core.specs.Happening.{is_last_before}
use Rattle.pub_core.proofs.ItemLemmas.{drop-get, items-more}

-- items without a revision make no difference
script-front : (proto : Proto) (ops : List Op) (revs : List ℕ) (items more : List Item) (before : ℕ)
    → length revs ≤ length items
    → script_of proto ops revs (items ++ more) before ≡ script_of proto ops revs items before
unfolding script_of
script-front proto ops [] items more before few = refl
script-front proto ops (n ∷ revs) [] more before few = absurd (omega arith)
script-front proto ops (n ∷ revs) (item ∷ items) more before few =
    ap (λ (l : List ℕ). reply_of proto (coll (take n ops)) n item (before + 1) ++ l)
    (script-front proto ops revs items more (before + 1) (omega arith))

-- a session that is fed more
abbrev pub fed_more : SessionState → List ℕ → SessionState
fed_more s piece = record s { fed = s.fed ++ piece }

pub script-fed : (proto : Proto) (log : List Op) (s : SessionState) (piece : List ℕ)
    → length s.revs ≤ length (items_fed s) → script_in proto log (fed_more s piece) ≡ script_in proto log s
unfolding script_in
script-fed proto log s piece few =
    ap (λ (l : List Item). script_of proto log s.revs l 0) (items-more s.fed piece)
    ∙ script-front proto log s.revs (items_fed s)
    (drop (length (items_fed s)) (heads_of (s.fed ++ piece)).items) 0 few

last-front : (items more : List Item) (index : ℕ) → index ≤ length items
    → is_last_before (items ++ more) index ≡ is_last_before items index
last-front items more zero few = refl
last-front items more (suc index) few =
    ap (λ (o : Option Item). elim o [ None ↦ false | Some item ↦ is_last item (suc index) ])
    (slice_get-append items more index few)

pub last-fed : (s : SessionState) (piece : List ℕ) → length s.revs ≤ length (items_fed s)
    → is_last_before (items_fed (fed_more s piece)) (length s.revs) ≡ is_last_before (items_fed s) (length s.revs)
last-fed s piece few =
    ap (λ (l : List Item). is_last_before l (length s.revs)) (items-more s.fed piece)
    ∙ last-front (items_fed s) (drop (length (items_fed s)) (heads_of (s.fed ++ piece)).items) (length s.revs) few

-- operations that are published later change nothing
pub script-published : (proto : Proto) (log more : List Op) (s : SessionState)
    → All (λ (revision : ℕ). revision ≤ length log) s.revs
    → script_in proto (log ++ more) s ≡ script_in proto log s
unfolding script_in
script-published proto log more s within = script-later proto log more s.revs (items_fed s) 0 within

-- a reply has a byte
pub some-reply : (proto : Proto) (files : List Loaded) (revision : ℕ) (item : Item) (number : ℕ)
    → 0 < length (reply_of proto files revision item number)
unfolding reply_of reply_text head_text status_line
some-reply proto files revision item number = omega arith

-- a session with one more reply
abbrev pub with_reply : SessionState → ℕ → ℕ → SessionState
with_reply s revision seen = record s { revs = s.revs ++ revision ∷ []; seen = seen }

script-one : (proto : Proto) (log : List Op) (revision : ℕ) (item : Item) (items : List Item) (before : ℕ)
    → script_of proto log (revision ∷ []) (item ∷ items) before
    ≡ reply_of proto (coll (take revision log)) revision item (before + 1)
unfolding script_of
script-one proto log revision item items before =
    append-nil (reply_of proto (coll (take revision log)) revision item (before + 1))

pub script-begun : (proto : Proto) (log : List Op) (s : SessionState) (revision seen : ℕ) (item : Item)
    → next_item s ≡ Some item
    → script_in proto log (with_reply s revision seen)
    ≡ script_in proto log s ++ reply_of proto (coll (take revision log)) revision item (length s.revs + 1)
unfolding script_in next_item
script-begun proto log s revision seen item is =
    let same : 0 + length s.revs ≡ length s.revs = omega arith in
    script-append proto log s.revs (revision ∷ []) (items_fed s) 0
    ∙ ap (λ (n : ℕ). script_in proto log s
    ++ script_of proto log (revision ∷ []) (drop (length s.revs) (items_fed s)) n)
    same
    ∙ ap (λ (l : List Item). script_in proto log s ++ script_of proto log (revision ∷ []) l (length s.revs))
    (drop-get (items_fed s) (length s.revs) item is)
    ∙ ap (λ (l : List ℕ). script_in proto log s ++ l)
    (script-one proto log revision item (drop (suc (length s.revs)) (items_fed s)) (length s.revs))

-- The replies of a served link, one after the other.
use Rattle.std.proofs.Common.{◌≡◌, ◌≤◌, ℕ, suc, ◌+◌, List, [], ◌∷◌, ◌++◌, length, take, Bool, true, false, cond, refl, sym, ap, ap₂, ◌∙◌, append_assoc, append-nil, arith}
use Rattle.std.specs.Prelude.{is_ok, if◌then◌else◌}
use Rattle.std.proofs.lemmas.List.{take-append-le}
use Rattle.fm_model.specs.declared.op.Op.{Op}
use Rattle.fm_model.specs.declared.proto.Proto.{Proto}
use Rattle.fm_model.specs.Collection.{coll}
use Rattle.pub_look.specs.History.{Continues}
use Rattle.web_frame.specs.Items.{Item}
use Rattle.dap_reply.specs.declared.served.Mark.{Mark}
use Rattle.dap_reply.specs.Collections.{proto_for, Collections}
use Rattle.dap_reply.specs.Reply.{target_wanted, reply_of}
use Rattle.dap_reply.specs.Served.{wanted_revisions, RepeatsUnwanted, Rises}
use Rattle.dap_reply.specs.ServedMany.{reply_for, sent_for}
use Rattle.srv_conn.specs.SoFar.{last_revision, Each}

pub last-append : (before : ℕ) (marks : List Mark) (mark : Mark)
    → last_revision before (marks ++ mark ∷ []) ≡ mark.revision
last-append before [] mark = refl
last-append before (m ∷ marks) mark = last-append m.revision marks mark

-- ---- the bytes of the replies

pub sent-append : (them : Collections) (seen : ℕ → List Op) (marks more : List Mark) (items others : List Item)
    (before : ℕ) → length marks ≡ length items
    → sent_for them seen (marks ++ more) (items ++ others) before
    ≡ sent_for them seen marks items before ++ sent_for them seen more others (before + length marks)
unfolding sent_for
sent-append them seen [] more [] others before same =
    let start : before ≡ before + 0 = omega arith in
    ap (sent_for them seen more others) start
sent-append them seen [] more (i ∷ items) others before same = absurd (omega arith)
sent-append them seen (m ∷ marks) more [] others before same = absurd (omega arith)
sent-append them seen (m ∷ marks) more (i ∷ items) others before same =
    let first : List ℕ = take m.sent (reply_for them seen m i (before + 1)) in
    let number : before + 1 + length marks ≡ before + suc (length marks) = omega arith in
    ap (λ (l : List ℕ). first ++ l) (sent-append them seen marks more items others (before + 1) (omega arith))
    ∙ ap (λ (n : ℕ). first ++ (sent_for them seen marks items (before + 1) ++ sent_for them seen more others n)) number
    ∙ sym (append_assoc first (sent_for them seen marks items (before + 1)) _)

pub sent-none : (them : Collections) (seen : ℕ → List Op) (items : List Item) (before : ℕ)
    → sent_for them seen [] items before ≡ []
unfolding sent_for
sent-none them seen items before = refl

pub sent-one : (them : Collections) (seen : ℕ → List Op) (mark : Mark) (item : Item) (items : List Item) (before : ℕ)
    → sent_for them seen (mark ∷ []) (item ∷ items) before ≡ take mark.sent (reply_for them seen mark item (before + 1))
unfolding sent_for
sent-one them seen mark item items before = append-nil (take mark.sent (reply_for them seen mark item (before + 1)))

-- items without a mark make no difference
pub sent-front : (them : Collections) (seen : ℕ → List Op) (marks : List Mark) (items others : List Item) (before : ℕ)
    → length marks ≡ length items
    → sent_for them seen marks (items ++ others) before ≡ sent_for them seen marks items before
unfolding sent_for
sent-front them seen [] items others before same = refl
sent-front them seen (m ∷ marks) [] others before same = absurd (omega arith)
sent-front them seen (m ∷ marks) (i ∷ items) others before same =
    ap (λ (l : List ℕ). take m.sent (reply_for them seen m i (before + 1)) ++ l)
    (sent-front them seen marks items others (before + 1) (omega arith))

-- later operations change no reply over those before them
pub reply-later : (them : Collections) (seen later : ℕ → List Op) (mark : Mark) (item : Item) (number : ℕ)
    → ((n : ℕ) → Continues (seen n) (later n)) → mark.revision ≤ length (seen (them.choice item))
    → reply_for them later mark item number ≡ reply_for them seen mark item number
reply-later them seen later mark item number grows within =
    let more : Continues (seen (them.choice item)) (later (them.choice item)) = grows (them.choice item) in
    ap (λ (l : List Op). reply_of (proto_for them item) (coll l) mark.revision item number)
    (ap (take mark.revision) more.1 ∙ take-append-le mark.revision (seen (them.choice item)) more.0 within)

pub sent-later : (them : Collections) (seen later : ℕ → List Op) (marks : List Mark) (items : List Item) (before : ℕ)
    → ((n : ℕ) → Continues (seen n) (later n))
    → Each (λ _ mark item. mark.revision ≤ length (seen (them.choice item))) marks items (before + 1)
    → sent_for them later marks items before ≡ sent_for them seen marks items before
unfolding sent_for
sent-later them seen later [] items before grows within = refl
sent-later them seen later (m ∷ marks) [] before grows within = refl
sent-later them seen later (m ∷ marks) (i ∷ items) before grows within =
    ap₂ (λ (l r : List ℕ). take m.sent l ++ r) (reply-later them seen later m i (before + 1) grows within.0)
    (sent-later them seen later marks items (before + 1) grows within.1)

-- ---- the looks

wanted-test : (wanted : Bool) (revision : ℕ) (front back : List ℕ)
    → cond wanted (revision ∷ (front ++ back)) (front ++ back) ≡ cond wanted (revision ∷ front) front ++ back
wanted-test true revision front back = refl
wanted-test false revision front back = refl

pub wanted-append : (proto : Proto) (marks more : List Mark) (items others : List Item) → length marks ≡ length items
    → wanted_revisions proto (marks ++ more) (items ++ others)
    ≡ wanted_revisions proto marks items ++ wanted_revisions proto more others
unfolding wanted_revisions
wanted-append proto [] more [] others same = refl
wanted-append proto [] more (i ∷ items) others same = absurd (omega arith)
wanted-append proto (m ∷ marks) more [] others same = absurd (omega arith)
wanted-append proto (m ∷ marks) more (i ∷ items) others same =
    let wanted : Bool = is_ok (target_wanted proto.site i) in
    ap (λ (l : List ℕ). cond wanted (m.revision ∷ l) l) (wanted-append proto marks more items others (omega arith))
    ∙ wanted-test wanted m.revision (wanted_revisions proto marks items) (wanted_revisions proto more others)

pub wanted-none : (proto : Proto) (items : List Item) → wanted_revisions proto [] items ≡ []
unfolding wanted_revisions
wanted-none proto items = refl

pub wanted-one : (proto : Proto) (mark : Mark) (item : Item) (items : List Item)
    → wanted_revisions proto (mark ∷ []) (item ∷ items)
    ≡ (if is_ok (target_wanted proto.site item) then mark.revision ∷ [] else [])
unfolding wanted_revisions
wanted-one proto mark item items = refl

pub wanted-front : (proto : Proto) (marks : List Mark) (items others : List Item) → length marks ≡ length items
    → wanted_revisions proto marks (items ++ others) ≡ wanted_revisions proto marks items
unfolding wanted_revisions
wanted-front proto [] items others same = refl
wanted-front proto (m ∷ marks) [] others same = absurd (omega arith)
wanted-front proto (m ∷ marks) (i ∷ items) others same =
    ap (λ (l : List ℕ). cond (is_ok (target_wanted proto.site i)) (m.revision ∷ l) l)
    (wanted-front proto marks items others (omega arith))

pub repeats-append : (proto : Proto) (before : ℕ) (marks more : List Mark) (items others : List Item)
    → length marks ≡ length items
    → RepeatsUnwanted proto before marks items → RepeatsUnwanted proto (last_revision before marks) more others
    → RepeatsUnwanted proto before (marks ++ more) (items ++ others)
unfolding RepeatsUnwanted
repeats-append proto before [] more [] others same first rest = rest
repeats-append proto before [] more (i ∷ items) others same first rest = absurd (omega arith)
repeats-append proto before (m ∷ marks) more [] others same first rest = absurd (omega arith)
repeats-append proto before (m ∷ marks) more (i ∷ items) others same first rest =
    (first.0, repeats-append proto m.revision marks more items others (omega arith) first.1 rest)

pub repeats-front : (proto : Proto) (before : ℕ) (marks : List Mark) (items others : List Item)
    → length marks ≡ length items → RepeatsUnwanted proto before marks items
    → RepeatsUnwanted proto before marks (items ++ others)
unfolding RepeatsUnwanted
repeats-front proto before [] items others same repeats = tt
repeats-front proto before (m ∷ marks) [] others same repeats = absurd (omega arith)
repeats-front proto before (m ∷ marks) (i ∷ items) others same repeats =
    (repeats.0, repeats-front proto m.revision marks items others (omega arith) repeats.1)

pub repeats-none : (proto : Proto) (before : ℕ) (items : List Item) → RepeatsUnwanted proto before [] items
unfolding RepeatsUnwanted
repeats-none proto before items = tt

pub repeats-one : (proto : Proto) (before : ℕ) (mark : Mark) (item : Item) (items : List Item)
    → (is_ok (target_wanted proto.site item) ≡ false → mark.revision ≡ before)
    → RepeatsUnwanted proto before (mark ∷ []) (item ∷ items)
unfolding RepeatsUnwanted
repeats-one proto before mark item items same = (same, tt)

-- ---- the revisions

rises-lower : (from mid to : ℕ) (marks : List Mark) → from ≤ mid → Rises mid marks to → Rises from marks to
unfolding Rises
rises-lower from mid to [] below rises = omega arith
rises-lower from mid to (m ∷ marks) below rises = (omega (arith, rises.0), rises.1)

pub rises-append : (from mid to : ℕ) (marks more : List Mark) → Rises from marks mid → Rises mid more to
    → Rises from (marks ++ more) to
unfolding Rises
rises-append from mid to [] more first rest = rises-lower from mid to more first rest
rises-append from mid to (m ∷ marks) more first rest =
    (first.0, rises-append m.revision mid to marks more first.1 rest)

pub rises-none : (from to : ℕ) → from ≤ to → Rises from [] to
unfolding Rises
rises-none from to below = below

pub rises-one : (from to : ℕ) (mark : Mark) → from ≤ mark.revision → mark.revision ≤ to → Rises from (mark ∷ []) to
unfolding Rises
rises-one from to mark above below = (above, below)

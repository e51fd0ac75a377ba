-- A reply over a link that blocks, from the question to its end.
use Rattle.std.proofs.Common.{◌≡◌, ◌⊎◌, inl, inr, ⊎_elim, ℕ, ◌+◌, Bool, List, [], ◌∷◌, ◌++◌, length, Option, Result, Ok, Err, refl, sym, ap, ap₂, subst, ◌∙◌, append-nil, arith, length-append}
use Rattle.std.specs.Prelude.{IfOk, OnErr}
use Rattle.fm_model.specs.declared.op.Op.{Op}
use Rattle.fm_model.specs.declared.proto.Proto.{Proto}
use Rattle.dev_traits.specs.Shown.{LinkShown}
use Rattle.web_frame.specs.Items.{Item}
use Rattle.web_session.specs.declared.action.Asked.{Asked}
use Rattle.web_session.specs.declared.action.End.{End}
use Rattle.web_session.specs.declared.phase.Phase.TheVariants.{Asking}
use Rattle.web_session.specs.Run.{item_asked}
use Rattle.web_session.specs.State.{State}
use Rattle.dap_reply.specs.declared.served.Mark.{Mark}
use Rattle.dap_reply.specs.Collections.{Collections, Views}
use Rattle.dap_reply.specs.Reply.{is_wanted}
use Rattle.srv_action.specs.declared.doing.Doing.{Doing}
use Rattle.srv_action.specs.declared.doing.Doing.TheVariants as does
use Rattle.srv_action.specs.Acts.{IsLeaving, IsReading, IsReady}
use Rattle.srv_conn.specs.Marks.{IsOneMore}
use Rattle.srv_conn.specs.Begins.{Begins, IsReplyTo, IsShortOf}
use Rattle.srv_conn.specs.Follows.{Follows}
use Rattle.srv_conn.specs.ServesMany.{point_of, Point}
use Rattle.srv_conn.specs.Sight.{sight_in, OthersStay, Sight}
use Rattle.srv_conn.specs.SoFar.{Asks, SoFar}
use Rattle.srv_conn.proofs.BeginLemmas.{begins-parting, begins-sending, seen-same, sight_after}

-- what is being done, and the session, once a reply was begun
pub reply-ready : {proto : Proto} {item : Item} {asked : Asked} {last revision : ℕ} {session session' : State}
    {doing' : Doing} {sight sight' : Sight} → session.phase ≡ Asking asked
    → IsReplyTo proto item last session session' doing' sight sight' revision → IsReady doing' session'
reply-ready {asked = asked} {session' = session'} asking r =
    subst (λ (d : Doing). IsReady d session') (sym r.doing_is)
    ((asked, ap (λ (s : State). s.phase) r.session_is ∙ asking), omega arith)

-- and where memory ran out
pub short-ready : {session session' : State} {doing' : Doing} {sight sight' : Sight}
    → IsShortOf session session' doing' sight sight' → IsReady doing' session'
short-ready {session' = session'} r = subst (λ (d : Doing). IsReady d session') (sym r.doing_is) (omega arith)

pub begun-ready : {E : Type 0} {proto : Proto} {still : Bool} {asked : Asked} {last : ℕ} {session session' : State}
    {doing' : Doing} {sight sight' : Sight} (result : Result ℕ E) → session.phase ≡ Asking asked
    → Begins proto still asked last session session' doing' sight sight' result → IsReady doing' session'
begun-ready (Ok revision) asking b = reply-ready asking b.begun
begun-ready (Err e) asking b = short-ready b.leaves

pub begun-sends : {E : Type 0} {proto : Proto} {still : Bool} {asked : Asked} {last : ℕ} {session session' : State}
    {doing' : Doing} {sight sight' : Sight} (result : Result ℕ E)
    → Begins proto still asked last session session' doing' sight sight' result → IsReading doing' → ⊥
begun-sends (Ok revision) b reads = subst IsReading b.begun.doing_is reads
begun-sends (Err e) b reads = subst IsReading b.leaves.doing_is reads

-- a link that goes on after a reply has its mark
pub begun-longer : {E : Type 0} {proto : Proto} {still : Bool} {asked : Asked} {last : ℕ} {session session' : State}
    {doing' : Doing} {sight sight' : Sight} (result : Result ℕ E) (trail trail_mid trail' : List Mark)
    → Begins proto still asked last session session' doing' sight sight' result
    → IfOk result (λ revision. trail_mid ≡ trail ++ record { revision = revision; sent = 0 } ∷ [])
    → (IsLeaving doing' → ⊥) → ((front : List Mark) → IsOneMore front trail_mid → IsOneMore front trail')
    → length trail' ≡ length trail + 1
begun-longer (Ok revision) trail trail_mid trail' b marked leaves one =
    let more : IsOneMore trail trail' = one trail (record { revision = revision; sent = 0 }, marked) in
    ap length more.1 ∙ length-append trail (more.0 ∷ [])
begun-longer (Err e) trail trail_mid trail' b marked leaves one =
    absurd (leaves (subst IsLeaving (sym b.leaves.doing_is) tt))

-- the end of a link that a reply leads to
pub reply-follows : {E : Type 0} {them : Collections} {number : ℕ} {asked : Asked} {last : ℕ}
    {link : LinkShown} {session mid : State} {doing : Doing} {views views' : Views} {trail : List Mark}
    (link' : LinkShown) (after : State) (trail_mid trail' : List Mark) (end : Option End) (result : Result ℕ E)
    (start : Point) (most : ℕ) → Asks them start (point_of link views session trail) most asked
    → number ≡ them.choice (item_asked asked session.held) → last ≡ length (views.seen number)
    → Begins (them.proto number) (them.still number) asked last session mid doing (sight_in views number)
    (sight_in views' number) result
    → OthersStay number views views'
    → IfOk result (λ revision. trail_mid ≡ trail ++ record { revision = revision; sent = 0 } ∷ [])
    → OnErr result (trail_mid ≡ trail)
    → ((now : Views) (n : ℕ) → SoFar them start (point_of link now mid trail_mid) n doing
    → Follows them start n (point_of link' now after trail') end)
    → Follows them start most (point_of link' views' after trail') end
reply-follows {them = them} {number = number} {asked = asked} {last = last} {link = link} {session = session}
    {mid = mid} {doing = doing} {views = views} {views' = views'} {trail = trail} link' after trail_mid trail' end
    (Ok revision) start most asks choice last_is b others marked unmarked follows =
    let r = b.begun in
    let wanted : Bool = is_wanted (them.proto number).site (item_asked asked session.held) in
    let at : sight_in views' number ≡ sight_after wanted (sight_in views number) (views'.seen number) =
    ap₂ (λ (ops : List Op) (looks : List ℕ). record { seen = ops; looks = looks })
    (sym (seen-same (views.seen number) (views'.seen number) wanted r.unwanted)) r.looks_are in
    follows views' most
    (subst (SoFar them start (point_of link views' mid trail_mid) most) (sym r.doing_is)
    (subst (λ (marks : List Mark). SoFar them start (point_of link views' mid marks) most
    (does.Replying r.plan 0)) (sym marked)
    (subst (λ (s : State). SoFar them start (point_of link views' s
    (trail ++ record { revision = revision; sent = 0 } ∷ [])) most (does.Replying r.plan 0)) (sym r.session_is)
    (begins-sending (point_of link views session trail) asked mid doing number (sight_in views number)
    (sight_in views' number) last revision views' asks choice b.sees last_is others at r))))
reply-follows {them = them} {number = number} {asked = asked} {link = link} {session = session} {mid = mid}
    {doing = doing} {views = views} {views' = views'} {trail = trail} link' after trail_mid trail' end (Err e) start
    most
    asks choice last_is b others marked unmarked follows =
    ⊎_elim (λ none. parted [] (none ∙ sym (append-nil (views.looks number))) (inl refl))
    (λ one. parted (length (views'.seen number) ∷ []) one (inr refl)) b.leaves.looks_are
  where
    parted : (more : List ℕ) → views'.looks number ≡ views.looks number ++ more
        → (more ≡ []) ⊎ (more ≡ length (views'.seen number) ∷ [])
        → Follows them start most (point_of link' views' after trail') end
    parted more looks one =
        follows views' most
        (subst (SoFar them start (point_of link views' mid trail_mid) most) (sym b.leaves.doing_is)
        (subst (λ (marks : List Mark). SoFar them start (point_of link views' mid marks) most
        (does.Leaving 0)) (sym unmarked)
        (begins-parting (point_of link views session trail) asked mid doing number (sight_in views number)
        (sight_in views' number) more views' asks b.sees others
        (ap (λ (l : List ℕ). record { seen = views'.seen number; looks = l }) looks) b.leaves one)))

-- The marks, the replies and the revision of a link after one action more.
use Rattle.std.proofs.Common.{◌≡◌, ◌≢◌, ◌<◌, ⊎_elim, ℕ, ◌+◌, Bool, true, false, cond, List, [], ◌∷◌, ◌++◌, length, Some, None, refl, sym, ap, subst, ◌∙◌, arith}
use Rattle.std.specs.Prelude.{nat_eq}
use Rattle.std.proofs.lemmas.Bool.{cases_eq, eqb-false}
use Rattle.fm_model.specs.declared.op.Op.{Op}
use Rattle.web_session.specs.declared.action.Asked.{Asked}
use Rattle.web_session.specs.declared.action.Asked.TheVariants as says
use Rattle.web_session.specs.declared.action.End.TheVariants as ends
use Rattle.web_session.specs.State.{end_after, replied, State}
use Rattle.dap_reply.specs.declared.served.Mark.{Mark}
use Rattle.dap_reply.specs.Collections.{Collections, Views}
use Rattle.dap_reply.specs.Parts.{Parts as Plan}
use Rattle.srv_action.specs.declared.acting.Acted.{Acted}
use Rattle.srv_action.specs.declared.acting.Acted.TheVariants as acts
use Rattle.srv_action.specs.declared.doing.Doing.{Doing}
use Rattle.srv_action.specs.declared.doing.Doing.TheVariants as does
use Rattle.srv_conn.specs.declared.revisions.Revisions.{Revisions}
use Rattle.srv_action.specs.Acts.{doing_after, ActsIn, IsOngoing, IsReading, IsReady, Stand}
use Rattle.srv_conn.specs.Marks.{Notes}
use Rattle.srv_conn.specs.Out.{AreRevisions, KnowsRevisions, MOST_REPLIES}
use Rattle.srv_conn.specs.Revisions.{revision_at}
use Rattle.srv_conn.specs.Sight.{OthersStay}
use Rattle.srv_conn.proofs.GoingOn.{leads-on}

-- ---- the marks

-- the marks, with the number of bytes sent of the reply that was begun last
abbrev noted : ℕ → List Mark → List Mark
noted sent [] = []
noted sent (mark ∷ []) = record mark { sent = sent } ∷ []
noted sent (mark ∷ next ∷ more) = mark ∷ noted sent (next ∷ more)

noted-last : (sent : ℕ) (front : List Mark) (mark : Mark)
    → noted sent (front ++ mark ∷ []) ≡ front ++ record mark { sent = sent } ∷ []
noted-last sent [] mark = refl
noted-last sent (first ∷ []) mark = refl
noted-last sent (first ∷ next ∷ front) mark =
    ap (λ (l : List Mark). first ∷ l) (noted-last sent (next ∷ front) mark)

-- the marks after an action
abbrev pub trail_after : Acted → List Mark → List Mark
trail_after acts.Moved trail = trail
trail_after (acts.Asks asked) trail = trail
trail_after (acts.Sent count total) trail = noted total trail
trail_after acts.Finished trail = trail
trail_after acts.Later trail = trail
trail_after (acts.Ended end) trail = trail

pub notes-so : (acted : Acted) (trail : List Mark) → Notes acted trail (trail_after acted trail)
notes-so acts.Moved trail = refl
notes-so (acts.Asks asked) trail = refl
notes-so (acts.Sent count total) trail = λ front mark is. ap (noted total) is ∙ noted-last total front mark
notes-so acts.Finished trail = refl
notes-so acts.Later trail = refl
notes-so (acts.Ended end) trail = refl

-- ---- the number of replies

-- a reply after which a connection goes on isn't the last of all
not-limit : (asked : Asked) (before : ℕ) → None ≡ end_after asked before → nat_eq (before + 1) MOST_REPLIES ≡ false
not-limit says.BadHead before is = absurd (cc)
not-limit says.HeadTooLong before is = absurd (cc)
not-limit (says.Head r) before is = by_tests r.close r.has_body (nat_eq (before + 1) MOST_REPLIES) is
  where
    by_tests : (close body limit : Bool) → None ≡ cond close (Some ends.Asked) (cond body (Some ends.BodyNotTaken)
        (cond limit (Some ends.RequestLimit) None)) → limit ≡ false
    by_tests true body limit same = absurd (cc)
    by_tests false true limit same = absurd (cc)
    by_tests false false true same = absurd (cc)
    by_tests false false false same = refl

few-replied : (s : State) (asked : Asked) → s.before < MOST_REPLIES → None ≡ end_after asked s.before
    → (replied s asked).before < MOST_REPLIES
few-replied s asked few none =
    let differs = eqb-false (s.before + 1) MOST_REPLIES (not-limit asked s.before none) in
    let next : (replied s asked).before ≡ s.before + 1 = ap (λ (x : State). x.before) (leads-on s asked (sym none)) in
    omega (arith, few, differs, next)

pub few-in : (doing : Doing) (before after : Stand) (acted : Acted) → IsReady doing before.session
    → ActsIn doing before after acted (λ plan sent. doing_after plan sent acted) → IsOngoing acted
    → before.session.before < MOST_REPLIES → after.session.before < MOST_REPLIES
few-in does.Reading before after acts.Moved ready a goes few =
    subst (λ (n : ℕ). n < MOST_REPLIES) (sym (ap (λ (x : State). x.before) a.1.takes.session_is)) few
few-in does.Reading before after (acts.Asks asked) ready a goes few =
    subst (λ (s : State). s.before < MOST_REPLIES) (sym a.1.1) few
few-in does.Reading before after (acts.Sent count total) ready a goes few = absurd a.1
few-in does.Reading before after acts.Finished ready a goes few = absurd a.1
few-in does.Reading before after acts.Later ready a goes few =
    subst (λ (s : State). s.before < MOST_REPLIES) (sym a.1.1) few
few-in does.Reading before after (acts.Ended end) ready a goes few = absurd goes
few-in (does.Replying plan sent) before after acts.Moved ready a goes few = absurd a.sends
few-in (does.Replying plan sent) before after (acts.Asks asked) ready a goes few = absurd a.sends
few-in (does.Replying plan sent) before after (acts.Sent count total) ready a goes few =
    subst (λ (s : State). s.before < MOST_REPLIES) (sym a.sends.session_is) few
few-in (does.Replying plan sent) before after acts.Finished ready a goes few =
    let told = a.sends.1.told ready.0.0 ready.0.1 in
    subst (λ (s : State). s.before < MOST_REPLIES) (sym told.0)
    (few-replied before.session ready.0.0 few told.1)
few-in (does.Replying plan sent) before after acts.Later ready a goes few =
    subst (λ (s : State). s.before < MOST_REPLIES) (sym a.sends.1) few
few-in (does.Replying plan sent) before after (acts.Ended end) ready a goes few = absurd goes
few-in (does.Leaving said) before after acted ready a goes few =
    subst (λ (s : State). s.before < MOST_REPLIES) (sym a.session_is) few

-- ---- the revisions

knows-after : (them : Collections) (plan : Plan) (sent : ℕ) (acted : Acted) (revisions : Revisions) (seen : ℕ → List Op)
    → AreRevisions them revisions seen → KnowsRevisions them (doing_after plan sent acted) revisions seen
knows-after them plan sent acts.Moved revisions seen are = are
knows-after them plan sent (acts.Asks asked) revisions seen are = are
knows-after them plan sent (acts.Sent n total) revisions seen are = are
knows-after them plan sent acts.Finished revisions seen are = are
knows-after them plan sent acts.Later revisions seen are = are
knows-after them plan sent (acts.Ended end) revisions seen are = are

pub knows-in : (them : Collections) (doing : Doing) (before after : Stand) (acted : Acted) (revisions : Revisions)
    (seen : ℕ → List Op) → ActsIn doing before after acted (λ plan sent. doing_after plan sent acted)
    → KnowsRevisions them doing revisions seen → KnowsRevisions them after.doing revisions seen
knows-in them does.Reading before after acted revisions seen a are =
    subst (λ (d : Doing). KnowsRevisions them d revisions seen) (sym a.0) are
knows-in them (does.Replying plan sent) before after acted revisions seen a are =
    subst (λ (d : Doing). KnowsRevisions them d revisions seen) (sym a.doing_is)
    (knows-after them plan a.sent' acted revisions seen are)
knows-in them (does.Leaving said) before after acted revisions seen a are =
    subst (λ (d : Doing). KnowsRevisions them d revisions seen) (sym a.doing_is) tt

-- what a connection that reads knows
pub knows-reading : (them : Collections) (doing : Doing) (revisions : Revisions) (seen : ℕ → List Op) → IsReading doing
    → KnowsRevisions them doing revisions seen → AreRevisions them revisions seen
knows-reading them does.Reading revisions seen reads are = are
knows-reading them (does.Replying plan sent) revisions seen reads are = absurd reads
knows-reading them (does.Leaving said) revisions seen reads are = absurd reads

-- the revisions with that of one collection more
pub revisions-with : (them : Collections) (number : ℕ) (revisions revisions' : Revisions) (views views' : Views)
    → AreRevisions them revisions views.seen → OthersStay number views views'
    → revision_at revisions' number ≡ length (views'.seen number)
    → ((other : ℕ) → other ≢ number → revision_at revisions' other ≡ revision_at revisions other)
    → AreRevisions them revisions' views'.seen
revisions-with them number revisions revisions' views views' are others own same other below = ⊎_elim
    (λ is. subst (λ (n : ℕ). revision_at revisions' n ≡ length (views'.seen n)) (sym is) own)
    (λ differs. same other differs ∙ are other below ∙ ap length (sym (others.seen_are other differs)))
    (cases_eq other number)

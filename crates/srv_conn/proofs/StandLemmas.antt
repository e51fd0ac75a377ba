-- Where a connection stands after an action.
use Rattle.std.proofs.Common.{◌≡◌, ◌≢◌, ◌≤◌, ℕ, ◌+◌, Bool, List, length, refl, sym, ap, subst, ◌∙◌}
use Rattle.dev_traits.specs.Shown.{LinkShown}
use Rattle.web_session.specs.declared.action.Asked.{Asked}
use Rattle.web_session.specs.declared.action.End.{End}
use Rattle.web_session.specs.declared.phase.Phase.TheVariants.{Asking}
use Rattle.web_session.specs.State.{State}
use Rattle.dap_reply.specs.declared.served.Mark.{Mark}
use Rattle.dap_reply.specs.Collections.{Collections}
use Rattle.dap_reply.specs.Head.{no_memory_reply}
use Rattle.dap_reply.specs.Parts.{bytes_of, Parts as Plan}
use Rattle.dap_reply.specs.Served.{IsAtRest}
use Rattle.srv_action.specs.declared.acting.Acted.{Acted}
use Rattle.srv_action.specs.declared.acting.Acted.TheVariants as acts
use Rattle.srv_action.specs.declared.doing.Doing.{Doing}
use Rattle.srv_action.specs.declared.doing.Doing.TheVariants as does
use Rattle.srv_action.specs.Acts.{doing_after, ActsIn, IsAsking, IsLeaving, IsOngoing, IsReading, IsReady, Parts, Reads, Sends, Stand}
use Rattle.srv_conn.specs.Marks.{IsOneMore, Notes}
use Rattle.srv_conn.specs.ServesMany.{Point}
use Rattle.srv_conn.specs.SoFar.{SoFar}
use Rattle.srv_conn.proofs.GoingOn.{leads-on}
use Rattle.srv_action.proofs.SessionLemmas.{rests-at}
use Rattle.srv_conn.proofs.TakesLemmas.{takes-rests}

-- ---- whether an action may be done

-- of a link that was served so far the next action may be done
pub ready-so-far : (them : Collections) (start now : Point) (most : ℕ) (doing : Doing)
    → SoFar them start now most doing → IsReady doing now.session
ready-so-far them start now most does.Reading s = rests-at now.session _ _ s.0.session_is
ready-so-far them start now most (does.Replying plan sent) s =
    ((s.asked, ap (λ (x : State). x.phase) s.session_is ∙ s.asks.asking), s.within)
ready-so-far them start now most (does.Leaving said) s = s.within

-- an action after which the session hasn't ended
pub ongoing-other : (acted : Acted) → ((end : End) → acted ≢ acts.Ended end) → IsOngoing acted
ongoing-other acts.Moved differs = tt
ongoing-other (acts.Asks asked) differs = tt
ongoing-other (acts.Sent count total) differs = tt
ongoing-other acts.Finished differs = tt
ongoing-other acts.Later differs = tt
ongoing-other (acts.Ended end) differs = absurd (differs end refl)

-- an action by which differs reply goes on leaves the marks
pub notes-other : (acted : Acted) (trail : List Mark) → ((count total : ℕ) → acted ≢ acts.Sent count total)
    → Notes acted trail trail
notes-other acts.Moved trail differs = refl
notes-other (acts.Asks asked) trail differs = refl
notes-other (acts.Sent count total) trail differs = absurd (differs count total refl)
notes-other acts.Finished trail differs = refl
notes-other acts.Later trail differs = refl
notes-other (acts.Ended end) trail differs = refl

-- one mark follows on these still
pub notes-one : (front trail trail' : List Mark) (acted : Acted) → IsOneMore front trail → Notes acted trail trail'
    → IsOneMore front trail'
notes-one front trail trail' acts.Moved one notes = (one.0, notes ∙ one.1)
notes-one front trail trail' (acts.Asks asked) one notes = (one.0, notes ∙ one.1)
notes-one front trail trail' (acts.Sent count total) one notes =
    (record one.0 { sent = total }, notes front one.0 one.1)
notes-one front trail trail' acts.Finished one notes = (one.0, notes ∙ one.1)
notes-one front trail trail' acts.Later one notes = (one.0, notes ∙ one.1)
notes-one front trail trail' (acts.Ended end) one notes = (one.0, notes ∙ one.1)

-- a connection that leaves leaves still
pub still-leaves : (doing : Doing) (before after : Stand) (acted : Acted) → IsLeaving doing
    → ActsIn doing before after acted (λ plan sent. doing_after plan sent acted) → IsLeaving after.doing
still-leaves does.Reading before after acted leaves a = absurd leaves
still-leaves (does.Replying plan sent) before after acted leaves a = absurd leaves
still-leaves (does.Leaving said) before after acted leaves a = subst IsLeaving (sym a.doing_is) tt

-- and finishes differs reply
pub finished-stays : (doing : Doing) (before after : Stand)
    → ActsIn doing before after acts.Finished (λ plan sent. doing_after plan sent acts.Finished)
    → IsLeaving doing → ⊥
finished-stays does.Reading before after a leaves = leaves
finished-stays (does.Replying plan sent) before after a leaves = leaves
finished-stays (does.Leaving said) before after a leaves = a.parts

-- after a reply that is whole requests are read
pub finished-reads : (doing : Doing) (before after : Stand)
    → ActsIn doing before after acts.Finished (λ plan sent. doing_after plan sent acts.Finished)
    → after.doing ≡ does.Reading
finished-reads does.Reading before after a = a.0
finished-reads (does.Replying plan sent) before after a = a.doing_is
finished-reads (does.Leaving said) before after a = absurd a.parts

-- requests are read for a session that asks, and nothing is sent
pub asks-reads : (doing : Doing) (before after : Stand) (asked : Asked)
    → ActsIn doing before after (acts.Asks asked) (λ plan sent. doing_after plan sent (acts.Asks asked))
    → IsReading doing
asks-reads does.Reading before after asked a = tt
asks-reads (does.Replying plan sent) before after asked a = absurd a.sends
asks-reads (does.Leaving said) before after asked a = absurd a.parts

-- so there is differs question while something is sent
pub no-question : (doing : Doing) (before after : Stand) (acted : Acted) (asked : Asked) → (IsReading doing → ⊥)
    → ActsIn doing before after acted (λ plan sent. doing_after plan sent acted) → acted ≡ acts.Asks asked → ⊥
no-question doing before after acted asked sends a same = sends (asks-reads doing before after asked
    (subst (λ (x : Acted). ActsIn doing before after x (λ plan sent. doing_after plan sent x)) same a))

-- ---- an action may follow on another

ready-read : (before after : Stand) (acted : Acted) → IsAtRest before.session
    → Reads before.link after.link before.session after.session acted → IsOngoing acted → IsAtRest after.session
ready-read before after acts.Moved rests r goes = takes-rests r.takes
ready-read before after (acts.Asks asked) rests r goes = subst IsAtRest (sym r.1) rests
ready-read before after (acts.Sent count total) rests r goes = absurd r
ready-read before after acts.Finished rests r goes = absurd r
ready-read before after acts.Later rests r goes = subst IsAtRest (sym r.1) rests
ready-read before after (acts.Ended end) rests r goes = absurd goes

ready-reply : (before after : Stand) (plan : Plan) (sent sent' : ℕ) (acted : Acted)
    → IsReady (does.Replying plan sent) before.session
    → Sends before.link after.link before.session after.session (bytes_of plan) sent sent' acted → IsOngoing acted
    → IsReady (doing_after plan sent' acted) after.session
ready-reply before after plan sent sent' acts.Moved ready r goes = absurd r
ready-reply before after plan sent sent' (acts.Asks asked) ready r goes = absurd r
ready-reply before after plan sent sent' (acts.Sent count total) ready r goes =
    (subst IsAsking (sym r.session_is) ready.0, r.within)
ready-reply before after plan sent sent' acts.Finished ready r goes =
    let told = r.1.told ready.0.0 ready.0.1 in
    rests-at after.session before.session.held.rest (before.session.before + 1)
    (told.0 ∙ leads-on before.session ready.0.0 (sym told.1))
ready-reply before after plan sent sent' acts.Later ready r goes =
    (subst IsAsking (sym r.1) ready.0, subst (λ (n : ℕ). n ≤ length (bytes_of plan)) (sym r.2) ready.1)
ready-reply before after plan sent sent' (acts.Ended end) ready r goes = absurd goes

ready-text : (before after : Stand) (said said' : ℕ) (acted : Acted) → said ≤ length no_memory_reply
    → Parts before.link after.link said said' acted → IsOngoing acted → said' ≤ length no_memory_reply
ready-text before after said said' acts.Moved ready r goes = r.within
ready-text before after said said' (acts.Asks asked) ready r goes = absurd r
ready-text before after said said' (acts.Sent count total) ready r goes = absurd r
ready-text before after said said' acts.Finished ready r goes = absurd r
ready-text before after said said' acts.Later ready r goes =
    subst (λ (n : ℕ). n ≤ length no_memory_reply) (sym r.1) ready
ready-text before after said said' (acts.Ended end) ready r goes = absurd goes

pub ready-after : (doing : Doing) (before after : Stand) (acted : Acted) → IsReady doing before.session
    → ActsIn doing before after acted (λ plan sent. doing_after plan sent acted) → IsOngoing acted
    → IsReady after.doing after.session
ready-after does.Reading before after acted ready a goes =
    subst (λ (d : Doing). IsReady d after.session) (sym a.0) (ready-read before after acted ready a.1 goes)
ready-after (does.Replying plan sent) before after acted ready a goes =
    subst (λ (d : Doing). IsReady d after.session) (sym a.doing_is)
    (ready-reply before after plan sent a.sent' acted ready a.sends goes)
ready-after (does.Leaving said) before after acted ready a goes =
    subst (λ (d : Doing). IsReady d after.session) (sym a.doing_is)
    (ready-text before after said a.said' acted ready a.parts goes)

-- a session that is read for over a link that blocks goes on, asks or ends
pub reads-only : (before after : LinkShown) (session session' : State) (acted : Acted)
    → Reads before after session session' acted → acted ≢ acts.Moved → ((asked : Asked) → acted ≢ acts.Asks asked)
    → ((end : End) → acted ≢ acts.Ended end) → acted ≢ acts.Later → ⊥
reads-only before after session session' acts.Moved r moved asks ended later = moved refl
reads-only before after session session' (acts.Asks asked) r moved asks ended later = asks asked refl
reads-only before after session session' (acts.Sent count total) r moved asks ended later = r
reads-only before after session session' acts.Finished r moved asks ended later = r
reads-only before after session session' acts.Later r moved asks ended later = later refl
reads-only before after session session' (acts.Ended end) r moved asks ended later = ended end refl

-- after a question requests are still read, and the session asks it
pub asks-still : (doing : Doing) (before after : Stand) (asked : Asked)
    → ActsIn doing before after (acts.Asks asked) (λ plan sent. doing_after plan sent (acts.Asks asked))
    → IsReading after.doing
asks-still does.Reading before after asked a = subst IsReading (sym a.0) tt
asks-still (does.Replying plan sent) before after asked a = absurd a.sends
asks-still (does.Leaving said) before after asked a = absurd a.parts

pub asks-phase : (doing : Doing) (before after : Stand) (asked : Asked)
    → ActsIn doing before after (acts.Asks asked) (λ plan sent. doing_after plan sent (acts.Asks asked))
    → after.session.phase ≡ Asking asked
asks-phase does.Reading before after asked a =
    subst (λ (s : State). s.phase ≡ Asking asked) (sym a.1.1) a.1.2
asks-phase (does.Replying plan sent) before after asked a = absurd a.sends
asks-phase (does.Leaving said) before after asked a = absurd a.parts

-- What was done so far on a link, after one action more.
use Rattle.std.proofs.Common.{◌≡◌, ◌<◌, ◌≤◌, ◌⊎◌, inl, inr, ⊎_elim, ℕ, List, [], ◌∷◌, length, take, drop, Bool, Option, Some, None, refl, sym, ap, ap₂, subst, ◌∙◌, arith, length-append}
use Rattle.dev_traits.specs.Cause.{one_more}
use Rattle.dev_traits.specs.Link.{after_put, Wire}
use Rattle.dev_traits.specs.Shown.{LinkShown}
use Rattle.dev_traits.proofs.LinkLemmas.{after_put_more}
use Rattle.web_session.specs.declared.action.End.{End}
use Rattle.web_session.specs.declared.phase.Phase.TheVariants.{Asking}
use Rattle.web_session.specs.State.{end_after, replied, State}
use Rattle.dap_reply.specs.declared.served.Mark.{Mark}
use Rattle.dap_reply.specs.declared.served.Stop.TheVariants as stops
use Rattle.dap_reply.specs.Collections.{Collections, Views}
use Rattle.dap_reply.specs.Head.{no_memory_reply}
use Rattle.dap_reply.specs.Parts.{bytes_of, Parts as Plan}
use Rattle.srv_action.specs.declared.acting.Acted.{Acted}
use Rattle.srv_action.specs.declared.acting.Acted.TheVariants as acts
use Rattle.srv_action.specs.declared.doing.Doing.{Doing}
use Rattle.srv_action.specs.declared.doing.Doing.TheVariants as does
use Rattle.srv_action.specs.Acts.{doing_after, ActsIn, IsBroken, IsDone, IsOngoing, IsParted, IsReading, IsSame, Parts, Reads, SaysMore, Sends, SendsMore, Stand}
use Rattle.srv_conn.specs.Marks.{Notes}
use Rattle.srv_conn.specs.ServesMany.{point_of, Point, ServesMany}
use Rattle.srv_conn.specs.SoFar.{Parting, Sending, Serving, SoFar}
use Rattle.srv_conn.specs.Turn.{reply_of_turn, IsCut, IsShort, IsWhole}
use Rattle.srv_conn.proofs.Exits.{serves-none}
use Rattle.srv_conn.proofs.GoingOn.{Serving-goes}
use Rattle.srv_conn.proofs.LastReply.{serves-cut, serves-whole}
use Rattle.srv_conn.proofs.Serving.{Serving-takes}
use Rattle.srv_conn.proofs.ShortExit.{serves-short}
use Rattle.srv_conn.proofs.TakesLemmas.{none-taken}

-- what shows the same is the same
pub same-link : (before after : LinkShown) → IsSame before after → after ≡ before
same-link before after s = ap₂ link_of s.held_is s.faults_are
  where
    link_of : Option Wire → ℕ → LinkShown
    link_of held faults = record { held = held; faults = faults }

-- a fact of a moment holds where its link, its session and its marks are the same
moved-same : (P : Point → Type 0) (before after : LinkShown) (session session' : State) (views : Views)
    (trail trail' : List Mark) → IsSame before after → session' ≡ session → trail' ≡ trail
    → P (point_of before views session trail) → P (point_of after views session' trail')
moved-same P before after session session' views trail trail' same session_is trail_is holds =
    subst (λ (marks : List Mark). P (point_of after views session' marks)) (sym trail_is)
    (subst (λ (s : State). P (point_of after views s trail)) (sym session_is)
    (subst (λ (l : LinkShown). P (point_of l views session trail)) (sym (same-link before after same)) holds))

module _ {them : Collections} {start : Point} {most : ℕ} where
  -- ---- while requests are read

  read-goes : (before after : LinkShown) (session session' : State) (views : Views)
      (trail trail' : List Mark) (acted : Acted)
      → Serving them start (point_of before views session trail) × (length trail ≤ most)
      → Reads before after session session' acted → Notes acted trail trail' → IsOngoing acted
      → Serving them start (point_of after views session' trail') × (length trail' ≤ most)
  read-goes before after session session' views trail trail' acts.Moved s r notes goes =
      subst (λ (marks : List Mark). Serving them start (point_of after views session' marks)
      × (length marks ≤ most)) (sym notes) (
        Serving-takes them start (point_of before views session trail) after session' r.taken s.0 r.takes,
        s.1,
      )
  read-goes before after session session' views trail trail' (acts.Asks asked) s r notes goes =
      moved-same (λ (m : Point). Serving them start m × (length m.trail ≤ most)) before after session session'
      views trail trail' r.0 r.1 notes s
  read-goes before after session session' views trail trail' (acts.Sent count total) s r notes goes = absurd r
  read-goes before after session session' views trail trail' acts.Finished s r notes goes = absurd r
  read-goes before after session session' views trail trail' acts.Later s r notes goes =
      moved-same (λ (m : Point). Serving them start m × (length m.trail ≤ most)) before after session session'
      views trail trail' r.0 r.1 notes s
  read-goes before after session session' views trail trail' (acts.Ended end) s r notes goes = absurd goes

  -- ---- while a reply is sent

  send-more : (before after : LinkShown) (session session' : State) (views : Views)
      (trail trail' : List Mark) (bytes : List ℕ) (sent sent' count total : ℕ)
      → Sending them start (point_of before views session trail) most bytes sent
      → SendsMore before after session session' bytes sent sent' count total
      → Notes (acts.Sent count total) trail trail'
      → Sending them start (point_of after views session' trail') most bytes sent'
  send-more before after session session' views trail trail' bytes sent sent' count total s r notes = record {
    before = s.before;
    asked = s.asked;
    asks = s.asks;
    mark = record s.mark { sent = total };
    replies = record {
      looks = s.replies.looks;
      trail_is = notes s.before.trail s.mark s.replies.trail_is;
      revision_is = s.replies.revision_is;
      put_is = r.link.put_is ∙ ap (after_put (take count (drop sent bytes))) put
          ∙ sym (after_put_more sent count bytes s.before.link.held)
          ∙ ap (λ (n : ℕ). after_put (take n bytes) s.before.link.held) (sym r.sent_is ∙ sym r.total_is)
          ∙ ap (λ (l : List ℕ). after_put (take total l) s.before.link.held) s.bytes_are;
    };
    sent_is = r.total_is;
    within = r.within;
    bytes_are = s.bytes_are;
    session_is = r.session_is ∙ s.session_is;
    faults_are = r.link.faults_are ∙ s.faults_are;
  }
    where
      put : before.held ≡ after_put (take sent bytes) s.before.link.held
      put = s.replies.put_is
          ∙ ap (λ (n : ℕ). after_put (take n (reply_of_turn them s.before (point_of before views session trail)
          s.asked s.mark)) s.before.link.held) s.sent_is
          ∙ ap (λ (l : List ℕ). after_put (take sent l) s.before.link.held) (sym s.bytes_are)

  -- a reply that is whole
  whole-of : (before after : LinkShown) (session session' : State) (views : Views)
      (trail : List Mark) (bytes : List ℕ) (sent : ℕ) (end : Option End)
      (s : Sending them start (point_of before views session trail) most bytes sent)
      → IsDone before after session session' bytes sent end
      → IsWhole them s.before (point_of after views session' trail) s.asked end
  whole-of before after session session' views trail bytes sent end s d =
      let phase : session.phase ≡ Asking s.asked = ap (λ (x : State). x.phase) s.session_is ∙ s.asks.asking in
      let told = d.told s.asked phase in
      record {
        mark = s.mark;
        replies = record {
          looks = s.replies.looks;
          trail_is = s.replies.trail_is;
          revision_is = s.replies.revision_is;
          put_is = d.link.held_is ∙ s.replies.put_is;
        };
        whole = s.sent_is ∙ d.whole ∙ ap length s.bytes_are;
        faults_are = d.link.faults_are ∙ s.faults_are;
        session_is = told.0 ∙ ap (λ (x : State). replied x s.asked) s.session_is;
        end_is = told.1 ∙ ap (λ (x : State). end_after s.asked x.before) s.session_is;
      }

  -- a reply that the link cut
  cut-of : (before after : LinkShown) (session session' : State) (views : Views)
      (trail : List Mark) (bytes : List ℕ) (sent : ℕ) (end : End)
      (s : Sending them start (point_of before views session trail) most bytes sent)
      → IsBroken before after session' end
      → IsCut them s.before (point_of after views session' trail) s.asked (Some end)
  cut-of before after session session' views trail bytes sent end s b = record {
    mark = s.mark;
    replies = record {
      looks = s.replies.looks;
      trail_is = s.replies.trail_is;
      revision_is = s.replies.revision_is;
      put_is = b.link.held_is ∙ s.replies.put_is;
    };
    cut = omega (arith, s.sent_is, s.within, ap length s.bytes_are);
    faults_are = b.link.faults_are ∙ ap one_more s.faults_are;
    ended = b.ended;
    end_is = ap Some b.end_is;
  }

  -- the session reads again after a reply
  done-goes : (before after : LinkShown) (session session' : State) (views : Views)
      (trail : List Mark) (bytes : List ℕ) (sent : ℕ)
      → Sending them start (point_of before views session trail) most bytes sent
      → IsDone before after session session' bytes sent None
      → Serving them start (point_of after views session' trail) × (length trail ≤ most)
  done-goes before after session session' views trail bytes sent s d = (
    Serving-goes them start s.before (point_of after views session' trail) s.asked s.asks.serving
        s.asks.asking (whole-of before after session session' views trail bytes sent None s d),
    omega (arith, s.asks.few, ap length s.replies.trail_is, length-append s.before.trail (s.mark ∷ [])),
  )

  send-ends : (before after : LinkShown) (session session' : State) (views : Views)
      (trail : List Mark) (bytes : List ℕ) (sent : ℕ) (end : End)
      → Sending them start (point_of before views session trail) most bytes sent
      → IsDone before after session session' bytes sent (Some end) ⊎ IsBroken before after session' end
      → ServesMany them start (point_of after views session' trail) most (stops.Ended end)
  send-ends before after session session' views trail bytes sent end s why =
      ⊎_elim
      (λ done. serves-whole them start s.before (point_of after views session' trail) s.asked most end
      s.asks.serving s.asks.few s.asks.asking
      (whole-of before after session session' views trail bytes sent (Some end) s done))
      (λ broken. serves-cut them start s.before (point_of after views session' trail) s.asked most end
      s.asks.serving s.asks.few s.asks.asking
      (cut-of before after session session' views trail bytes sent end s broken)) why

  -- an action on a reply leaves it, or the session reads again
  reply-goes : (before after : Stand) (views : Views) (trail trail' : List Mark)
      (plan : Plan) (sent sent' : ℕ) (acted : Acted)
      → Sending them start (point_of before.link views before.session trail) most (bytes_of plan) sent
      → Sends before.link after.link before.session after.session (bytes_of plan) sent sent' acted
      → Notes acted trail trail' → IsOngoing acted
      → SoFar them start (point_of after.link views after.session trail') most
      (doing_after plan sent' acted)
  reply-goes before after views trail trail' plan sent sent' acts.Moved s r notes goes = absurd r
  reply-goes before after views trail trail' plan sent sent' (acts.Asks asked) s r notes goes = absurd r
  reply-goes before after views trail trail' plan sent sent' (acts.Sent count total) s r notes goes =
      send-more before.link after.link before.session after.session views trail trail' (bytes_of plan) sent sent'
      count total s r notes
  reply-goes before after views trail trail' plan sent sent' acts.Finished s r notes goes =
      subst (λ (marks : List Mark). Serving them start (point_of after.link views after.session marks)
      × (length marks ≤ most)) (sym notes)
      (done-goes before.link after.link before.session after.session views trail (bytes_of plan) sent s r.1)
  reply-goes before after views trail trail' plan sent sent' acts.Later s r notes goes =
      subst (Sending them start (point_of after.link views after.session trail') most (bytes_of plan))
      (sym r.2)
      (moved-same (λ (m : Point). Sending them start m most (bytes_of plan) sent) before.link after.link
      before.session after.session views trail trail' r.0 r.1 notes s)
  reply-goes before after views trail trail' plan sent sent' (acts.Ended end) s r notes goes = absurd goes

  -- ---- where memory ran out

  say-more : (before after : LinkShown) (session : State) (views : Views) (trail : List Mark)
      (said said' : ℕ) → Parting them start (point_of before views session trail) most said
      → SaysMore before after said said'
      → Parting them start (point_of after views session trail) most said'
  say-more before after session views trail said said' s r = record {
    before = s.before;
    asked = s.asked;
    asks = s.asks;
    number = s.number;
    behind = s.behind;
    looks_are = s.looks_are;
    others = s.others;
    trail_is = s.trail_is;
    within = r.within;
    put_is = r.link.put_is ∙ ap (after_put (take r.count (drop said no_memory_reply))) s.put_is
        ∙ sym (after_put_more said r.count no_memory_reply s.before.link.held)
        ∙ ap (λ (n : ℕ). after_put (take n no_memory_reply) s.before.link.held) (sym r.said_is);
    faults_are = r.link.faults_are ∙ s.faults_are;
    ended = s.ended;
  }

  -- the text is whole, or a front of it where the link failed
  short-of : (before after : LinkShown) (session : State) (views : Views) (trail : List Mark)
      (said said' : ℕ) (end : End)
      (s : Parting them start (point_of before views session trail) most said)
      → IsParted before after said said' end
      → IsShort them s.before (point_of after views session trail) s.number (Some end)
  short-of before after session views trail said said' end s p = record {
    behind = s.behind;
    looks_are = s.looks_are;
    others = s.others;
    trail_is = s.trail_is;
    said = said;
    within = s.within;
    put_is = p.held_is ∙ s.put_is;
    whole = ⊎_elim (λ all. inl (all.0, all.1 ∙ s.faults_are)) (λ broke. inr (broke ∙ ap one_more s.faults_are))
        p.whole;
    ended = s.ended;
    end_is = ap Some p.end_is;
  }

  text-goes : (before after : Stand) (views : Views) (trail trail' : List Mark)
      (said said' : ℕ) (acted : Acted)
      → Parting them start (point_of before.link views before.session trail) most said
      → after.session ≡ before.session → Parts before.link after.link said said' acted
      → Notes acted trail trail' → IsOngoing acted
      → Parting them start (point_of after.link views after.session trail') most said'
  text-goes before after views trail trail' said said' acts.Moved s is r notes goes =
      subst (λ (marks : List Mark). Parting them start (point_of after.link views after.session marks)
      most said') (sym notes)
      (subst (λ (x : State). Parting them start (point_of after.link views x trail) most said') (sym is)
      (say-more before.link after.link before.session views trail said said' s r))
  text-goes before after views trail trail' said said' (acts.Asks asked) s is r notes goes = absurd r
  text-goes before after views trail trail' said said' (acts.Sent count total) s is r notes goes = absurd r
  text-goes before after views trail trail' said said' acts.Finished s is r notes goes = absurd r
  text-goes before after views trail trail' said said' acts.Later s is r notes goes =
      subst (Parting them start (point_of after.link views after.session trail') most) (sym r.1)
      (moved-same (λ (m : Point). Parting them start m most said) before.link after.link before.session
      after.session views trail trail' r.0 is notes s)
  text-goes before after views trail trail' said said' (acts.Ended end) s is r notes goes = absurd goes

  -- ---- all of them

  pub ends-in : (doing : Doing) (before after : Stand) (views : Views) (trail : List Mark) (end : End)
      → SoFar them start (point_of before.link views before.session trail) most doing
      → (IsReading doing → length trail < most)
      → ActsIn doing before after (acts.Ended end) (λ plan sent. doing_after plan sent (acts.Ended end))
      → ServesMany them start (point_of after.link views after.session trail) most (stops.Ended end)
  ends-in does.Reading before after views trail end s few a =
      serves-none them start (point_of before.link views before.session trail) after.link after.session
      most end s.0 (few tt) (none-taken s.0.session_is a.1)
  ends-in (does.Replying plan sent) before after views trail end s few a =
      send-ends before.link after.link before.session after.session views trail (bytes_of plan) sent end s
      a.sends.1
  ends-in (does.Leaving said) before after views trail end s few a =
      subst (λ (x : State). ServesMany them start (point_of after.link views x trail) most (stops.Ended end))
      (sym a.session_is)
      (serves-short them start s.before (point_of after.link views before.session trail) s.asked most s.number end
      s.asks.serving s.asks.few s.asks.asking
      (short-of before.link after.link before.session views trail said a.said' end s a.parts))

-- what was done so far, after an action by which the session goes on
pub goes-in : (them : Collections) (start : Point) (most : ℕ) (doing : Doing) (before after : Stand)
    (views : Views) (trail trail' : List Mark)
    (acted : Acted) → SoFar them start (point_of before.link views before.session trail) most doing
    → ActsIn doing before after acted (λ plan sent. doing_after plan sent acted)
    → Notes acted trail trail' → IsOngoing acted
    → SoFar them start (point_of after.link views after.session trail') most after.doing
goes-in them start most does.Reading before after views trail trail' acted s a notes goes =
    subst (SoFar them start (point_of after.link views after.session trail') most) (sym a.0)
    (read-goes before.link after.link before.session after.session views trail trail' acted s a.1 notes goes)
goes-in them start most (does.Replying plan sent) before after views trail trail' acted s a notes goes =
    subst (SoFar them start (point_of after.link views after.session trail') most) (sym a.doing_is)
    (reply-goes before after views trail trail' plan sent a.sent' acted s a.sends notes goes)
goes-in them start most (does.Leaving said) before after views trail trail' acted s a notes goes =
    subst (SoFar them start (point_of after.link views after.session trail') most) (sym a.doing_is)
    (text-goes before after views trail trail' said a.said' acted s a.session_is a.parts notes goes)

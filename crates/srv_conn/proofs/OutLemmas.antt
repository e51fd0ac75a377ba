-- A link of a door that is out, after one action more.
use Rattle.std.proofs.Common.{◌≡◌, ◌≢◌, ◌<◌, ◌⊎◌, inl, inr, ⊎_elim, ℕ, Bool, true, false, List, [], ◌∷◌, ◌++◌, length, refl, sym, ap, subst, ◌∙◌, append-nil, arith}
use Rattle.fm_model.specs.declared.op.Op.{Op}
use Rattle.dev_traits.specs.Shown.{LinkShown}
use Rattle.web_session.specs.declared.action.Asked.{Asked}
use Rattle.web_session.specs.declared.action.End.{End}
use Rattle.web_session.specs.declared.phase.Phase.TheVariants.{Asking}
use Rattle.web_session.specs.Run.{item_asked}
use Rattle.web_session.specs.State.{State}
use Rattle.dap_reply.specs.Collections.{Collections, Views}
use Rattle.dap_reply.specs.Reply.{is_wanted}
use Rattle.srv_action.specs.declared.acting.Acted.{Acted}
use Rattle.srv_action.specs.declared.acting.Acted.TheVariants as acts
use Rattle.srv_conn.specs.declared.connection.Connection.{Connection}
use Rattle.srv_action.specs.declared.doing.Doing.{Doing}
use Rattle.srv_action.specs.declared.doing.Doing.TheVariants as does
use Rattle.srv_conn.specs.declared.revisions.Revisions.{Revisions}
use Rattle.srv_action.specs.Acts.{stand, Acts, IsOngoing, IsReading, IsReady, Stand}
use Rattle.srv_conn.specs.Begins.{looks_for, revision_for, seen_for, IsReplyTo, IsShortOf}
use Rattle.srv_conn.specs.Out.{point_at, AreRevisions, HasEnded, IsOut, KnowsRevisions, LooksFor, MOST_REPLIES, Own, StaysOut}
use Rattle.srv_conn.specs.ServesMany.{point_of, Point}
use Rattle.srv_conn.specs.Revisions.{revision_at}
use Rattle.srv_conn.specs.Sight.{sight_in, AreBehind, IsBehind, OthersStay, Sight}
use Rattle.srv_conn.specs.SoFar.{Asks, SoFar}
use Rattle.srv_conn.proofs.ActLemmas.{ends-in, goes-in}
use Rattle.srv_conn.proofs.BeginLemmas.{begins-parting, begins-sending, revision-own, sight_after}
use Rattle.srv_conn.proofs.StandLemmas.{ready-so-far}
use Rattle.srv_conn.proofs.MarkLemmas.{few-in, knows-in, knows-reading, notes-so, revisions-with, trail_after}
use Rattle.srv_conn.proofs.ViewLemmas.{behind-kept, behind-one, behind-same, looks-each, looks_at, with_sight, with_sight-others, with_sight-own}

-- no looks more
pub no-looks : (own own' : Own) (views : Views) → ((number : ℕ) → own'.views.looks number ≡ own.views.looks number)
    → LooksFor own own' views views
no-looks own own' views same = record {
  more = λ number. [];
  own_is = λ number. same number ∙ sym (append-nil (own.views.looks number));
  looks_are = λ number. sym (append-nil (views.looks number));
}

-- where a connection stands
abbrev pub stand_of : {L : Type 0} → (L → LinkShown) → Connection L → Stand
stand_of shown connection = stand (shown connection.link) connection.session connection.doing

-- while it reads, fewer replies were begun than there can be
trail-few : (them : Collections) (start : Point) (doing : Doing) (now : Point)
    → SoFar them start now MOST_REPLIES doing → IsReading doing
    → start.session.before ≡ 0 → now.session.before < MOST_REPLIES → length now.trail < MOST_REPLIES
trail-few them start does.Reading now s reads first few =
    omega (arith, ap (λ (x : State). x.before) s.0.session_is, s.0.begun.count, first, few)
trail-few them start (does.Replying plan sent) now s reads first few = absurd reads
trail-few them start (does.Leaving said) now s reads first few = absurd reads

asks-in : (them : Collections) (start : Point) (doing : Doing) (now : Point) (asked : Asked)
    → SoFar them start now MOST_REPLIES doing
    → IsReading doing → length now.trail < MOST_REPLIES → now.session.phase ≡ Asking asked
    → Asks them start now MOST_REPLIES asked
asks-in them start does.Reading now asked s reads few asking =
    record { serving = s.0; few = few; asking = asking }
asks-in them start (does.Replying plan sent) now asked s reads few asking = absurd reads
asks-in them start (does.Leaving said) now asked s reads few asking = absurd reads

module _ {L : Type 0} {shown : L → LinkShown} {them : Collections} {start : Point} where
  -- a link that is out may go on
  pub out-ready : (log : ℕ → List Op) (own : Own) (connection : Connection L)
      → IsOut shown them start log own connection → IsReady connection.doing connection.session
  out-ready log own connection out =
      ready-so-far them start (point_at shown connection own) MOST_REPLIES connection.doing out.so_far

  -- it stays out after an action
  pub out-goes : (views : Views) (own : Own) (connection connection' : Connection L) (acted : Acted)
      → IsOut shown them start views.seen own connection
      → Acts (stand_of shown connection) (stand_of shown connection') acted → IsOngoing acted
      → connection'.revisions ≡ connection.revisions
      → StaysOut shown them start own connection' views views
  out-goes views own connection connection' acted out a goes same = record {
    own' = record own { trail = trail_after acted own.trail };
    is_out = record {
      was_fresh = out.was_fresh;
      so_far = goes-in them start MOST_REPLIES connection.doing (stand_of shown connection)
          (stand_of shown connection') own.views own.trail
          (trail_after acted own.trail) acted out.so_far a (notes-so acted own.trail) goes;
      behind = out.behind;
      revisions_are = subst (λ (l : Revisions). KnowsRevisions them connection'.doing l own.views.seen) (sym same)
          (knows-in them connection.doing (stand_of shown connection) (stand_of shown connection') acted
          connection.revisions own.views.seen a out.revisions_are);
      few = few-in connection.doing (stand_of shown connection) (stand_of shown connection') acted
          (ready-so-far them start (point_at shown connection own) MOST_REPLIES connection.doing
          out.so_far) a goes out.few;
    };
    looks = no-looks own (record own { trail = trail_after acted own.trail }) views (λ number. refl);
  }

  first-reply : (log : ℕ → List Op) (own : Own) (connection : Connection L)
      → IsOut shown them start log own connection → start.session.before ≡ 0
  first-reply log own connection out = ap (λ (x : State). x.before) out.was_fresh

  -- its link was served where an action ends its session
  pub out-ends : (views : Views) (own : Own) (connection connection' : Connection L) (end : End)
      → IsOut shown them start views.seen own connection
      → Acts (stand_of shown connection) (stand_of shown connection') (acts.Ended end)
      → HasEnded shown them start own connection' views views end
  out-ends views own connection connection' end out a = record {
    own' = own;
    serves = ends-in connection.doing (stand_of shown connection) (stand_of shown connection') own.views
        own.trail end
        out.so_far
        (λ reads. trail-few them start connection.doing (point_at shown connection own) out.so_far reads
        (first-reply views.seen own connection out) out.few) a;
    behind = out.behind;
    looks = no-looks own own views (λ number. refl);
  }

  -- ---- its session asks

  asks-of : (log : ℕ → List Op) (own : Own) (connection : Connection L) (asked : Asked)
      → IsOut shown them start log own connection → IsReading connection.doing
      → connection.session.phase ≡ Asking asked
      → Asks them start (point_at shown connection own) MOST_REPLIES asked
  asks-of log own connection asked out reads asking =
      asks-in them start connection.doing (point_at shown connection own) asked out.so_far reads
      (trail-few them start connection.doing (point_at shown connection own) out.so_far reads
      (first-reply log own connection out) out.few) asking

  -- a reply is begun
  pub out-begins : (views views' : Views) (own : Own) (connection connection' : Connection L) (asked : Asked)
      (number last revision : ℕ)
      → IsOut shown them start views.seen own connection → IsReading connection.doing
      → connection.session.phase ≡ Asking asked → connection'.link ≡ connection.link
      → number ≡ them.choice (item_asked asked connection.session.held) → number < them.count
      → last ≡ revision_at connection.revisions number → revision ≡ revision_at connection'.revisions number
      → ((other : ℕ) → other ≢ number
      → revision_at connection'.revisions other ≡ revision_at connection.revisions other)
      → IsBehind (them.still number) (views.seen number) (views'.seen number) → OthersStay number views views'
      → IsReplyTo (them.proto number) (item_asked asked connection.session.held) last connection.session
      connection'.session connection'.doing (sight_in views number) (sight_in views' number) revision
      → StaysOut shown them start own connection' views views'
  out-begins views views' own connection connection' asked number last revision out reads asking link choice below
      last_is revision_is same sees others r = record {
        own' = own';
        is_out = record {
          was_fresh = out.was_fresh;
          so_far = subst (SoFar them start (point_at shown connection' own') MOST_REPLIES) (sym r.doing_is)
              (subst (λ (l : L). SoFar them start (point_of (shown l) own'.views connection'.session
              own'.trail) MOST_REPLIES (does.Replying r.plan 0)) (sym link)
              (subst (λ (s : State). SoFar them start (point_of (shown connection.link) own'.views s
              own'.trail) MOST_REPLIES (does.Replying r.plan 0)) (sym r.session_is)
              (begins-sending (point_at shown connection own) asked connection'.session connection'.doing number
              (sight_in views number) (sight_in views' number) last revision own'.views
              (asks-of views.seen own connection asked out reads asking) choice behind known kept at r)));
          behind = later;
          revisions_are = subst (λ (d : Doing). KnowsRevisions them d connection'.revisions own'.views.seen)
              (sym r.doing_is)
              (revisions-with them number connection.revisions connection'.revisions own.views own'.views are kept
              (sym revision_is ∙ revision-own revision (own.views.seen number) (views'.seen number) wanted
              (r.revision_is ∙ ap (revision_for wanted (length (views'.seen number))) known)
              ∙ ap length (sym (ap (λ (s : Sight). s.seen) at))) same);
          few = subst (λ (s : State). s.before < MOST_REPLIES) (sym r.session_is) out.few;
        };
        looks = record {
          more = looks_at number (looks_for wanted (length (views'.seen number)));
          own_is = looks-each number own.views own'.views (looks_for wanted (length (views'.seen number))) kept
              (ap (λ (s : Sight). s.looks) at);
          looks_are =
              looks-each number views views' (looks_for wanted (length (views'.seen number))) others r.looks_are;
        };
      }
    where
      wanted : Bool
      wanted = is_wanted (them.proto number).site (item_asked asked connection.session.held)

      sight : Sight
      sight = sight_after wanted (sight_in own.views number) (views'.seen number)

      own' : Own
      own' = record {
        views = with_sight number sight own.views;
        trail = own.trail ++ record { revision = revision; sent = 0 } ∷ [];
      }

      at : sight_in own'.views number ≡ sight
      at = with_sight-own number sight own.views

      kept : OthersStay number own.views own'.views
      kept = with_sight-others number sight own.views

      behind : IsBehind (them.still number) (own.views.seen number) (views'.seen number)
      behind = behind-one (them.still number) (own.views.seen number) (views.seen number) (views'.seen number)
          (out.behind number) sees

      are : AreRevisions them connection.revisions own.views.seen
      are = knows-reading them connection.doing connection.revisions own.views.seen reads out.revisions_are

      known : last ≡ length (own.views.seen number)
      known = last_is ∙ are number below

      by_wanted : (b : Bool)
          → IsBehind (them.still number) (seen_for b (own.views.seen number) (views'.seen number)) (views'.seen number)
      by_wanted true = behind-same (them.still number) (views'.seen number) (views'.seen number) refl
      by_wanted false = behind

      later : AreBehind them own'.views.seen views'.seen
      later = behind-kept them number own.views own'.views views views' kept others out.behind
          (subst (λ (ops : List Op). IsBehind (them.still number) ops (views'.seen number))
          (sym (ap (λ (s : Sight). s.seen) at)) (by_wanted wanted))

  -- memory ran out
  pub out-leaves : (views views' : Views) (own : Own) (connection connection' : Connection L) (asked : Asked)
      (number : ℕ)
      → IsOut shown them start views.seen own connection → IsReading connection.doing
      → connection.session.phase ≡ Asking asked → connection'.link ≡ connection.link
      → IsBehind (them.still number) (views.seen number) (views'.seen number) → OthersStay number views views'
      → IsShortOf connection.session connection'.session connection'.doing (sight_in views number)
      (sight_in views' number)
      → StaysOut shown them start own connection' views views'
  out-leaves views views' own connection connection' asked number out reads asking link sees others r =
      ⊎_elim (λ none. parted [] (none ∙ sym (append-nil (views.looks number))) (inl refl))
      (λ one. parted (length (views'.seen number) ∷ []) one (inr refl)) r.looks_are
    where
      parted : (more : List ℕ) → views'.looks number ≡ views.looks number ++ more
          → (more ≡ []) ⊎ (more ≡ length (views'.seen number) ∷ [])
          → StaysOut shown them start own connection' views views'
      parted more looks one = record {
        own' = record { views = after; trail = own.trail };
        is_out = record {
          was_fresh = out.was_fresh;
          so_far = subst (SoFar them start (point_of (shown connection'.link) after connection'.session own.trail)
              MOST_REPLIES) (sym r.doing_is)
              (subst (λ (l : L). SoFar them start (point_of (shown l) after connection'.session own.trail) MOST_REPLIES
              (does.Leaving 0)) (sym link)
              (begins-parting (point_at shown connection own) asked connection'.session connection'.doing number
              (sight_in views number) (sight_in views' number) more after
              (asks-of views.seen own connection asked out reads asking)
              (behind-one (them.still number) (own.views.seen number) (views.seen number) (views'.seen number)
              (out.behind number) sees) kept at r one));
          behind = behind-kept them number own.views after views views' kept others out.behind
              (behind-same (them.still number) (after.seen number) (views'.seen number)
              (sym (ap (λ (s : Sight). s.seen) at)));
          revisions_are = subst (λ (d : Doing). KnowsRevisions them d connection'.revisions after.seen)
              (sym r.doing_is) tt;
          few = subst (λ (n : ℕ). n < MOST_REPLIES) (sym r.before_is) out.few;
        };
        looks = record {
          more = looks_at number more;
          own_is = looks-each number own.views after more kept (ap (λ (s : Sight). s.looks) at);
          looks_are = looks-each number views views' more others looks;
        };
      }
        where
          sight : Sight
          sight = record { seen = views'.seen number; looks = own.views.looks number ++ more }

          after : Views
          after = with_sight number sight own.views

          at : sight_in after number ≡ sight
          at = with_sight-own number sight own.views

          kept : OthersStay number own.views after
          kept = with_sight-others number sight own.views

-- The start, each reply and each exit.
use Rattle.std.proofs.Common.{◌≡◌, ℕ, List, [], Option, Some, None, length, refl, sym, ap, subst, ◌∙◌, arith}
use Rattle.std.proofs.lemmas.List.{nil_from_length}
use Rattle.web_session.specs.declared.action.Asked.{Asked}
use Rattle.web_session.specs.declared.action.End.{End}
use Rattle.dap_reply.specs.declared.served.Mark.{Mark}
use Rattle.dap_reply.specs.declared.served.Stop.TheVariants as stops
use Rattle.dap_reply.specs.Collections.{Collections}
use Rattle.srv_conn.specs.Follows.{Follows}
use Rattle.srv_conn.specs.ServesMany.{point_of, Point}
use Rattle.srv_conn.specs.SoFar.{Asks, Serving}
use Rattle.srv_conn.proofs.Exits.{serves-enough, serves-none}
use Rattle.srv_conn.proofs.Serving.{Serving-start, Serving-takes}
use Rattle.srv_action.proofs.SessionLemmas.{rests-at}
use Rattle.srv_conn.proofs.serve.serve_looks.Goals as goal

-- a reply over the collections of the call's start
follows-at : {them first : Collections} {start now : Point} {most : ℕ} {asked : Asked} (after : Point)
    (end : Option End) → them ≡ first → (Asks them start now most asked → Follows them start most after end)
    → Asks first start now most asked → Follows first start most after end
follows-at {start = start} {now = now} {most = most} {asked = asked} after end same follows asks =
    subst (λ (t : Collections). Follows t start most after end) same
    (follows (subst (λ (t : Collections). Asks t start now most asked) (sym same) asks))

pub loop-alloc-init : goal.loop-alloc-init
loop-alloc-init g c =
    let start : List Mark → Point = λ trail. point_of (g.L.Link.shown c.args.link.now)
    (g.K.Looks.views c.args.looks.now) c.args.session.now trail in
    record {
      serving = subst (λ (l : List Mark). Serving (g.K.Looks.them c.args.looks.now)
          (start []) (start l)) (sym c.new-trail.ensures)
          (Serving-start (g.K.Looks.them c.args.looks.now) (start []) refl c.requires.rests);
      few = omega (arith, ap length c.new-trail.ensures);
      them = refl;
      untouched = λ none. (refl, refl, refl);
    }

pub returns-in-Err-clause-serves : goal.returns-in-Err-clause-serves
returns-in-Err-clause-serves g c =
    serves-none _ _ _ (g.L.Link.shown c.next_asked.new.link) c.next_asked.new.session c.args.most c.in-Err.end
    c.loop-alloc.invariant.serving (omega (arith, c.len.ensures, c.loop-alloc-test.true)) c.in-Err.ensures.none

pub reply-requires-clause-asking : goal.reply-requires-clause-asking
reply-requires-clause-asking g c = c.in-Ok.ensures.found.asking

pub returns-in-Some-clause-serves : goal.returns-in-Some-clause-serves
returns-in-Some-clause-serves g c =
    follows-at _ (Some c.in-Some.end) c.loop-alloc.invariant.them
    (c.in-Some.ensures.follows (point_of (g.L.Link.shown c.args.link.now) (g.K.Looks.views c.args.looks.now)
    c.args.session.now []) c.args.most) (record {
      serving = Serving-takes _ _ _ (g.L.Link.shown c.next_asked.new.link) c.next_asked.new.session
          c.in-Ok.ensures.found.taken c.loop-alloc.invariant.serving c.in-Ok.ensures.found.takes;
      few = omega (arith, c.len.ensures, c.loop-alloc-test.true);
      asking = c.in-Ok.ensures.found.asking;
    })

pub loop-alloc-preserved : goal.loop-alloc-preserved
loop-alloc-preserved g c =
    let goes = follows-at _ None c.loop-alloc.invariant.them
    (c.in_default.ensures.follows (point_of (g.L.Link.shown c.args.link.now) (g.K.Looks.views c.args.looks.now)
    c.args.session.now []) c.args.most) (record {
      serving = Serving-takes _ _ _ (g.L.Link.shown c.next_asked.new.link) c.next_asked.new.session
          c.in-Ok.ensures.found.taken c.loop-alloc.invariant.serving c.in-Ok.ensures.found.takes;
      few = omega (arith, c.len.ensures, c.loop-alloc-test.true);
      asking = c.in-Ok.ensures.found.asking;
    }) in
    record {
      serving = goes.0;
      few = goes.1;
      them = c.in_default.ensures.same ∙ c.loop-alloc.invariant.them;
      untouched = λ none. absurd (omega (arith, none, c.len.ensures, c.loop-alloc-test.true));
    }

pub loop-alloc-smaller : goal.loop-alloc-smaller
loop-alloc-smaller g c =
    let more = c.in_default.ensures.longer refl in omega (arith, more, c.len.ensures, c.loop-alloc-test.true)

pub returns-clause-serves : goal.returns-clause-serves
returns-clause-serves g c =
    serves-enough _ _ _ c.args.most c.loop-alloc.invariant.serving
    (omega (arith, c.loop-alloc.invariant.few, c.len.ensures, c.loop-alloc-test.false))

pub returns-clause-rests : goal.returns-clause-rests
returns-clause-rests g c = λ _. rests-at c.loop-alloc.session _ _ c.loop-alloc.invariant.serving.session_is

-- ---- no reply is asked for

pub returns-in-Err-clause-nothing : goal.returns-in-Err-clause-nothing
returns-in-Err-clause-nothing g c = λ none. absurd (omega (arith, none, c.len.ensures, c.loop-alloc-test.true))

pub returns-in-Err-clause-untouched : goal.returns-in-Err-clause-untouched
returns-in-Err-clause-untouched g c = λ none. absurd (omega (arith, none, c.len.ensures, c.loop-alloc-test.true))

pub returns-in-Some-clause-nothing : goal.returns-in-Some-clause-nothing
returns-in-Some-clause-nothing g c = λ none. absurd (omega (arith, none, c.len.ensures, c.loop-alloc-test.true))

pub returns-in-Some-clause-untouched : goal.returns-in-Some-clause-untouched
returns-in-Some-clause-untouched g c = λ none. absurd (omega (arith, none, c.len.ensures, c.loop-alloc-test.true))

pub returns-clause-nothing : goal.returns-clause-nothing
returns-clause-nothing g c = λ none.
    ap (λ (marks : List Mark). (stops.Enough, marks))
    (nil_from_length c.loop-alloc.trail (omega (arith, none, c.loop-alloc.invariant.few)))

pub returns-clause-untouched : goal.returns-clause-untouched
returns-clause-untouched g c = c.loop-alloc.invariant.untouched

-- What a connection shows after its session learns more of the log.
use Rattle.std.proofs.Common.{◌≡◌, ◌≤◌, ℕ, max, Bool, true, false, ◌&&◌, cond, List, length, Option, refl, sym, ap, subst, ◌∙◌, arith}
use Rattle.std.proofs.lemmas.Bool.{le-leb}
use Rattle.fm_model.specs.declared.op.Op.{Op}
use Rattle.fm_model.specs.declared.proto.Proto.{Proto}
use Rattle.web_session.specs.State.{resting, State}
use Rattle.dap_reply.specs.Parts.{Parts}
use Rattle.pub_core.specs.declared.connection.Connection.{Connection}
use Rattle.pub_core.specs.declared.event.Event.TheVariants.{Learn}
use Rattle.pub_core.specs.Happening.{after, begun, closed, effect_of, is_last_before, is_possible_to, settled}
use Rattle.pub_core.specs.Shown.{IsShown, Stands}
use Rattle.pub_core.specs.Shown.Stands.{at_end, at_rest, in_reply}
use Rattle.pub_core.specs.World.{is_due, is_idle, items_fed, next_item, output_of, rests, script_in, SessionState}
use Rattle.pub_core.proofs.EndSteps.{cond-same}
use Rattle.pub_core.proofs.Replying.{closed-reply}
use Rattle.pub_core.proofs.Resting.{closed-rest}
use Rattle.pub_core.proofs.ShownSteps.{stands-reply, stands-rest}
use Rattle.pub_core.proofs.Steps.{after-yes, begun-no}

knowing : SessionState → ℕ → SessionState
knowing s n = record s { seen = n }

script-knowing : (proto : Proto) (log : List Op) (s : SessionState) (n : ℕ)
    → script_in proto log (knowing s n) ≡ script_in proto log s
unfolding script_in knowing
script-knowing proto log s n = refl

stands-knowing : {proto : Proto} {log : List Op} {s : SessionState} {machine : State} {plan : Option Parts} (n : ℕ)
    → Stands proto log s machine plan → Stands proto log (knowing s n) machine plan
unfolding knowing
stands-knowing {proto} {log} {s} n (at_rest left r is) = stands-rest (record {
  done = r.done;
  reads = r.reads;
  count = r.count;
  all_sent = r.all_sent ∙ ap length (sym (script-knowing proto log s n));
  goes_on = r.goes_on;
  stays = r.stays;
}) (is ∙ ap (resting left) (sym r.count))
stands-knowing {proto} {log} {s} n (in_reply left item before reply from r plan is) =
    stands-reply (length r.done) (record {
      done = r.done;
      reads = r.reads;
      item_is = r.item_is;
      count = r.count;
      script_is = script-knowing proto log s n ∙ r.script_is;
      sent_is = r.sent_is;
      some = r.some;
      stays = r.stays;
    }) plan (omega (arith, r.count)) is
stands-knowing n (at_end end phase ended) = at_end end phase ended

closed-stands : {proto : Proto} {log : List Op} {s : SessionState} {machine : State} {plan : Option Parts}
    → Stands proto log s machine plan → closed proto log s ≡ s
unfolding closed
closed-stands (at_rest left r is) = closed-rest r
closed-stands (in_reply left item before reply from r plan is) = closed-reply r
closed-stands {proto} {log} {s} (at_end end phase ended) =
    let same : record s { ended = true } ≡ s = ap (λ (b : Bool). record s { ended = b }) (sym ended) in
    ap (λ (x : SessionState). cond (rests proto log s && is_last_before (items_fed s) (length s.revs)) x s) same
    ∙ cond-same (rests proto log s && is_last_before (items_fed s) (length s.revs)) s

due-knowing : (proto : Proto) (log : List Op) (s : SessionState) (n : ℕ)
    → is_due proto log (knowing s n) ≡ is_due proto log s
unfolding is_due is_idle rests next_item script_in knowing
due-knowing proto log s n = refl

output-knowing : (proto : Proto) (log : List Op) (s : SessionState) (n : ℕ)
    → output_of proto log (knowing s n) ≡ output_of proto log s
unfolding output_of script_in knowing
output-knowing proto log s n = refl

pub shown-learnt : {proto : Proto} {log : List Op} {c : Connection} {s : SessionState} (number count seen : ℕ)
    → IsShown proto log c s → count ≤ length log → seen ≡ max c.seen count
    → IsShown proto log (record c { seen = seen }) (after proto log (Learn number count) s)
unfolding is_possible_to effect_of settled knowing
shown-learnt {proto} {log} {c} {s} number count seen shown known is =
    let n : ℕ = max s.seen count in
    let stands : Stands proto log (knowing s n) c.session c.plan = stands-knowing n shown.shows.stands in
    let due : is_due proto log (knowing s n) ≡ false = due-knowing proto log s n ∙ shown.due in
    subst (IsShown proto log (record c { seen = seen }))
    (sym (after-yes proto log (Learn number count) s (le-leb count (length log) known)
    ∙ ap (begun proto log) (closed-stands stands) ∙ begun-no proto log (knowing s n) due))
    (record {
      shows = record {
        output_is = shown.shows.output_is ∙ sym (output-knowing proto log s n);
        seen_is = is ∙ ap (λ (k : ℕ). max k count) shown.shows.seen_is;
        seen_within = omega (arith, known, shown.shows.seen_within);
        revs_within = shown.shows.revs_within;
        stands = stands;
      };
      due = due;
    })

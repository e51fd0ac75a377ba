-- A link of a door that is out, one step after the other.
use Rattle.std.proofs.Common.{◌≡◌, ℕ, Bool, List, ◌++◌, Option, Some, None, refl, sym, ap, subst, ◌∙◌, append_assoc}
use Rattle.dev_traits.specs.Shown.{LinkShown}
use Rattle.web_session.specs.declared.action.End.{End}
use Rattle.dap_reply.specs.Collections.{Collections, Views}
use Rattle.srv_conn.specs.declared.connection.Connection.{Connection}
use Rattle.srv_conn.specs.Out.{IsOut, LooksFor, MOST_REPLIES, Own, StaysOut, WentOn}
use Rattle.srv_conn.specs.ServesMany.{point_of, Point}
use Rattle.srv_conn.specs.SoFar.{SoFar}
use Rattle.srv_conn.proofs.OutLemmas.{no-looks}

looks-then : (own own1 own2 : Own) (views views1 views2 : Views) → LooksFor own own1 views views1
    → LooksFor own1 own2 views1 views2 → LooksFor own own2 views views2
looks-then own own1 own2 views views1 views2 one two = record {
  more = λ number. one.more number ++ two.more number;
  own_is = λ number. two.own_is number ∙ ap (λ (l : List ℕ). l ++ two.more number) (one.own_is number)
      ∙ append_assoc (own.views.looks number) (one.more number) (two.more number);
  looks_are = λ number. two.looks_are number ∙ ap (λ (l : List ℕ). l ++ two.more number) (one.looks_are number)
      ∙ append_assoc (views.looks number) (one.more number) (two.more number);
}

module _ {L : Type 0} {shown : L → LinkShown} {them : Collections} {start : Point} where
  -- nothing was done
  pub out-same : (views : Views) (own : Own) (connection : Connection L)
      → IsOut shown them start views.seen own connection
      → StaysOut shown them start own connection views views
  out-same views own connection out =
      record { own' = own; is_out = out; looks = no-looks own own views (λ number. refl) }

  -- a step follows on others
  pub went-then : (views views1 views2 : Views) (own : Own) (connection1 connection2 : Connection L)
      (end : Option End) → StaysOut shown them start own connection1 views views1
      → ((own1 : Own) → IsOut shown them start views1.seen own1 connection1
      → WentOn shown them start own1 connection2 views1 views2 end)
      → WentOn shown them start own connection2 views views2 end
  went-then views views1 views2 own connection1 connection2 None stays went =
      let w = went stays.own' stays.is_out in
      record {
        own' = w.own';
        is_out = w.is_out;
        looks = looks-then own stays.own' w.own' views views1 views2 stays.looks w.looks;
      }
  went-then views views1 views2 own connection1 connection2 (Some end) stays went =
      let w = went stays.own' stays.is_out in
      record {
        own' = w.own';
        serves = w.serves;
        behind = w.behind;
        looks = looks-then own stays.own' w.own' views views1 views2 stays.looks w.looks;
      }

  -- a link that rests shows what it did
  pub rested : (own : Own) (connection' : Connection L) (link : L) (views views' : Views)
      → shown link ≡ shown connection'.link → StaysOut shown them start own connection' views views'
      → StaysOut shown them start own (record connection' { link = link }) views views'
  rested own connection' link views views' same w = record {
    own' = w.own';
    is_out = record {
      was_fresh = w.is_out.was_fresh;
      so_far = subst (λ (l : LinkShown). SoFar them start (point_of l w.own'.views
          connection'.session w.own'.trail) MOST_REPLIES connection'.doing) (sym same) w.is_out.so_far;
      behind = w.is_out.behind;
      revisions_are = w.is_out.revisions_are;
      few = w.is_out.few;
    };
    looks = w.looks;
  }

-- a step over the collections of the beginning
pub went-at : {L : Type 0} {shown : L → LinkShown} {them first : Collections} {connection : Connection L}
    (connection' : Connection L) (views views' : Views) (end : Option End) → them ≡ first
    → ((start : Point) (own : Own) → IsOut shown them start views.seen own connection
    → WentOn shown them start own connection' views views' end)
    → (start : Point) (own : Own) → IsOut shown first start views.seen own connection
    → WentOn shown first start own connection' views views' end
went-at {shown = shown} {connection = connection} connection' views views' end same went =
    subst (λ (p : Collections). (start : Point) (own : Own) → IsOut shown p start views.seen own connection
    → WentOn shown p start own connection' views views' end) same went

-- What is asked of a collection, and how it is delivered.
use Rattle.std.proofs.Common.{◌≡◌, ℕ, List, Result, Ok, Err, refl, sym, ap, ap₂, subst, ◌∙◌}
use Rattle.fm_base.specs.Chain.{◌>>=◌, fault_as}
use Rattle.fm_model.specs.declared.op.Op.{Op}
use Rattle.fm_model.specs.declared.proto.Proto.{Proto}
use Rattle.fm_edition.specs.Held.{Held}
use Rattle.fm_edition.specs.Log.{held_of}
use Rattle.dev_traits.specs.Shown.{LinkShown}
use Rattle.pub_look.specs.History.{History}
use Rattle.dap_reply.specs.declared.fault.DapFault.{DapFault}
use Rattle.dap_reply.specs.Fault.{fault_code}
use Rattle.fm_twod.specs.declared.asked.TwodAsk.{TwodAsk}
use Rattle.fm_twod.specs.Asked.{twod_of}
use Rattle.fm_twod.specs.Parts.{Body, bytes_of}
use Rattle.srv_alone.specs.declared.end.End.{End}
use Rattle.srv_alone.specs.declared.end.End.TheVariants.{Refused}
use Rattle.srv_views.specs.Sending.{Delivers}
use Rattle.srv_views.specs.Views.{asked_in, twod_body, twod_bytes}

-- a look that leaves the operations answers by them
pub answered : {A : Type 0} (question : Held → Result A DapFault) (old new : History) (answer : Result A DapFault)
    → new.proto ≡ old.proto → new.seen ≡ old.seen → answer ≡ question (held_of new.proto new.seen)
    → asked_in question old ≡ fault_as fault_code answer
answered question old new answer proto seen is =
    ap₂ (λ (p : Proto) (ops : List Op). fault_as fault_code (question (held_of p ops))) (sym proto) (sym seen)
    ∙ ap (λ r. fault_as fault_code r) (sym is)

-- a step gave a value, and what follows of it was sent
pub sent-next : {A : Type 0} (found : Result A ℕ) (value : A) (next : A → Result (List ℕ) ℕ) (end : End)
    (link link' : LinkShown) → found ≡ Ok value → Delivers end (next value) link link'
    → Delivers end (found >>= next) link link'
sent-next found value next end link link' is sends =
    subst (λ (defined : Result (List ℕ) ℕ). Delivers end defined link link') (sym (ap (λ r. r >>= next) is)) sends

-- it has a fault
pub refused-by : {A : Type 0} (found : Result A ℕ) (code : ℕ) (next : A → Result (List ℕ) ℕ) (link link' : LinkShown)
    → found ≡ Err code → link' ≡ link → Delivers (Refused code) (found >>= next) link link'
refused-by found code next link link' is same =
    subst (λ (defined : Result (List ℕ) ℕ). Delivers (Refused code) defined link link')
    (sym (ap (λ r. r >>= next) is)) (refl, same)

pub twod-asked : (ask : TwodAsk) (old new : History) (answer : Result Body DapFault) → new.proto ≡ old.proto
    → new.seen ≡ old.seen → answer ≡ twod_of (held_of new.proto new.seen) ask
    → twod_body ask old ≡ fault_as fault_code answer
unfolding twod_body
twod-asked ask = answered (λ (held : Held). twod_of held ask)

-- the bytes of the view were sent
pub delivers-sent : (ask : TwodAsk) (history : History) (body : Body) (end : End) (link link' : LinkShown)
    → twod_body ask history ≡ Ok body → Delivers end (Ok (bytes_of body)) link link'
    → Delivers end (twod_bytes ask history) link link'
unfolding twod_bytes
delivers-sent ask history body end link link' is sends =
    sent-next (twod_body ask history) body (λ (b : Body). Ok (bytes_of b)) end link link' is sends

-- the view is refused
pub delivers-refused : (ask : TwodAsk) (history : History) (code : ℕ) (link link' : LinkShown)
    → twod_body ask history ≡ Err code → link' ≡ link → Delivers (Refused code) (twod_bytes ask history) link link'
unfolding twod_bytes
delivers-refused ask history code link link' is same =
    refused-by (twod_body ask history) code (λ (b : Body). Ok (bytes_of b)) link link' is same

pub ruleset delivered = (delivers-sent, delivers-refused)

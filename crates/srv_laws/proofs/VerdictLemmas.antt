-- Verdicts by what was seen of a log are right by the whole log.
use Rattle.std.proofs.Common.{◌≡◌, ◌⊎◌, ◌≤◌, inl, inr, ℕ, ℤ, ◌+◌, List, ◌++◌, length, take, false, All, Option, Some, None, Result, Ok, Err, sym, ap, subst, ◌∙◌, arith, length-append}
use Rattle.std.specs.Prelude.{IsSome, slice_get}
use Rattle.std.proofs.lemmas.List.{take-append-le}
use Rattle.std.proofs.lemmas.List.Elements.{All-weaker}
use Rattle.dev_traits.specs.declared.clock.Expiry.{Expiry}
use Rattle.dev_traits.specs.declared.clock.Expiry.TheVariants as expiries
use Rattle.dev_traits.specs.declared.inbox.Verdict.{Verdict}
use Rattle.dev_traits.specs.declared.inbox.Verdict.TheVariants as verdicts
use Rattle.dev_traits.specs.Inbox.{Post}
use Rattle.fm_model.specs.declared.loaded.Loaded.{Loaded}
use Rattle.fm_model.specs.declared.op.Op.{Op}
use Rattle.fm_model.specs.declared.op.Op.TheVariants.{Put, Expire, Retract}
use Rattle.fm_model.specs.declared.proto.Proto.{Proto}
use Rattle.fm_model.specs.Collection.{coll, full_at, holds, holds_older}
use Rattle.pub_look.specs.History.{Continues}
use Rattle.srv_ingest.specs.Expires.{IsRightAt, SettledMoment}
use Rattle.srv_ingest.specs.Ingests.{AllRight, IsRight, Settlement}
use Rattle.srv_verdict.specs.Verdicts.{IsExpiry, IsNumbered, IsVerdictOnFile, IsVerdictOnRetraction}
use Rattle.srv_ingest.specs.Verdicts.{cutoff_at, IsVerdict, taken_back}
use Rattle.srv_laws.proofs.RequestLemmas.{front-there}

-- an operation has its number in the log too
numbered : (ops log : List Op) (number : ℕ) (op : Op) → Continues ops log → IsNumbered ops number op
    → IsNumbered log number op
numbered ops log number op more is = record {
  index = is.index;
  number_is = is.number_is;
  op_is = ap (λ (l : List Op). slice_get l is.index) more.1 ∙ front-there ops more.0 is.index op is.op_is;
}

-- what was seen at a look is the beginning of the log
looked : (ops log : List Op) (count : ℕ) (P : List Op → Type 0) → Continues ops log
    → (count ≤ length ops) × P (take count ops) → (count ≤ length log) × P (take count log)
looked ops log count P more is =
    let whole : take count log ≡ take count ops =
    ap (take count) more.1 ∙ take-append-le count ops more.0 is.0 in
    let long : length log ≡ length ops + length more.0 = ap length more.1 ∙ length-append ops more.0 in
    (omega (arith, long, is.0), subst P (sym whole) is.1)

file-verdict : (ops log : List Op) (wanted : Result Loaded Verdict) (verdict : Verdict) → Continues ops log
    → IsVerdictOnFile ops wanted verdict → IsVerdictOnFile log wanted verdict
file-verdict ops log (Err given) verdict more is = is
file-verdict ops log (Ok file) (verdicts.Published number) more is = numbered ops log number (Put file) more is
file-verdict ops log (Ok file) (verdicts.Full count) more is =
    looked ops log count (λ seen. IsSome (full_at (coll seen) (Put file))) more is
file-verdict ops log (Ok file) verdict more is = absurd is

retraction-verdict : (ops log : List Op) (name : List ℕ) (verdict : Verdict) → Continues ops log
    → IsVerdictOnRetraction ops name verdict → IsVerdictOnRetraction log name verdict
retraction-verdict ops log name (verdicts.Published number) more is = numbered ops log number (Retract name) more is
retraction-verdict ops log name (verdicts.NotHeld count) more is =
    looked ops log count (λ seen. holds (coll seen) name ≡ false) more is
retraction-verdict ops log name verdict more is = absurd is

name-verdict : (proto : Proto) (ops log : List Op) (content : List ℕ → Option (List ℕ)) (name : List ℕ)
    (back : Option (List ℕ)) (verdict : Verdict) → Continues ops log
    → IsVerdict proto ops content name back verdict → IsVerdict proto log content name back verdict
unfolding IsVerdict
name-verdict proto ops log content name (Some back) verdict more (inl short) = inl short
name-verdict proto ops log content name (Some back) verdict more (inr is) =
    inr (retraction-verdict ops log back verdict more is)
name-verdict proto ops log content name None verdict more (inl short) = inl short
name-verdict proto ops log content name None verdict more (inr is) = inr (file-verdict ops log _ verdict more is)

moment-verdict : (ops log : List Op) (cutoff : ℤ) (verdict : Expiry) → Continues ops log → IsExpiry ops cutoff verdict
    → IsExpiry log cutoff verdict
moment-verdict ops log cutoff (expiries.Expired number) more is = numbered ops log number (Expire cutoff) more is
moment-verdict ops log cutoff (expiries.Idle count) more is =
    looked ops log count (λ seen. holds_older (coll seen) cutoff ≡ false) more is
moment-verdict ops log cutoff expiries.Short more is = tt

-- the verdicts on the names of an inbox
pub all-names : (proto : Proto) (inbox : Option Post) (ops log : List Op) (settled : List Settlement)
    → Continues ops log → AllRight proto inbox ops settled → AllRight proto inbox log settled
all-names proto None ops log settled more right = right
all-names proto (Some post) ops log settled more right =
    All-weaker (IsRight proto post.content ops) (IsRight proto post.content log)
    (λ it is. name-verdict proto ops log post.content it.name (taken_back it.name) it.verdict more is) settled right

-- the verdicts on the moments of a clock
pub all-moments : (keep : ℕ) (epoch : ℤ) (ops log : List Op) (settled : List SettledMoment) → Continues ops log
    → All (IsRightAt keep epoch ops) settled → All (IsRightAt keep epoch log) settled
all-moments keep epoch ops log settled more right =
    All-weaker (IsRightAt keep epoch ops) (IsRightAt keep epoch log)
    (λ it is. moment-verdict ops log (cutoff_at it.moment keep epoch) it.verdict more is) settled right

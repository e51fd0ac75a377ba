-- Which device the end of `pull` blames.
use Rattle.std.proofs.Common.{◌≡◌, ◌⊎◌, ℕ, List, refl, sym, subst, ◌∙◌, arith, inl, inr, Result, Ok, Err}
use Rattle.fm_base.specs.declared.fail.Fail.{Fail}
use Rattle.fm_base.specs.declared.fail.Fail.TheVariants as fails
use Rattle.dev_traits.specs.declared.faults.Failed.{Failed}
use Rattle.dev_traits.specs.Cause.{count_after, one_more}
use Rattle.dev_traits.specs.Dial.{DialShown}
use Rattle.dev_traits.specs.Shown.{LinkShown, SinkShown}
use Rattle.dap_client.specs.declared.fault.PullEnd.{PullEnd}
use Rattle.dap_client.specs.declared.fault.PullEnd.TheVariants as pulls
use Rattle.dap_client.specs.declared.message.Message.{Message}
use Rattle.dap_client.specs.Pull.{HasPullCause}
use Rattle.srv_alone.specs.declared.end.End.{End}
use Rattle.srv_alone.specs.declared.end.End.TheVariants.{BadReply, BadWords, Done, FileFault, LinkFault, NoMemory, SinkFault}
use Rattle.srv_alone.proofs.StepBlameLemmas.{IsAtDevice}
use Rattle.srv_pull.specs.Pull.{Dials, HasFailedLink, no_link, RunsPull, Says, end_of}

-- the blame of the end of a run on its devices; none reads a file, and none opens a device
pub record Blamed {L : Type 0} (show : L → LinkShown) (end : End) (dial dial' : DialShown L) (out out' : SinkShown)
    : Type 0 where
  pub words : end ≡ BadWords → ⊥
  pub files : end ≡ FileFault → ⊥
  pub device : IsAtDevice end → ⊥
  pub sink : end ≡ SinkFault → out'.faults ≡ one_more out.faults
  pub link : end ≡ LinkFault → HasFailedLink show dial dial'

-- a dial that gave no link for want of one
lacked : (fail : Fail Failed) (before now : ℕ) → no_link fail ≡ pulls.LinkFault → now ≡ count_after before fail
    → now ≡ one_more before
lacked fails.NoMemory before now is faults = absurd cc
lacked (fails.Fault failed) before now is faults = faults

-- a link that failed, and that had no failed call before
failed : (pulled : Result Message PullEnd) (before now : ℕ) → pulled ≡ Err pulls.LinkFault → before ≡ 0
    → HasPullCause before now pulled → now ≡ 1
failed (Err pulls.LinkFault) before now is none cause = omega (arith, none, cause)
failed pulled before now is none cause = absurd cc

-- the link or the dialer failed
link_failed : {L : Type 0} (show : L → LinkShown) (address target : List ℕ) (pulled : Result Message PullEnd)
    (dial dial' : DialShown L) → Dials show address target pulled dial dial' → pulled ≡ Err pulls.LinkFault
    → HasFailedLink show dial dial'
link_failed show address target pulled dial dial' (inl lacks) is =
    let same : ◌≡◌ {A = Result Message PullEnd} (Err (no_link lacks.fail)) (Err pulls.LinkFault) =
    sym lacks.pulled_is ∙ is in
    inl (lacked lacks.fail dial.faults dial'.faults (cc) lacks.faults)
link_failed show address target pulled dial dial' (inr uses) is = inr (record {
  left = uses.left;
  before = _;
  held = uses.held;
  failed = failed pulled _ _ is uses.fresh.faults uses.over.cause;
})

-- what was written
said : {L : Type 0} (show : L → LinkShown) (address target : List ℕ) (pulled : Result Message PullEnd) (end : End)
    (dial dial' : DialShown L) (sink sink' : SinkShown) → Dials show address target pulled dial dial'
    → Says pulled end sink sink' → Blamed show end dial dial' sink sink'
said show address target (Ok message) Done dial dial' sink sink' dials says = record {
  words = λ e. cc;
  files = λ e. cc;
  device = λ d. d;
  sink = λ e. absurd cc;
  link = λ e. absurd cc;
}
said show address target (Ok message) SinkFault dial dial' sink sink' dials says = record {
  words = λ e. cc;
  files = λ e. cc;
  device = λ d. d;
  sink = λ e. says.faults;
  link = λ e. absurd cc;
}
said show address target (Ok message) end dial dial' sink sink' dials says = absurd says
said show address target (Err pulls.NoMemory) end dial dial' sink sink' dials says = record {
  words = λ e. let clash : NoMemory ≡ BadWords = sym says.0 ∙ e in cc;
  files = λ e. let clash : NoMemory ≡ FileFault = sym says.0 ∙ e in cc;
  device = λ d. subst (λ (e : End). IsAtDevice e) says.0 d;
  sink = λ e. let clash : NoMemory ≡ SinkFault = sym says.0 ∙ e in absurd cc;
  link = λ e. let clash : NoMemory ≡ LinkFault = sym says.0 ∙ e in absurd cc;
}
said show address target (Err pulls.LinkFault) end dial dial' sink sink' dials says = record {
  words = λ e. let clash : LinkFault ≡ BadWords = sym says.0 ∙ e in cc;
  files = λ e. let clash : LinkFault ≡ FileFault = sym says.0 ∙ e in cc;
  device = λ d. subst (λ (e : End). IsAtDevice e) says.0 d;
  sink = λ e. let clash : LinkFault ≡ SinkFault = sym says.0 ∙ e in absurd cc;
  link = λ e. link_failed show address target (Err pulls.LinkFault) dial dial' dials refl;
}
said show address target (Err (pulls.Fault fault)) end dial dial' sink sink' dials says = record {
  words = λ e. let clash : end_of (pulls.Fault fault) ≡ BadWords = sym says.0 ∙ e in cc;
  files = λ e. let clash : end_of (pulls.Fault fault) ≡ FileFault = sym says.0 ∙ e in cc;
  device = λ d. subst (λ (e : End). IsAtDevice e) says.0 d;
  sink = λ e. let clash : end_of (pulls.Fault fault) ≡ SinkFault = sym says.0 ∙ e in absurd cc;
  link = λ e. let clash : end_of (pulls.Fault fault) ≡ LinkFault = sym says.0 ∙ e in absurd cc;
}

-- a run blames a device where its last call failed
pub pull_blamed : {L : Type 0} (show : L → LinkShown) (address target : List ℕ) (end : End)
    (dial dial' : DialShown L) (sink sink' : SinkShown) → RunsPull show address target end dial dial' sink sink'
    → Blamed show end dial dial' sink sink'
pull_blamed show address target end dial dial' sink sink' runs =
    said show address target runs.pulled end dial dial' sink sink' runs.dials runs.says

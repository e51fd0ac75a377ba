-- A run of `pull`: a reply is read over a link that was dialled, and a line says what its values come to.
use Rattle.std.specs.Prelude.{◌≡◌, ◌⊎◌, ℕ, List, [], Option, Some, IfSome, Result, Ok, Err}
use Rattle.fm_base.specs.declared.fail.Fail.{Fail}
use Rattle.fm_base.specs.declared.fail.Fail.TheVariants as fails
use Rattle.dev_traits.specs.declared.faults.Failed.{Failed}
use Rattle.dev_traits.specs.Cause.{count_after, one_more}
use Rattle.dev_traits.specs.Dial.{DialShown, Exchange, after_dial, after_return}
use Rattle.dev_traits.specs.Door.{IsFresh}
use Rattle.dev_traits.specs.Shown.{LinkShown, SinkShown}
use Rattle.dap_client.specs.declared.fault.PullEnd.{PullEnd}
use Rattle.dap_client.specs.declared.fault.PullEnd.TheVariants as pulls
use Rattle.dap_client.specs.declared.message.Message.{Message}
use Rattle.dap_client.specs.Code.{client_code}
use Rattle.dap_client.specs.Pull.{HasPullCause, IfPulled, Pulls, PutsFront}
use Rattle.dap_client.specs.Reply.{request_text}
use Rattle.srv_alone.specs.declared.end.End.{End}
use Rattle.srv_alone.specs.declared.end.End.TheVariants.{BadReply, Done, LinkFault, NoMemory, SinkFault}
use Rattle.srv_alone.specs.Report.{CutsLine, Reports, WritesLine}
use Rattle.srv_pull.specs.Sums.{message_line}

-- why no reply was pulled where a dial gave no link
abbrev pub no_link : Fail Failed → PullEnd
no_link fails.NoMemory = pulls.NoMemory
no_link (fails.Fault failed) = pulls.LinkFault

-- A dial gave no link: the dialer failed, or memory ran out.
pub record LacksLink {L : Type 0} (address : List ℕ) (pulled : Result Message PullEnd) (dial dial' : DialShown L)
    : Type 0 where
  pub fail : Fail Failed
  pub pulled_is : pulled ≡ Err (no_link fail)
  pub held : dial'.held ≡ after_dial address (Err fail) dial.held
  pub faults : dial'.faults ≡ count_after dial.faults fail

-- A reply was pulled over a link so.
pub record PullsOver (address target : List ℕ) (pulled : Result Message PullEnd) (link link' : LinkShown)
    : Type 0 where
  pub pulls : IfPulled pulled (Pulls (request_text address target) link.held link'.held)
  pub put : PutsFront (request_text address target) link.held link'.held
  pub cause : HasPullCause link.faults link'.faults pulled

-- A dial gave a link, a reply was pulled over it, and it was given back.
pub record UsesLink {L : Type 0} (show : L → LinkShown) (address target : List ℕ) (pulled : Result Message PullEnd)
    (dial dial' : DialShown L) : Type 0 where
  -- as it came, and as it was left
  pub link : L
  pub left : L
  pub next : IfSome dial.held (λ exchange. exchange.link ≡ Some link)
  pub fresh : IsFresh (show link)
  pub over : PullsOver address target pulled (show link) (show left)
  pub held : dial'.held ≡ after_return left (after_dial {E = Failed} address (Ok link) dial.held)
  pub faults : dial'.faults ≡ dial.faults

-- The address was dialled once, unless memory ran out, and a reply was pulled over the link that this gave, if it did.
abbrev pub Dials : {L : Type 0} → (L → LinkShown) → List ℕ → List ℕ → Result Message PullEnd → DialShown L
    → DialShown L → Type 0
Dials show address target pulled dial dial' =
    LacksLink address pulled dial dial' ⊎ UsesLink show address target pulled dial dial'

-- how a command ends that pulled no message
abbrev pub end_of : PullEnd → End
end_of pulls.NoMemory = NoMemory
end_of pulls.LinkFault = LinkFault
end_of (pulls.Fault fault) = BadReply (client_code fault)

-- The line of a message was written, or a front of it where the sink failed.
abbrev pub SaysMessage : Message → End → SinkShown → SinkShown → Type 0
SaysMessage message Done sink sink' = WritesLine (message_line message) sink sink'
SaysMessage message SinkFault sink sink' = CutsLine (message_line message) sink sink'
SaysMessage message end sink sink' = ⊥

-- How the command ended and what was written: the line of the message that was pulled, or why there is none.
abbrev pub Says : Result Message PullEnd → End → SinkShown → SinkShown → Type 0
Says (Ok message) end sink sink' = SaysMessage message end sink sink'
Says (Err why) end sink sink' = (end ≡ end_of why) × Reports (end_of why) [] sink sink'

-- A run of `pull` ended so, and was reported.
pub record RunsPull {L : Type 0} (show : L → LinkShown) (address target : List ℕ) (end : End)
    (dial dial' : DialShown L) (sink sink' : SinkShown) : Type 0 where
  pub pulled : Result Message PullEnd
  pub dials : Dials show address target pulled dial dial'
  pub says : Says pulled end sink sink'

-- A link was given back that has a failed call.
pub record GivesFailed {L : Type 0} (show : L → LinkShown) (dial' : DialShown L) : Type 0 where
  pub left : L
  pub before : Option (Exchange L)
  pub held : dial'.held ≡ after_return left before
  pub failed : (show left).faults ≡ 1

-- A call of the dialer failed, or one of the link that it gave.
abbrev pub HasFailedLink : {L : Type 0} → (L → LinkShown) → DialShown L → DialShown L → Type 0
HasFailedLink show dial dial' = (dial'.faults ≡ one_more dial.faults) ⊎ GivesFailed show dial'

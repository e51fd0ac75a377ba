-- One action of a connection, by what its link shows, its session and what is being done.
use Rattle.std.specs.Prelude.{⊤, ◌≡◌, ◌⊎◌, ℕ, ◌+◌, ◌<◌, ◌≤◌, List, length, take, drop, Option, Some, None}
use Rattle.dev_traits.specs.Cause.{one_more}
use Rattle.dev_traits.specs.Link.{after_put}
use Rattle.dev_traits.specs.Shown.{LinkShown}
use Rattle.web_session.specs.declared.action.Action.{Action}
use Rattle.web_session.specs.declared.action.Action.TheVariants.{Read, Ask, Send, Close}
use Rattle.web_session.specs.declared.action.Asked.{Asked}
use Rattle.web_session.specs.declared.action.End.{End}
use Rattle.web_session.specs.declared.action.End.TheVariants as ends
use Rattle.web_session.specs.declared.phase.Phase.TheVariants.{Waiting, Asking, Ended}
use Rattle.web_session.specs.State.{end_after, replied, State}
use Rattle.dap_reply.specs.Head.{no_memory_reply}
use Rattle.dap_reply.specs.Parts.{bytes_of, Parts as Plan}
use Rattle.dap_reply.specs.Served.{held_bytes, IsAtRest}
use Rattle.srv_action.specs.declared.acting.Acted.{Acted}
use Rattle.srv_action.specs.declared.acting.Acted.TheVariants as acts
use Rattle.srv_action.specs.declared.doing.Doing.{Doing}
use Rattle.srv_action.specs.declared.doing.Doing.TheVariants.{Reading, Replying, Leaving}
use Rattle.srv_action.specs.Taking.{EndsReading, TakesSome}

-- ---- where a connection stands

-- requests are read
abbrev pub IsReading : Doing → Type 0
IsReading Reading = ⊤
IsReading (Replying plan sent) = ⊥
IsReading (Leaving sent) = ⊥

-- it is said that memory ran out
abbrev pub IsLeaving : Doing → Type 0
IsLeaving Reading = ⊥
IsLeaving (Replying plan sent) = ⊥
IsLeaving (Leaving sent) = ⊤

-- a session asks for a reply
abbrev pub IsAsking : State → Type 0
IsAsking session = (asked : Asked) × (session.phase ≡ Asking asked)

-- An action may be done: the session rests while requests are read, and asks while a reply is sent. No more has gone
-- than there is.
abbrev pub IsReady : Doing → State → Type 0
IsReady Reading session = IsAtRest session
IsReady (Replying plan sent) session = IsAsking session × (sent ≤ length (bytes_of plan))
IsReady (Leaving sent) session = sent ≤ length no_memory_reply

-- what a link shows, its session, and what is being done
pub record Stand : Type 0 where
  pub link : LinkShown
  pub session : State
  pub doing : Doing

-- the same, by its members
abbrev pub stand : LinkShown → State → Doing → Stand
stand link session doing = record { link = link; session = session; doing = doing }

-- where a connection starts to leave
abbrev pub starts_leaving : Doing
starts_leaving = Leaving 0

-- ---- what becomes of a link

-- a link shows the same
pub record IsSame (before after : LinkShown) : Type 0 where
  pub held_is : after.held ≡ before.held
  pub faults_are : after.faults ≡ before.faults

-- these bytes were put on a link
pub record IsPut (bytes : List ℕ) (before after : LinkShown) : Type 0 where
  pub put_is : after.held ≡ after_put bytes before.held
  pub faults_are : after.faults ≡ before.faults

-- a call of a link failed
pub record HasBroken (before after : LinkShown) : Type 0 where
  pub held_is : after.held ≡ before.held
  pub faults_are : after.faults ≡ one_more before.faults

-- ---- reading

-- a session that waits for bytes ends, since input is over or a call failed
pub record EndsWaiting (before after : LinkShown) (session session' : State) (end : End) : Type 0 where
  pub waiting : session.phase ≡ Waiting
  pub ended : session'.phase ≡ Ended end
  pub held_is : after.held ≡ before.held
  pub why : EndsReading before after (held_bytes session) end

-- bytes are read for a session that rests, unless it asks for a reply
abbrev pub Reads : LinkShown → LinkShown → State → State → Acted → Type 0
Reads before after session session' acts.Moved = TakesSome before after session session'
Reads before after session session' (acts.Asks asked) =
    IsSame before after × (session' ≡ session) × (session.phase ≡ Asking asked)
Reads before after session session' (acts.Sent count total) = ⊥
Reads before after session session' acts.Finished = ⊥
Reads before after session session' acts.Later = IsSame before after × (session' ≡ session)
Reads before after session session' (acts.Ended end) = EndsWaiting before after session session' end

-- ---- sending a reply

-- the end that an action says
abbrev pub end_said : Action → Option End
end_said (Close end) = Some end
end_said (Read count) = None
end_said (Ask asked) = None
end_said (Send from) = None

-- more bytes of a reply were sent
pub record SendsMore (before after : LinkShown) (session session' : State) (bytes : List ℕ)
    (sent sent' count total : ℕ) : Type 0 where
  pub link : IsPut (take count (drop sent bytes)) before after
  pub session_is : session' ≡ session
  pub some : 0 < count
  pub sent_is : sent' ≡ sent + count
  pub total_is : total ≡ sent'
  pub within : sent' ≤ length bytes

-- a reply is whole, and the session goes on or ends
pub record IsDone (before after : LinkShown) (session session' : State) (bytes : List ℕ) (sent : ℕ)
    (end : Option End) : Type 0 where
  pub link : IsSame before after
  pub whole : sent ≡ length bytes
  pub told : (asked : Asked) → session.phase ≡ Asking asked
      → (session' ≡ replied session asked) × (end ≡ end_after asked session.before)

-- the link failed within a reply, and the session ends
pub record IsBroken (before after : LinkShown) (session' : State) (end : End) : Type 0 where
  pub link : HasBroken before after
  pub ended : session'.phase ≡ Ended ends.LinkFault
  pub end_is : end ≡ ends.LinkFault

-- the bytes of a reply are sent from an offset
abbrev pub Sends : LinkShown → LinkShown → State → State → List ℕ → ℕ → ℕ → Acted → Type 0
Sends before after session session' bytes sent sent' acts.Moved = ⊥
Sends before after session session' bytes sent sent' (acts.Asks asked) = ⊥
Sends before after session session' bytes sent sent' (acts.Sent count total) =
    SendsMore before after session session' bytes sent sent' count total
Sends before after session session' bytes sent sent' acts.Finished =
    (sent' ≡ sent) × IsDone before after session session' bytes sent None
Sends before after session session' bytes sent sent' acts.Later =
    IsSame before after × (session' ≡ session) × (sent' ≡ sent)
Sends before after session session' bytes sent sent' (acts.Ended end) =
    (sent' ≡ sent) × (IsDone before after session session' bytes sent (Some end) ⊎ IsBroken before after session' end)

-- what an action did with which a reply was whole
abbrev pub acted_by : Option End → Acted
acted_by None = acts.Finished
acted_by (Some end) = acts.Ended end

-- ---- leaving

-- more bytes of the text were sent that says that memory ran out
pub record SaysMore (before after : LinkShown) (said said' : ℕ) : Type 0 where
  pub count : ℕ
  pub link : IsPut (take count (drop said no_memory_reply)) before after
  pub some : 0 < count
  pub said_is : said' ≡ said + count
  pub within : said' ≤ length no_memory_reply

-- the text is whole, or the link failed within it
pub record IsParted (before after : LinkShown) (said said' : ℕ) (end : End) : Type 0 where
  pub said_is : said' ≡ said
  pub end_is : end ≡ ends.NoMemory
  pub held_is : after.held ≡ before.held
  pub whole : ((said ≡ length no_memory_reply) × (after.faults ≡ before.faults))
      ⊎ (after.faults ≡ one_more before.faults)

-- the text is sent that says that memory ran out
abbrev pub Parts : LinkShown → LinkShown → ℕ → ℕ → Acted → Type 0
Parts before after said said' acts.Moved = SaysMore before after said said'
Parts before after said said' (acts.Asks asked) = ⊥
Parts before after said said' (acts.Sent count total) = ⊥
Parts before after said said' acts.Finished = ⊥
Parts before after said said' acts.Later = IsSame before after × (said' ≡ said)
Parts before after said said' (acts.Ended end) = IsParted before after said said' end

-- ---- all of them

-- what is done after an action on a reply
abbrev pub doing_after : Plan → ℕ → Acted → Doing
doing_after plan sent acts.Finished = Reading
doing_after plan sent acts.Moved = Replying plan sent
doing_after plan sent (acts.Asks asked) = Replying plan sent
doing_after plan sent (acts.Sent count total) = Replying plan sent
doing_after plan sent acts.Later = Replying plan sent
doing_after plan sent (acts.Ended end) = Replying plan sent

-- an action on a reply, after which this is being done
pub record ActsOnReply (before after : Stand) (plan : Plan) (sent : ℕ) (acted : Acted) (left_as : Plan → ℕ → Doing)
    : Type 0 where
  pub sent' : ℕ
  pub doing_is : after.doing ≡ left_as plan sent'
  pub sends : Sends before.link after.link before.session after.session (bytes_of plan) sent sent' acted

-- an action on the text that says that memory ran out
pub record ActsOnText (before after : Stand) (said : ℕ) (acted : Acted) : Type 0 where
  pub said' : ℕ
  pub doing_is : after.doing ≡ Leaving said'
  pub session_is : after.session ≡ before.session
  pub parts : Parts before.link after.link said said' acted

-- an action, by what is being done; after one on a reply this is being done
abbrev pub ActsIn : Doing → Stand → Stand → Acted → (Plan → ℕ → Doing) → Type 0
ActsIn Reading before after acted left_as =
    (after.doing ≡ Reading) × Reads before.link after.link before.session after.session acted
ActsIn (Replying plan sent) before after acted left_as = ActsOnReply before after plan sent acted left_as
ActsIn (Leaving said) before after acted left_as = ActsOnText before after said acted

-- an action that leaves a reply that is whole where it was
abbrev pub ActsOn : Stand → Stand → Acted → Type 0
ActsOn before after acted = ActsIn before.doing before after acted Replying

-- what is being done after an action: once a reply is whole, requests are read
abbrev pub settled : Doing → Acted → Doing
settled doing acts.Finished = Reading
settled doing acts.Moved = doing
settled doing (acts.Asks asked) = doing
settled doing (acts.Sent count total) = doing
settled doing acts.Later = doing
settled doing (acts.Ended end) = doing

-- one action of a connection
abbrev pub Acts : Stand → Stand → Acted → Type 0
Acts before after acted = ActsIn before.doing before after acted (λ plan sent. doing_after plan sent acted)

-- an action after which the session hasn't ended
abbrev pub IsOngoing : Acted → Type 0
IsOngoing acts.Moved = ⊤
IsOngoing (acts.Asks asked) = ⊤
IsOngoing (acts.Sent count total) = ⊤
IsOngoing acts.Finished = ⊤
IsOngoing acts.Later = ⊤
IsOngoing (acts.Ended end) = ⊥

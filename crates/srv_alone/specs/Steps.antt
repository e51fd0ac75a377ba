-- The steps of `once`, and how each takes a run on or ends it.
use Rattle.std.specs.Prelude.{◌≡◌, ◌⊎◌, ℕ, ◌<◌, List, [], ◌∷◌, length, true}
use Rattle.dev_traits.specs.Shown.{FilesShown, LinkShown}
use Rattle.pub_look.specs.History.{History}
use Rattle.web_session.specs.declared.action.End.{End as LinkEnd}
use Rattle.web_session.specs.declared.action.End.TheVariants as ends
use Rattle.web_session.specs.declared.phase.Phase.TheVariants.{Ended}
use Rattle.web_session.specs.State.{State}
use Rattle.dap_reply.specs.Served.{IsAtRest}
use Rattle.dap_reply.specs.declared.served.Mark.{Mark}
use Rattle.dap_reply.specs.declared.served.Stop.{Stop}
use Rattle.dap_reply.specs.declared.served.Stop.TheVariants as stops
use Rattle.srv_conn.specs.Serves.{Moment, moment_of, Serves}
use Rattle.srv_words.specs.declared.job.Step.{Step}
use Rattle.srv_words.specs.declared.job.Step.TheVariants.{Put, Expire, Retract, Ask}
use Rattle.srv_alone.specs.declared.end.End.{End}
use Rattle.srv_alone.specs.declared.end.End.TheVariants.{Done, NoMemory, LinkFault, InputEnded}
use Rattle.srv_alone.specs.Publishing.{EndsPut, expired, Puts, retracted}

-- a connection and its collection: the link as it shows, the operations published and looked at, and the session
pub record Connection : Type 0 where
  pub link : LinkShown
  pub history : History
  pub session : State

abbrev pub connection : History → State → LinkShown → Connection
connection history session link = record { link = link; history = history; session = session }

-- A session has ended.
abbrev pub HasEnded : State → Type 0
HasEnded session = (how : LinkEnd) × (session.phase ≡ Ended how)

-- A session rests, unless it has ended.
abbrev pub RestsUnlessEnded : State → Type 0
RestsUnlessEnded session = IsAtRest session ⊎ HasEnded session

-- a connection as a call that serves the link sees it
abbrev pub seen_as : Connection → List Mark → Moment
seen_as at trail = moment_of at.link at.history.seen at.history.looks at.session trail

-- A link that had not ended was served, by looks at the collection as it is.
pub record Asks (count : ℕ) (before after : Connection) (stop : Stop) (trail : List Mark) : Type 0 where
  pub rests : IsAtRest before.session
  pub serves : Serves before.history.proto true (seen_as before []) (seen_as after trail) count stop
  pub proto_is : after.history.proto ≡ before.history.proto

-- the end of a run whose link stopped so before all replies were written
abbrev pub end_of_stop : Stop → End
end_of_stop (stops.Ended ends.LinkFault) = LinkFault
end_of_stop (stops.Ended ends.NoMemory) = NoMemory
end_of_stop stop = InputEnded

-- The replies that were asked for were written whole; the link goes on, or it ended after the last of them.
pub record AnswersAsk (count : ℕ) (before after : Connection) : Type 0 where
  pub stop : Stop
  pub trail : List Mark
  pub asks : Asks count before after stop trail
  pub all : length trail ≡ count
  pub calm : end_of_stop stop ≡ InputEnded

-- The link ended before the replies that were asked for were written whole.
pub record StopsShort (count : ℕ) (before after : Connection) (end : End) : Type 0 where
  pub stop : Stop
  pub trail : List Mark
  pub asks : Asks count before after stop trail
  pub end_is : end ≡ end_of_stop stop
  pub short : end ≡ InputEnded → length trail < count

-- The link had ended before.
pub record HasEndedBefore (before after : Connection) (end : End) : Type 0 where
  pub ended : HasEnded before.session
  pub same : after ≡ before
  pub end_is : end ≡ InputEnded

-- The replies that were asked for weren't written.
abbrev pub EndsAsk : ℕ → Connection → Connection → End → Type 0
EndsAsk count before after end = StopsShort count before after end ⊎ HasEndedBefore before after end

-- where a run of `once` stands: what the files show, and the connection
pub record Progress : Type 0 where
  pub files : FilesShown
  pub at : Connection

abbrev pub progress : FilesShown → History → State → LinkShown → Progress
progress files history session link = record { files = files; at = connection history session link }

-- the same but for what was published and looked at
abbrev pub with_history : Progress → History → Progress
with_history at history = progress at.files history at.at.session at.at.link

-- The link and the session are as they were.
pub record LeavesLink (before after : Connection) : Type 0 where
  pub link_is : after.link ≡ before.link
  pub session_is : after.session ≡ before.session

-- A step is done.
abbrev pub IsDone : Step → Progress → Progress → Type 0
IsDone (Put path) before after =
    Puts path before.files after.files before.at.history after.at.history × LeavesLink before.at after.at
IsDone (Expire cutoff) before after = after ≡ with_history before (expired cutoff before.at.history)
IsDone (Retract name) before after = after ≡ with_history before (retracted name before.at.history)
IsDone (Ask count) before after = AnswersAsk count before.at after.at × (after.files ≡ before.files)

-- A step isn't done, and the run ends so.
abbrev pub EndsAt : Step → Progress → Progress → End → Type 0
EndsAt (Put path) before after end =
    EndsPut path before.files after.files before.at.history after.at.history end × LeavesLink before.at after.at
EndsAt (Expire cutoff) before after end = (after ≡ before) × (end ≡ NoMemory)
EndsAt (Retract name) before after end = (after ≡ before) × (end ≡ NoMemory)
EndsAt (Ask count) before after end = EndsAsk count before.at after.at end × (after.files ≡ before.files)

-- the path of the file that a step reads
abbrev pub path_of : Step → List ℕ
path_of (Put path) = path
path_of (Expire cutoff) = []
path_of (Retract name) = []
path_of (Ask count) = []

-- The steps are done in their order up to the first that isn't, which ends the run.
unfoldable pub DoesSteps : List Step → Progress → Progress → End → List ℕ → Type 0
DoesSteps [] before after end path = (after ≡ before) × (end ≡ Done) × (path ≡ [])
DoesSteps (step ∷ steps) before after end path =
    ((next : Progress) × IsDone step before next × DoesSteps steps next after end path)
    ⊎ (EndsAt step before after end × (path ≡ path_of step))

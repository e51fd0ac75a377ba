-- The commands that do steps on a collection, and send a view of it.
use Rattle.std.specs.Prelude.{◌≡◌, ◌⊎◌, ℕ, List, [], codes, Result, Ok}
use Rattle.fm_base.specs.Chain.{◌>>=◌, fault_as}
use Rattle.fm_edition.specs.Held.{Held}
use Rattle.fm_edition.specs.Log.{held_of}
use Rattle.dev_traits.specs.Shown.{FilesShown, LinkShown}
use Rattle.dev_traits.specs.World.{WorldShown}
use Rattle.pub_look.specs.History.{History}
use Rattle.dap_reply.specs.declared.fault.DapFault.{DapFault}
use Rattle.dap_reply.specs.Fault.{fault_code}
use Rattle.fm_twod.specs.declared.asked.TwodAsk.{TwodAsk}
use Rattle.fm_twod.specs.Asked.{twod_of}
use Rattle.fm_twod.specs.Parts.{Body, bytes_of}
use Rattle.srv_words.specs.declared.job.Stepping.{Stepping}
use Rattle.srv_alone.specs.declared.end.End.{End}
use Rattle.srv_alone.specs.declared.end.End.TheVariants.{Done}
use Rattle.srv_alone.specs.Collect.{Collects, StopsCollecting}
use Rattle.srv_alone.specs.Report.{Reports}
use Rattle.srv_views.specs.Sending.{Delivers}

-- All steps were done, and the view of the collection that they left was sent or refused. The line of a refusal names
-- the command.
pub record SendsView (command : List ℕ) (view : History → Result (List ℕ) ℕ) (stepping : Stepping) (end : End)
    (at : List ℕ) (files files' : FilesShown) (link link' : LinkShown) : Type 0 where
  pub history : History
  pub collects : Collects stepping.site stepping.proto stepping.steps files files' link history Done []
  pub delivers : Delivers end (view history) link link'
  pub at_is : at ≡ command

-- The run ended before all steps were done, and nothing was sent.
pub record SendsNothing (stepping : Stepping) (end : End) (at : List ℕ) (files files' : FilesShown)
    (link link' : LinkShown) : Type 0 where
  pub stops : StopsCollecting stepping.site stepping.proto stepping.steps files files' link end at
  pub unused : link' ≡ link

-- The steps were done, and the view was sent, as far as they and it go.
abbrev pub Sends : List ℕ → (History → Result (List ℕ) ℕ) → Stepping → End → List ℕ → FilesShown → FilesShown
    → LinkShown → LinkShown → Type 0
Sends command view stepping end at files files' link link' =
    SendsView command view stepping end at files files' link link'
    ⊎ SendsNothing stepping end at files files' link link'

-- A run of a command that sends a view ended so, and was reported.
pub record RunsView (command : List ℕ) (view : History → Result (List ℕ) ℕ) (stepping : Stepping) (end : End)
    (world world' : WorldShown) : Type 0 where
  pub at : List ℕ
  pub sends : Sends command view stepping end at world.files world'.files world.link world'.link
  pub reports : Reports end at world.sink world'.sink

-- what a question finds in the collection that operations leave, or the number of the first fault
abbrev pub asked_in : {A : Type 0} → (Held → Result A DapFault) → History → Result A ℕ
asked_in question history = fault_as fault_code (question (held_of history.proto history.seen))

-- the two-dimensional view as it is asked for, or the number of the first fault
unfoldable pub twod_body : TwodAsk → History → Result Body ℕ
twod_body ask = asked_in (λ held. twod_of held ask)

-- its bytes
unfoldable pub twod_bytes : TwodAsk → History → Result (List ℕ) ℕ
twod_bytes ask history = twod_body ask history >>= λ body. Ok (bytes_of body)

-- A run of `twod` ended so, and was reported.
abbrev pub RunsTwod : Stepping → TwodAsk → End → WorldShown → WorldShown → Type 0
RunsTwod stepping ask end world world' = RunsView (codes "twod") (twod_bytes ask) stepping end world world'

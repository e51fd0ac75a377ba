-- A collection that steps leave, without a connection.
use Rattle.std.specs.Prelude.{◌≡◌, ◌⊎◌, ℕ, List}
use Rattle.fm_model.specs.declared.proto.Proto.{Proto}
use Rattle.fm_model.specs.declared.site.Site.{Site}
use Rattle.dev_traits.specs.Shown.{FilesShown, LinkShown}
use Rattle.pub_look.specs.History.{History}
use Rattle.web_session.specs.State.{fresh}
use Rattle.srv_words.specs.declared.job.Step.{Step}
use Rattle.srv_alone.specs.declared.end.End.{End}
use Rattle.srv_alone.specs.declared.end.End.TheVariants.{Done}
use Rattle.srv_alone.specs.Once.{EndsAtPrototype, opened, Opens}
use Rattle.srv_alone.specs.Steps.{DoesSteps, progress}

-- The steps were done on the collection over the prototype, up to this end at the file at a path, and left it so. The
-- link wasn't used.
pub record Collects (site : Site) (path : List ℕ) (steps : List Step) (files files' : FilesShown) (link : LinkShown)
    (history : History) (end : End) (at : List ℕ) : Type 0 where
  pub proto : Proto
  pub opens : Opens site path files proto
  pub does : DoesSteps steps (progress files (opened proto) fresh link) (progress files' history fresh link) end at

-- A step wasn't done.
pub record StopsAtStep (site : Site) (path : List ℕ) (steps : List Step) (files files' : FilesShown) (link : LinkShown)
    (end : End) (at : List ℕ) : Type 0 where
  pub history : History
  pub collects : Collects site path steps files files' link history end at
  pub stops : end ≡ Done → ⊥

-- The run ended before all steps were done: at one of them, or at the file of the prototype. The link wasn't used.
abbrev pub StopsCollecting : Site → List ℕ → List Step → FilesShown → FilesShown → LinkShown → End → List ℕ → Type 0
StopsCollecting site path steps files files' link end at =
    StopsAtStep site path steps files files' link end at ⊎ EndsAtPrototype site path files files' link link end at

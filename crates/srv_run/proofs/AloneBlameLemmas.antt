-- Which device the end of a job blames that waits for nobody.
use Rattle.std.proofs.Common.{◌≡◌, ◌⊎◌, ◌≤◌, ℕ, List, sym, ap, subst, ◌∙◌, arith, inl, inr, Result, Ok, Err, IfErr}
use Rattle.nc_model.specs.declared.header.Header.{Header}
use Rattle.fm_model.specs.declared.site.Site.{Site}
use Rattle.dev_traits.specs.Cause.{one_more}
use Rattle.dev_traits.specs.Shown.{LinkShown}
use Rattle.dev_traits.specs.World.{WorldShown}
use Rattle.pub_look.specs.History.{History}
use Rattle.srv_words.specs.declared.job.Step.{Step}
use Rattle.srv_words.specs.declared.job.Stepping.{Stepping}
use Rattle.srv_alone.specs.declared.end.End.{End}
use Rattle.srv_alone.specs.declared.end.End.TheVariants.{Done, BadWords, Refused, NoMemory, FileFault, SinkFault, LinkFault}
use Rattle.srv_alone.specs.Check.{EndsCheck}
use Rattle.srv_alone.specs.Collect.{StopsCollecting}
use Rattle.srv_alone.specs.Load.{EndsLoad}
use Rattle.srv_alone.specs.Once.{RunsSteps, EndsAtPrototype}
use Rattle.srv_alone.specs.Reading.{file_faults_after, IsEndAtFile}
use Rattle.srv_views.specs.Sending.{Delivers}
use Rattle.srv_views.specs.Views.{Sends}
use Rattle.srv_pull.specs.Pull.{HasFailedLink}
use Rattle.srv_serve.specs.Stage.{Stage}
use Rattle.srv_run.specs.Run.{PullsAlone}
use Rattle.srv_alone.proofs.StepBlameLemmas.{at_file, IsAtDevice, steps_blamed}
use Rattle.srv_pull.proofs.BlameLemmas.{pull_blamed as pulled_blamed}

-- the blame of an end on the devices that are there from the start, and on a link
pub record BlamedBy (link_failed : Type 0) (end : End) (world world' : WorldShown) : Type 0 where
  pub words : end ≡ BadWords → ⊥
  pub files : end ≡ FileFault → world'.files.faults ≡ one_more world.files.faults
  pub sink : end ≡ SinkFault → world'.sink.faults ≡ one_more world.sink.faults
  pub link : end ≡ LinkFault → link_failed

-- the same, on the link that is there from the start
abbrev pub BlamedIn : End → WorldShown → WorldShown → Type 0
BlamedIn end world world' = BlamedBy (one_more world.link.faults ≤ world'.link.faults) end world world'

pub once_blamed : (site : Site) (path : List ℕ) (steps : List Step) (end : End) (world world' : WorldShown)
    (at : List ℕ) → RunsSteps site path steps world.files world'.files world.link world'.link end at
    ⊎ EndsAtPrototype site path world.files world'.files world.link world'.link end at
    → BlamedIn end world world' × (IsAtDevice end → ⊥)
once_blamed site path steps end world world' at (inl runs) =
    let blamed = steps_blamed steps _ _ end at runs.does in (
      record {
        words = blamed.words;
        files = blamed.files;
        sink = λ is. absurd (blamed.sink is);
        link = blamed.link;
      },
      blamed.device,
    )
once_blamed site path steps end world world' at (inr ends) =
    let file = at_file end ends.ends.at_file in (
      record {
        words = file.words;
        files = λ is. ends.ends.faults_are ∙ ap (file_faults_after world.files.faults) is;
        sink = λ is. absurd (file.sink is);
        link = λ is. absurd (file.link is);
      },
      file.device,
    )

-- what was sent, or wasn't
delivered_blamed : (end : End) (defined : Result (List ℕ) ℕ) (world world' : WorldShown)
    → Delivers end defined world.link world'.link → BlamedIn end world world' × (IsAtDevice end → ⊥)
delivered_blamed Done (Ok bytes) world world' ends =
    (record { words = λ e. cc; files = λ e. absurd cc; sink = λ e. absurd cc; link = λ e. absurd cc }, λ d. d)
delivered_blamed LinkFault (Ok bytes) world world' ends = (
  record {
    words = λ e. cc;
    files = λ e. absurd cc;
    sink = λ e. absurd cc;
    link = λ e. omega (arith, ends.faults);
  },
  λ d. d,
)
delivered_blamed (Refused found) (Err code) world world' ends =
    (record { words = λ e. cc; files = λ e. absurd cc; sink = λ e. absurd cc; link = λ e. absurd cc }, λ d. d)
delivered_blamed NoMemory defined world world' ends =
    (record { words = λ e. cc; files = λ e. absurd cc; sink = λ e. absurd cc; link = λ e. absurd cc }, λ d. d)
delivered_blamed end defined world world' ends = absurd ends

-- steps that weren't all done, with the link as it was
stopped_blamed : (stepping : Stepping) (end : End) (world world' : WorldShown) (at : List ℕ)
    → StopsCollecting stepping.site stepping.proto stepping.steps world.files world'.files world.link end at
    → world'.link ≡ world.link → BlamedIn end world world' × (IsAtDevice end → ⊥)
stopped_blamed stepping end world world' at (inl stops) unused =
    let blamed = steps_blamed stepping.steps _ _ end at stops.collects.does in (
      record {
        words = blamed.words;
        files = blamed.files;
        sink = λ is. absurd (blamed.sink is);
        link = λ is. subst (λ (link : LinkShown). one_more world.link.faults ≤ link.faults) (sym unused)
            (blamed.link is);
      },
      blamed.device,
    )
stopped_blamed stepping end world world' at (inr ends) unused =
    let file = at_file end ends.ends.at_file in (
      record {
        words = file.words;
        files = λ is. ends.ends.faults_are ∙ ap (file_faults_after world.files.faults) is;
        sink = λ is. absurd (file.sink is);
        link = λ is. absurd (file.link is);
      },
      file.device,
    )

pub view_blamed : (command : List ℕ) (view : History → Result (List ℕ) ℕ) (stepping : Stepping) (end : End)
    (at : List ℕ) (world world' : WorldShown)
    → Sends command view stepping end at world.files world'.files world.link world'.link
    → BlamedIn end world world' × (IsAtDevice end → ⊥)
view_blamed command view stepping end at world world' (inl sends) =
    delivered_blamed end (view sends.history) world world' sends.delivers
view_blamed command view stepping end at world world' (inr nothing) =
    stopped_blamed stepping end world world' at nothing.stops nothing.unused

pub check_blamed : (path : List ℕ) (checked : Result Header End) (end : End) (world world' : WorldShown)
    → IfErr checked IsEndAtFile → EndsCheck path checked end world.sink world'.sink
    → world'.files.faults ≡ file_faults_after world.files.faults end
    → BlamedIn end world world' × (IsAtDevice end → ⊥)
check_blamed path (Ok header) Done world world' at ends faults =
    (record { words = λ e. cc; files = λ e. absurd cc; sink = λ e. absurd cc; link = λ e. absurd cc }, λ d. d)
check_blamed path (Ok header) SinkFault world world' at ends faults =
    (record { words = λ e. cc; files = λ e. absurd cc; sink = λ e. ends.faults; link = λ e. absurd cc }, λ d. d)
check_blamed path (Ok header) end world world' at ends faults = absurd ends
check_blamed path (Err found) end world world' at ends faults =
    let file = at_file found at in (
      record {
        words = λ is. file.words (sym ends.0 ∙ is);
        files = λ is. faults ∙ ap (file_faults_after world.files.faults) is;
        sink = λ is. absurd (file.sink (sym ends.0 ∙ is));
        link = λ is. absurd (file.link (sym ends.0 ∙ is));
      },
      λ d. file.device (subst (λ (e : End). IsAtDevice e) ends.0 d),
    )

pub load_blamed : (seed files : ℕ) (end : End) (world world' : WorldShown)
    → EndsLoad seed files end world.sink world'.sink → BlamedIn end world world' × (IsAtDevice end → ⊥)
load_blamed seed files Done world world' ends =
    (record { words = λ e. cc; files = λ e. absurd cc; sink = λ e. absurd cc; link = λ e. absurd cc }, λ d. d)
load_blamed seed files SinkFault world world' ends =
    (record { words = λ e. cc; files = λ e. absurd cc; sink = λ e. ends.faults; link = λ e. absurd cc }, λ d. d)
load_blamed seed files NoMemory world world' ends =
    (record { words = λ e. cc; files = λ e. absurd cc; sink = λ e. absurd cc; link = λ e. absurd cc }, λ d. d)
load_blamed seed files end world world' ends = absurd ends

pub pull_blamed : {D I C : Type 0} (address target : List ℕ) (end : End) (stage stage' : Stage D I C)
    → PullsAlone address target end stage stage'
    → BlamedBy (HasFailedLink (λ (link : LinkShown). link) stage.dial stage'.dial) end stage.outside stage'.outside
    × (IsAtDevice end → ⊥)
pull_blamed address target end stage stage' runs =
    let blamed = pulled_blamed (λ (link : LinkShown). link) address target end stage.dial stage'.dial stage.outside.sink
    stage'.outside.sink runs.pulls in (
      record {
        words = blamed.words;
        files = λ is. absurd (blamed.files is);
        sink = blamed.sink;
        link = blamed.link;
      },
      blamed.device,
    )

-- Which device the status of a run blames.
use Rattle.std.proofs.Common.{◌≡◌, ◌⊎◌, ℕ, refl, sym, ap, ◌∙◌, arith, inl, inr, Option, Some, None}
use Rattle.srv_words.specs.declared.job.Job.{Job}
use Rattle.srv_words.specs.declared.job.Job.TheVariants.{Once, Twod, Extract, Pull, Check, Load, Serve, Many}
use Rattle.srv_alone.specs.declared.end.End.{End}
use Rattle.srv_alone.specs.declared.end.End.TheVariants.{BadWords, FileFault, SinkFault, LinkFault, DoorFault, InboxFault}
use Rattle.srv_alone.specs.Report.{status_of}
use Rattle.srv_run.specs.Run.{Blames, DoesJob, Ends, LacksMemory, Runs}
use Rattle.srv_serve.specs.Shows.{Shows}
use Rattle.srv_serve.specs.Stage.{Stage}
use Rattle.srv_run.proofs.AloneBlameLemmas.{check_blamed, load_blamed, once_blamed, pull_blamed, view_blamed}
use Rattle.srv_run.proofs.OpenedBlameLemmas.{alone, BlamedOn}
use Rattle.srv_run.proofs.ServedBlameLemmas.{many_blamed, serve_blamed}

-- each of these ends is the only one with its status
is_bad_words : (end : End) → status_of end ≡ 2 → end ≡ BadWords
is_bad_words BadWords is = refl
is_bad_words end is = absurd (omega (arith, is))

is_file_fault : (end : End) → status_of end ≡ 5 → end ≡ FileFault
is_file_fault FileFault is = refl
is_file_fault end is = absurd (omega (arith, is))

is_sink_fault : (end : End) → status_of end ≡ 7 → end ≡ SinkFault
is_sink_fault SinkFault is = refl
is_sink_fault end is = absurd (omega (arith, is))

is_link_fault : (end : End) → status_of end ≡ 9 → end ≡ LinkFault
is_link_fault LinkFault is = refl
is_link_fault end is = absurd (omega (arith, is))

is_door_fault : (end : End) → status_of end ≡ 6 → (number : ℕ) × (end ≡ DoorFault number)
is_door_fault (DoorFault number) is = (number, refl)
is_door_fault end is = absurd (omega (arith, is))

is_inbox_fault : (end : End) → status_of end ≡ 8 → (number : ℕ) × (end ≡ InboxFault number)
is_inbox_fault (InboxFault number) is = (number, refl)
is_inbox_fault end is = absurd (omega (arith, is))

job_blamed : {D I C L : Type 0} (show : Shows D I C L) (job : Job) (end : End) (stage stage' : Stage D I C)
    → DoesJob show (Some job) end stage stage' → BlamedOn show job end stage stage'
job_blamed show (Once stepping) end stage stage' does =
    let blamed = once_blamed stepping.site stepping.proto stepping.steps end stage.outside stage'.outside does.0.at
    does.0.runs in
    alone show (Once stepping) end stage stage' blamed.0 blamed.1
job_blamed show (Twod stepping with_values constraint) end stage stage' does =
    let blamed = view_blamed _ _ stepping end does.0.at stage.outside stage'.outside does.0.sends in
    alone show (Twod stepping with_values constraint) end stage stage' blamed.0 blamed.1
job_blamed show (Extract stepping view constraint version) end stage stage' does =
    let blamed = view_blamed _ _ stepping end does.0.at stage.outside stage'.outside does.0.sends in
    alone show (Extract stepping view constraint version) end stage stage' blamed.0 blamed.1
job_blamed show (Pull address target) end stage stage' does =
    let blamed = pull_blamed address target end stage stage' does.0 in
    alone show (Pull address target) end stage stage' blamed.0 blamed.1
job_blamed show (Check path) end stage stage' does =
    let checks = does.0.checks in
    let blamed = check_blamed path checks.checked end stage.outside stage'.outside checks.at_file checks.ends
    checks.file_faults in
    alone show (Check path) end stage stage' blamed.0 blamed.1
job_blamed show (Load seed files) end stage stage' does =
    let blamed = load_blamed seed files end stage.outside stage'.outside does.0.ends in
    alone show (Load seed files) end stage stage' blamed.0 blamed.1
job_blamed show (Serve serving) end stage stage' does = serve_blamed show serving end stage stage' does.runs
job_blamed show (Many serving) end stage stage' does = many_blamed show serving end stage stage' does.runs

-- a run blames a device where its last call failed
blames : {D I C L : Type 0} (show : Shows D I C L) (job : Option Job) (status : ℕ) (end : End)
    (stage stage' : Stage D I C) → status ≡ status_of end
    → DoesJob show job end stage stage' ⊎ LacksMemory end stage stage' → Blames show job status stage stage'
blames show None status end stage stage' is (inl does) =
    let two : status ≡ 2 = is ∙ ap status_of does.0 in record {
      bad_words = λ s. refl;
      refused = λ none. inl two;
      file_fault = λ s. absurd (omega (arith, two, s));
      door_fault = λ s. absurd (omega (arith, two, s));
      sink_fault = λ s. absurd (omega (arith, two, s));
      inbox_fault = λ s. absurd (omega (arith, two, s));
      link_fault = λ s. absurd (omega (arith, two, s));
    }
blames show (Some job) status end stage stage' is (inl does) =
    let blamed = job_blamed show job end stage stage' does in record {
      bad_words = λ s. absurd (blamed.inside.words (is_bad_words end (sym is ∙ s)));
      refused = λ none. absurd cc;
      file_fault = λ s. blamed.inside.files (is_file_fault end (sym is ∙ s));
      door_fault = λ s. let at = is_door_fault end (sym is ∙ s) in blamed.door at.0 at.1;
      sink_fault = λ s. blamed.inside.sink (is_sink_fault end (sym is ∙ s));
      inbox_fault = λ s. let at = is_inbox_fault end (sym is ∙ s) in blamed.inbox at.0 at.1;
      link_fault = λ s. blamed.inside.link (is_link_fault end (sym is ∙ s));
    }
blames show job status end stage stage' is (inr short) =
    let four : status ≡ 4 = is ∙ ap status_of short.0 in record {
      bad_words = λ s. absurd (omega (arith, four, s));
      refused = λ none. inr four;
      file_fault = λ s. absurd (omega (arith, four, s));
      door_fault = λ s. absurd (omega (arith, four, s));
      sink_fault = λ s. absurd (omega (arith, four, s));
      inbox_fault = λ s. absurd (omega (arith, four, s));
      link_fault = λ s. absurd (omega (arith, four, s));
    }

-- a run ends so, and blames what failed
pub Ends-Runs : {D I C L : Type 0} {show : Shows D I C L} {job : Option Job} {status : ℕ} {stage stage' : Stage D I C}
    → Runs show job status stage stage' → Ends show job status stage stage'
Ends-Runs {D} {I} {C} {L} {show} {job} {status} {stage} {stage'} runs = record {
  runs = runs;
  blames = blames show job status runs.end stage stage' runs.status_is runs.does;
}

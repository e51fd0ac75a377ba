-- What a run of a job says, and which devices it leaves alone.
use Rattle.std.proofs.Common.{◌≡◌, ◌≢◌, ◌⊎◌, inl, inr, ℕ, List, [], length, slice_get, IsSomeAnd, Option, Some, None, Result, Ok, Err, refl, sym, ap, subst, ◌∙◌, arith}
use Rattle.nc_model.specs.declared.header.Header.{Header}
use Rattle.dev_traits.specs.Shown.{SinkShown}
use Rattle.dap_client.specs.declared.fault.PullEnd.{PullEnd}
use Rattle.dap_client.specs.declared.message.Message.{Message}
use Rattle.srv_words.specs.declared.job.Job.{Job}
use Rattle.srv_words.specs.declared.job.Job.TheVariants.{Once, Twod, Extract, Pull, Check, Load, Serve, Many}
use Rattle.srv_words.specs.declared.job.Serving.{Serving}
use Rattle.srv_words.specs.declared.job.ServingMany.{ServingMany}
use Rattle.srv_words.specs.declared.job.Spec.{Spec}
use Rattle.srv_words.specs.declared.job.Stepping.{Stepping}
use Rattle.srv_alone.specs.declared.end.End.{End}
use Rattle.srv_alone.specs.declared.end.End.TheVariants.{Done, BadWords, NoMemory, SinkFault}
use Rattle.srv_alone.specs.Check.{EndsCheck}
use Rattle.srv_serve.specs.Closing.{EndsWith, first_end, first_end_of, serve_line}
use Rattle.srv_alone.specs.Load.{EndsLoad}
use Rattle.srv_alone.specs.Report.{Reports, Said, status_of}
use Rattle.srv_pull.specs.Pull.{Says, end_of}
use Rattle.srv_run.specs.Run.{DoesJob, Runs, UsesDialer, UsesFiles, UsesLink}
use Rattle.srv_serve.specs.Lines.{many_lines}
use Rattle.srv_serve.specs.Many as many
use Rattle.srv_serve.specs.Serve.{EndsUnopened, GoesOn}
use Rattle.srv_serve.specs.Shows.{Shows}
use Rattle.srv_serve.specs.Stage.{LeavesDialer, Stage}

-- a line of what was done is no line of another status
not_done : {A : Type 0} (end : End) (status : ℕ) → status ≡ status_of end → end ≡ Done → status ≢ 0 → A
not_done end status is done other = absurd (other (is ∙ ap status_of done))

not_cut : {A : Type 0} (end : End) (status : ℕ) → status ≡ status_of end → end ≡ SinkFault → status ≢ 7 → A
not_cut end status is cut other = absurd (other (is ∙ ap status_of cut))

said-check : (path : List ℕ) (checked : Result Header End) (end : End) (status : ℕ) (sink sink' : SinkShown)
    → status ≡ status_of end → status ≢ 0 → status ≢ 7 → EndsCheck path checked end sink sink'
    → Said status sink sink'
said-check path (Ok header) Done status sink sink' is done cut ends = not_done Done status is refl done
said-check path (Ok header) SinkFault status sink sink' is done cut ends = not_cut SinkFault status is refl cut
said-check path (Ok header) end status sink sink' is done cut ends = absurd ends
said-check path (Err found) end status sink sink' is done cut ends =
    (found, path, is ∙ ap status_of ends.0, ends.1)

said-load : (seed files : ℕ) (end : End) (status : ℕ) (sink sink' : SinkShown) → status ≡ status_of end
    → status ≢ 0 → status ≢ 7 → EndsLoad seed files end sink sink' → Said status sink sink'
said-load seed files Done status sink sink' is done cut ends = not_done Done status is refl done
said-load seed files SinkFault status sink sink' is done cut ends = not_cut SinkFault status is refl cut
said-load seed files NoMemory status sink sink' is done cut ends = (NoMemory, [], is, ends)
said-load seed files end status sink sink' is done cut ends = absurd ends

said-served : (text : List ℕ) (found : Option End) (end : End) (status : ℕ) (sink sink' : SinkShown)
    → status ≡ status_of end → status ≢ 0 → status ≢ 7 → EndsWith text found end sink sink'
    → Said status sink sink'
said-served text None Done status sink sink' is done cut ends = not_done Done status is refl done
said-served text None SinkFault status sink sink' is done cut ends = not_cut SinkFault status is refl cut
said-served text None end status sink sink' is done cut ends = absurd ends
said-served text (Some found) end status sink sink' is done cut ends =
    (found, [], is ∙ ap status_of ends.0, ends.1)

said-on : {D I C L : Type 0} (show : Shows D I C L) (serving : Serving) (end : End) (status : ℕ)
    (stage stage' : Stage D I C) → status ≡ status_of end → status ≢ 0 → status ≢ 7
    → EndsUnopened serving stage stage' end ⊎ GoesOn show serving stage stage' end
    → Said status stage.outside.sink stage'.outside.sink
said-on show serving end status stage stage' is done cut (inl ends) = (end, serving.proto, is, ends.reports)
said-on show serving end status stage stage' is done cut (inr on) = elim on.serves [
  | inl unserved ↦ (end, [], is, unserved.reports)
  | inr served ↦ said-served (serve_line served.outcome) (first_end served.outcome) end status stage.outside.sink
      stage'.outside.sink is done cut served.ends
]

said-at : {D I C : Type 0} (end : End) (status : ℕ) (stage stage' : Stage D I C) (found : Option Spec)
    → status ≡ status_of end → IsSomeAnd found (λ spec. many.EndsAtSpec spec stage stage' end)
    → Said status stage.outside.sink stage'.outside.sink
said-at end status stage stage' (Some spec) is at = (end, spec.proto, is, at.reports)
said-at end status stage stage' None is at = absurd at

said-many : {D I C L : Type 0} (show : Shows D I C L) (serving : ServingMany) (end : End) (status : ℕ)
    (stage stage' : Stage D I C) → status ≡ status_of end → status ≢ 0 → status ≢ 7
    → many.EndsUnopened serving stage stage' end ⊎ many.GoesOn show serving stage stage' end
    → Said status stage.outside.sink stage'.outside.sink
said-many show serving end status stage stage' is done cut (inl ends) =
    said-at end status stage stage' (slice_get serving.specs (length ends.protos)) is ends.at
said-many show serving end status stage stage' is done cut (inr on) = elim on.serves [
  | inl unserved ↦ (end, [], is, unserved.reports)
  | inr served ↦
      let them = served.outcomes in
      said-served (many_lines serving.specs them) (first_end_of them.doors them.inboxes them.clocks) end status
      stage.outside.sink stage'.outside.sink is done cut served.ends
]

said-pulled : (pulled : Result Message PullEnd) (end : End) (status : ℕ) (sink sink' : SinkShown)
    → status ≡ status_of end → status ≢ 0 → status ≢ 7 → Says pulled end sink sink' → Said status sink sink'
said-pulled (Ok message) Done status sink sink' is done cut says = not_done Done status is refl done
said-pulled (Ok message) SinkFault status sink sink' is done cut says = not_cut SinkFault status is refl cut
said-pulled (Ok message) end status sink sink' is done cut says = absurd says
said-pulled (Err why) end status sink sink' is done cut says = (end_of why, [], is ∙ ap status_of says.0, says.1)

said-job : {D I C L : Type 0} (show : Shows D I C L) (job : Option Job) (end : End) (status : ℕ)
    (stage stage' : Stage D I C) → status ≡ status_of end → status ≢ 0 → status ≢ 7
    → DoesJob show job end stage stage' → Said status stage.outside.sink stage'.outside.sink
said-job show None end status stage stage' is done cut does =
    (BadWords, [], is ∙ ap status_of does.0, does.1.reports)
said-job show (Some (Once stepping)) end status stage stage' is done cut does =
    (end, does.0.at, is, does.0.reports)
said-job show (Some (Twod stepping with_values constraint)) end status stage stage' is done cut does =
    (end, does.0.at, is, does.0.reports)
said-job show (Some (Extract stepping view constraint version)) end status stage stage' is done cut does =
    (end, does.0.at, is, does.0.reports)
said-job show (Some (Pull address target)) end status stage stage' is done cut does =
    said-pulled does.0.pulls.pulled end status stage.outside.sink stage'.outside.sink is done cut does.0.pulls.says
said-job show (Some (Check path)) end status stage stage' is done cut does =
    said-check path does.0.checks.checked end status stage.outside.sink stage'.outside.sink is done cut
    does.0.checks.ends
said-job show (Some (Load seed files)) end status stage stage' is done cut does =
    said-load seed files end status stage.outside.sink stage'.outside.sink is done cut does.0.ends
said-job show (Some (Serve serving)) end status stage stage' is done cut does =
    said-on show serving end status stage stage' is done cut does.runs
said-job show (Some (Many serving)) end status stage stage' is done cut does =
    said-many show serving end status stage stage' is done cut does.runs

-- a run whose status is neither 0 nor 7
pub said : {D I C L : Type 0} (show : Shows D I C L) (job : Option Job) (status : ℕ) (stage stage' : Stage D I C)
    → Runs show job status stage stage' → status ≢ 0 → status ≢ 7
    → Said status stage.outside.sink stage'.outside.sink
said show job status stage stage' runs done cut = elim runs.does [
  | inl does ↦ said-job show job runs.end status stage stage' runs.status_is done cut does
  | inr short ↦ (NoMemory, [], runs.status_is ∙ ap status_of short.0, short.1.reports)
]

is_done : (end : End) → status_of end ≡ 0 → end ≡ Done
is_done Done is = refl
is_done end is = absurd (omega (arith, is))

-- a run of `once` that did all
pub quiet : {D I C L : Type 0} (show : Shows D I C L) (stepping : Stepping) (stage stage' : Stage D I C)
    → Runs show (Some (Once stepping)) 0 stage stage' → stage'.outside.sink ≡ stage.outside.sink
quiet show stepping stage stage' runs =
    let done : runs.end ≡ Done = is_done runs.end (sym runs.status_is) in
    elim runs.does [
      | inl does ↦
          subst (λ (e : End). Reports e does.0.at stage.outside.sink stage'.outside.sink) done does.0.reports
      | inr short ↦ absurd (short_of (sym short.0 ∙ done))
    ]
  where
    short_of : NoMemory ≡ Done → ⊥
    short_of same = cc

-- ---- devices that a run leaves alone

unused-job : {D I C L : Type 0} (show : Shows D I C L) (job : Option Job) (end : End) (stage stage' : Stage D I C)
    → DoesJob show job end stage stage' → (UsesLink job → ⊥) → stage'.outside.link ≡ stage.outside.link
unused-job show None end stage stage' does none = does.1.unused
unused-job show (Some (Once stepping)) end stage stage' does none = absurd (none tt)
unused-job show (Some (Twod stepping with_values constraint)) end stage stage' does none = absurd (none tt)
unused-job show (Some (Extract stepping view constraint version)) end stage stage' does none = absurd (none tt)
unused-job show (Some (Pull address target)) end stage stage' does none = does.0.unused
unused-job show (Some (Check path)) end stage stage' does none = does.0.unused
unused-job show (Some (Load seed files)) end stage stage' does none = does.0.unused
unused-job show (Some (Serve serving)) end stage stage' does none = does.unused
unused-job show (Some (Many serving)) end stage stage' does none = does.unused

pub unused : {D I C L : Type 0} (show : Shows D I C L) (job : Option Job) (status : ℕ) (stage stage' : Stage D I C)
    → Runs show job status stage stage' → (UsesLink job → ⊥) → stage'.outside.link ≡ stage.outside.link
unused show job status stage stage' runs none = elim runs.does [
  | inl does ↦ unused-job show job runs.end stage stage' does none
  | inr short ↦ short.1.unused
]

unread-job : {D I C L : Type 0} (show : Shows D I C L) (job : Option Job) (end : End) (stage stage' : Stage D I C)
    → DoesJob show job end stage stage' → (UsesFiles job → ⊥) → stage'.outside.files ≡ stage.outside.files
unread-job show None end stage stage' does none = does.1.unread
unread-job show (Some (Load seed files)) end stage stage' does none = does.0.unread
unread-job show (Some (Once stepping)) end stage stage' does none = absurd (none tt)
unread-job show (Some (Twod stepping with_values constraint)) end stage stage' does none = absurd (none tt)
unread-job show (Some (Extract stepping view constraint version)) end stage stage' does none = absurd (none tt)
unread-job show (Some (Pull address target)) end stage stage' does none = does.0.unread
unread-job show (Some (Check path)) end stage stage' does none = absurd (none tt)
unread-job show (Some (Serve serving)) end stage stage' does none = absurd (none tt)
unread-job show (Some (Many serving)) end stage stage' does none = absurd (none tt)

pub unread : {D I C L : Type 0} (show : Shows D I C L) (job : Option Job) (status : ℕ) (stage stage' : Stage D I C)
    → Runs show job status stage stage' → (UsesFiles job → ⊥) → stage'.outside.files ≡ stage.outside.files
unread show job status stage stage' runs none = elim runs.does [
  | inl does ↦ unread-job show job runs.end stage stage' does none
  | inr short ↦ short.1.unread
]

undialled-job : {D I C L : Type 0} (show : Shows D I C L) (job : Option Job) (end : End) (stage stage' : Stage D I C)
    → DoesJob show job end stage stage' → (UsesDialer job → ⊥) → LeavesDialer stage stage'
undialled-job show None end stage stage' does none = does.1.undialled
undialled-job show (Some (Once stepping)) end stage stage' does none = does.1.1
undialled-job show (Some (Twod stepping with_values constraint)) end stage stage' does none = does.1.1
undialled-job show (Some (Extract stepping view constraint version)) end stage stage' does none = does.1.1
undialled-job show (Some (Pull address target)) end stage stage' does none = absurd (none tt)
undialled-job show (Some (Check path)) end stage stage' does none = does.1.1
undialled-job show (Some (Load seed files)) end stage stage' does none = does.1.1
undialled-job show (Some (Serve serving)) end stage stage' does none = does.undialled
undialled-job show (Some (Many serving)) end stage stage' does none = does.undialled

pub undialled : {D I C L : Type 0} (show : Shows D I C L) (job : Option Job) (status : ℕ) (stage stage' : Stage D I C)
    → Runs show job status stage stage' → (UsesDialer job → ⊥) → LeavesDialer stage stage'
undialled show job status stage stage' runs none = elim runs.does [
  | inl does ↦ undialled-job show job runs.end stage stage' does none
  | inr short ↦ short.1.undialled
]

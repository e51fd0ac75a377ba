-- The blame of the end of a job on the devices that the run opened.
use Rattle.std.proofs.Common.{◌≡◌, ℕ, List, [], refl, sym, ap, subst, ◌∙◌, inl, inr, Option, Some, None}
use Rattle.fm_model.specs.declared.site.Site.{Site}
use Rattle.srv_words.specs.declared.job.Job.{Job}
use Rattle.srv_alone.specs.declared.end.End.{End}
use Rattle.srv_alone.specs.declared.end.End.TheVariants.{Done, NoMemory, SinkFault, DoorFault, InboxFault}
use Rattle.srv_alone.specs.Once.{EndsOpening}
use Rattle.srv_alone.specs.Reading.{file_faults_after}
use Rattle.srv_alone.specs.Report.{Reports}
use Rattle.srv_alone.proofs.StepBlameLemmas.{at_file, IsAtDevice}
use Rattle.srv_serve.specs.Closing.{EndsWith}
use Rattle.srv_serve.specs.Devices.{HasFailedAt, StopsAt, StopsAtDoor, StopsAtInbox, Wanted}
use Rattle.srv_serve.specs.Shows.{Shows}
use Rattle.srv_serve.specs.Stage.{Stage}
use Rattle.srv_serve.proofs.RunLemmas.{ByWorkers}
use Rattle.srv_run.specs.Run.{BlamesDoor, BlamesInbox, BlamesLink, LacksDoor, LacksInbox}
use Rattle.srv_run.proofs.AloneBlameLemmas.{BlamedBy}

-- the blame of the end of a job on the devices that the run opened
pub record BlamedOn {D I C L : Type 0} (show : Shows D I C L) (job : Job) (end : End) (stage stage' : Stage D I C)
    : Type 0 where
  pub inside : BlamedBy (BlamesLink (Some job) stage stage') end stage.outside stage'.outside
  pub door : (number : ℕ) → end ≡ DoorFault number → BlamesDoor show (Some job) stage stage'
  pub inbox : (number : ℕ) → end ≡ InboxFault number → BlamesInbox show (Some job) stage stage'

-- a run that opens nothing blames nothing that it opened
pub alone : {D I C L : Type 0} (show : Shows D I C L) (job : Job) (end : End) (stage stage' : Stage D I C)
    → BlamedBy (BlamesLink (Some job) stage stage') end stage.outside stage'.outside → (IsAtDevice end → ⊥)
    → BlamedOn show job end stage stage'
alone show job end stage stage' inside none = record {
  inside = inside;
  door = λ number is. absurd (none (subst (λ (e : End). IsAtDevice e) (sym is) tt));
  inbox = λ number is. absurd (none (subst (λ (e : End). IsAtDevice e) (sym is) tt));
}

-- a run that ends at the file of a prototype
pub file_blamed : {D I C L : Type 0} (show : Shows D I C L) (job : Job) (site : Site) (path : List ℕ) (end : End)
    (stage stage' : Stage D I C) → EndsOpening site path stage.outside.files stage'.outside.files end
    → BlamedOn show job end stage stage'
file_blamed show job site path end stage stage' ends =
    let file = at_file end ends.at_file in
    alone show job end stage stage' (record {
      words = file.words;
      files = λ is. ends.faults_are ∙ ap (file_faults_after stage.outside.files.faults) is;
      sink = λ is. absurd (file.sink is);
      link = λ is. absurd (file.link is);
    }) file.device

-- what a job lacks is the next device that it asked for
pub record LacksNext {D I C : Type 0} (job : Job) (wanted : Wanted) (stage stage' : Stage D I C) : Type 0 where
  pub door : (number : ℕ)
      → StopsAtDoor wanted stage'.devices stage.opener.faults stage'.opener.faults number
      → LacksDoor (Some job) stage stage' number
  pub inbox : (number : ℕ)
      → StopsAtInbox wanted stage'.devices stage.opener.faults stage'.opener.faults number
      → LacksInbox (Some job) stage stage' number

-- a run that can't open all
pub stopped_blamed : {D I C L : Type 0} (show : Shows D I C L) (job : Job) (wanted : Wanted) (end : End)
    (stage stage' : Stage D I C) → LacksNext job wanted stage stage'
    → StopsAt wanted stage'.devices stage.opener.faults stage'.opener.faults end
    → Reports end [] stage.outside.sink stage'.outside.sink → BlamedOn show job end stage stage'
stopped_blamed show job wanted (DoorFault number) stage stage' lacks stops told = record {
  inside = record { words = λ e. cc; files = λ e. absurd cc; sink = λ e. absurd cc; link = λ e. absurd cc };
  door = λ n is. record { number = number; told = told; why = inl (lacks.door number stops) };
  inbox = λ n is. absurd cc;
}
stopped_blamed show job wanted (InboxFault number) stage stage' lacks stops told = record {
  inside = record { words = λ e. cc; files = λ e. absurd cc; sink = λ e. absurd cc; link = λ e. absurd cc };
  door = λ n is. absurd cc;
  inbox = λ n is. record { number = number; told = told; why = inl (lacks.inbox number stops) };
}
stopped_blamed show job wanted NoMemory stage stage' lacks stops told =
    alone show job NoMemory stage stage'
    (record { words = λ e. cc; files = λ e. absurd cc; sink = λ e. absurd cc; link = λ e. absurd cc }) (λ d. d)
stopped_blamed show job wanted end stage stage' lacks stops told = absurd stops

-- the first end of a run of workers is that of a device that has failed, or memory ran out
pub record FirstEnd {D I C L : Type 0} (show : Shows D I C L) (stage' : Stage D I C) (found : Option End) : Type 0 where
  pub calm : (end : End) → found ≡ Some end → ByWorkers end
  pub door : (number : ℕ) → found ≡ Some (DoorFault number)
      → HasFailedAt (λ door. (show.door door).faults) stage'.devices.doors number
  pub inbox : (number : ℕ) → found ≡ Some (InboxFault number)
      → HasFailedAt (λ inbox. (show.inbox inbox).faults) stage'.devices.inboxes number

-- a run whose workers ran
pub ended_blamed : {D I C L : Type 0} (show : Shows D I C L) (job : Job) (text : List ℕ) (found : Option End)
    (end : End) (stage stage' : Stage D I C) → FirstEnd show stage' found
    → EndsWith text found end stage.outside.sink stage'.outside.sink → BlamedOn show job end stage stage'
ended_blamed show job text None Done stage stage' first ends =
    alone show job Done stage stage'
    (record { words = λ e. cc; files = λ e. absurd cc; sink = λ e. absurd cc; link = λ e. absurd cc }) (λ d. d)
ended_blamed show job text None SinkFault stage stage' first ends =
    alone show job SinkFault stage stage'
    (record { words = λ e. cc; files = λ e. absurd cc; sink = λ e. ends.faults; link = λ e. absurd cc }) (λ d. d)
ended_blamed show job text None end stage stage' first ends = absurd ends
ended_blamed show job text (Some found) end stage stage' first ends =
    let calm = first.calm found refl in
    let told = λ (e : End) (is : found ≡ e).
    subst (λ (e : End). Reports e [] stage.outside.sink stage'.outside.sink) is ends.1 in
    record {
      inside = record {
        words = λ is. calm.words (sym ends.0 ∙ is);
        files = λ is. absurd (calm.files (sym ends.0 ∙ is));
        sink = λ is. absurd (calm.sink (sym ends.0 ∙ is));
        link = λ is. absurd (calm.link (sym ends.0 ∙ is));
      };
      door = λ number is. record {
        number = number;
        told = told (DoorFault number) (sym ends.0 ∙ is);
        why = inr (first.door number (ap (λ (e : End). Some e) (sym ends.0 ∙ is)));
      };
      inbox = λ number is. record {
        number = number;
        told = told (InboxFault number) (sym ends.0 ∙ is);
        why = inr (first.inbox number (ap (λ (e : End). Some e) (sym ends.0 ∙ is)));
      };
    }

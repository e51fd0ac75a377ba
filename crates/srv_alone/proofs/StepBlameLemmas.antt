-- Which device the end of some steps blames.
use Rattle.std.proofs.Common.{◌≡◌, ◌⊎◌, ◌≤◌, ℕ, true, List, [], ◌∷◌, sym, ap, subst, ◌∙◌, refl, inl, inr}
use Rattle.std.specs.Prelude.{⊤}
use Rattle.fm_model.specs.declared.proto.Proto.{Proto}
use Rattle.dev_traits.specs.Cause.{one_more}
use Rattle.dev_traits.specs.Shown.{FilesShown, LinkShown}
use Rattle.dap_reply.specs.declared.served.Stop.{Stop}
use Rattle.dap_reply.specs.declared.served.Stop.TheVariants as stops
use Rattle.dap_reply.specs.Served.{EndsBy, StopsBy}
use Rattle.web_session.specs.declared.action.End.TheVariants as ends
use Rattle.srv_conn.specs.Serves.{Moment, Serves}
use Rattle.srv_words.specs.declared.job.Step.{Step}
use Rattle.srv_words.specs.declared.job.Step.TheVariants.{Put, Expire, Retract, Ask}
use Rattle.srv_alone.specs.declared.end.End.{End}
use Rattle.srv_alone.specs.declared.end.End.TheVariants.{Done, BadWords, Refused, NoMemory, FileFault, SinkFault, LinkFault, DoorFault, InboxFault, NoFile, TooLong, InputEnded}
use Rattle.srv_alone.specs.Reading.{file_faults_after, IsEndAtFile}
use Rattle.srv_alone.specs.Steps.{DoesSteps, end_of_stop, EndsAsk, EndsAt, IsDone, Progress}

-- a run ends so at a door or an inbox
abbrev pub IsAtDevice : End → Type 0
IsAtDevice (DoorFault number) = ⊤
IsAtDevice (InboxFault number) = ⊤
IsAtDevice end = ⊥

-- a run ends in none of these ways at a file
pub record AtFile (end : End) : Type 0 where
  pub words : end ≡ BadWords → ⊥
  pub sink : end ≡ SinkFault → ⊥
  pub link : end ≡ LinkFault → ⊥
  pub device : IsAtDevice end → ⊥

pub at_file : (end : End) → IsEndAtFile end → AtFile end
at_file NoMemory is = record { words = λ e. cc; sink = λ e. cc; link = λ e. cc; device = λ d. d }
at_file (Refused code) is = record { words = λ e. cc; sink = λ e. cc; link = λ e. cc; device = λ d. d }
at_file FileFault is = record { words = λ e. cc; sink = λ e. cc; link = λ e. cc; device = λ d. d }
at_file NoFile is = record { words = λ e. cc; sink = λ e. cc; link = λ e. cc; device = λ d. d }
at_file (TooLong len) is = record { words = λ e. cc; sink = λ e. cc; link = λ e. cc; device = λ d. d }
at_file end is = absurd is

-- a link that stops ends a run in none of these ways
record ByLink (end : End) : Type 0 where
  words : end ≡ BadWords → ⊥
  files : end ≡ FileFault → ⊥
  sink : end ≡ SinkFault → ⊥
  device : IsAtDevice end → ⊥

by_link : (stop : Stop) → ByLink (end_of_stop stop)
by_link (stops.Ended ends.LinkFault) = record { words = λ e. cc; files = λ e. cc; sink = λ e. cc; device = λ d. d }
by_link (stops.Ended ends.NoMemory) = record { words = λ e. cc; files = λ e. cc; sink = λ e. cc; device = λ d. d }
by_link stop = record { words = λ e. cc; files = λ e. cc; sink = λ e. cc; device = λ d. d }

stop_is : (stop : Stop) → end_of_stop stop ≡ LinkFault → stop ≡ stops.Ended ends.LinkFault
stop_is (stops.Ended ends.LinkFault) is = refl
stop_is (stops.Ended ends.NoMemory) is = absurd cc
stop_is stop is = absurd cc

-- a link that failed is blamed
failed : (proto : Proto) (before after : Moment) (most : ℕ)
    → Serves proto true before after most (stops.Ended ends.LinkFault)
    → one_more before.link.faults ≤ after.link.faults
unfolding StopsBy EndsBy
failed proto before after most serves = serves.served.stops.1

failed_by : (proto : Proto) (before after : Moment) (most : ℕ) (stop : Stop) → Serves proto true before after most stop
    → end_of_stop stop ≡ LinkFault → one_more before.link.faults ≤ after.link.faults
failed_by proto before after most stop serves is =
    let P : Stop → Type 0 = λ s. Serves proto true before after most s in
    failed proto before after most (subst P (stop_is stop is) serves)

-- the blame of the end of some steps on the devices
pub record Blamed (before after : Progress) (end : End) : Type 0 where
  pub words : end ≡ BadWords → ⊥
  pub sink : end ≡ SinkFault → ⊥
  pub files : end ≡ FileFault → after.files.faults ≡ one_more before.files.faults
  pub link : end ≡ LinkFault → one_more before.at.link.faults ≤ after.at.link.faults
  pub device : IsAtDevice end → ⊥

none_blamed : (before after : Progress) (end : End) → (end ≡ Done) ⊎ (end ≡ NoMemory) ⊎ (end ≡ InputEnded)
    → Blamed before after end
none_blamed before after end (inl is) =
    record {
      words = λ e. cc;
      sink = λ e. cc;
      files = λ e. absurd cc;
      link = λ e. absurd cc;
      device = λ d. subst (λ (e : End). IsAtDevice e) is d;
    }
none_blamed before after end (inr (inl is)) =
    record {
      words = λ e. cc;
      sink = λ e. cc;
      files = λ e. absurd cc;
      link = λ e. absurd cc;
      device = λ d. subst (λ (e : End). IsAtDevice e) is d;
    }
none_blamed before after end (inr (inr is)) =
    record {
      words = λ e. cc;
      sink = λ e. cc;
      files = λ e. absurd cc;
      link = λ e. absurd cc;
      device = λ d. subst (λ (e : End). IsAtDevice e) is d;
    }

put_blamed : (before after : Progress) (end : End) → IsEndAtFile end
    → after.files.faults ≡ file_faults_after before.files.faults end → Blamed before after end
put_blamed before after end at faults = record {
  words = (at_file end at).words;
  sink = (at_file end at).sink;
  files = λ is. faults ∙ ap (file_faults_after before.files.faults) is;
  link = λ is. absurd ((at_file end at).link is);
  device = (at_file end at).device;
}

ask_blamed : (count : ℕ) (before after : Progress) (end : End) → EndsAsk count before.at after.at end
    → Blamed before after end
ask_blamed count before after end (inl short) =
    let by = by_link short.stop in record {
      words = λ is. by.words (sym short.end_is ∙ is);
      sink = λ is. by.sink (sym short.end_is ∙ is);
      files = λ is. absurd (by.files (sym short.end_is ∙ is));
      link = λ is. failed_by _ _ _ _ short.stop short.asks.serves (sym short.end_is ∙ is);
      device = λ d. by.device (subst (λ (e : End). IsAtDevice e) short.end_is d);
    }
ask_blamed count before after end (inr over) = none_blamed before after end (inr (inr over.end_is))

-- the step that isn't done
step_blamed : (step : Step) (before after : Progress) (end : End) → EndsAt step before after end
    → Blamed before after end
step_blamed (Put path) before after end ends = put_blamed before after end ends.0.at_file ends.0.faults_are
step_blamed (Expire cutoff) before after end ends = none_blamed before after end (inr (inl ends.1))
step_blamed (Retract name) before after end ends = none_blamed before after end (inr (inl ends.1))
step_blamed (Ask count) before after end ends = ask_blamed count before after end ends.0

-- a step that is done blames no device
record Calm (before after : Progress) : Type 0 where
  files : after.files.faults ≡ before.files.faults
  link : after.at.link.faults ≡ before.at.link.faults

-- a link that goes on neither failed nor ran out of memory
pub calm_stop : (stop : Stop) → end_of_stop stop ≡ InputEnded
    → (stop ≡ stops.Ended ends.LinkFault → ⊥) × (stop ≡ stops.Ended ends.NoMemory → ⊥)
calm_stop stop is = (
  λ e. let same : LinkFault ≡ InputEnded = sym (ap end_of_stop e) ∙ is in cc,
  λ e. let same : NoMemory ≡ InputEnded = sym (ap end_of_stop e) ∙ is in cc,
)

calm_step : (step : Step) (before after : Progress) → IsDone step before after → Calm before after
calm_step (Put path) before after done = record {
  files = ap (λ (shown : FilesShown). shown.faults) done.0.files_are;
  link = ap (λ (shown : LinkShown). shown.faults) done.1.link_is;
}
calm_step (Expire cutoff) before after done = record {
  files = ap (λ (at : Progress). at.files.faults) done;
  link = ap (λ (at : Progress). at.at.link.faults) done;
}
calm_step (Retract name) before after done = record {
  files = ap (λ (at : Progress). at.files.faults) done;
  link = ap (λ (at : Progress). at.at.link.faults) done;
}
calm_step (Ask count) before after done =
    let calm = calm_stop done.0.stop done.0.calm in record {
      files = ap (λ (shown : FilesShown). shown.faults) done.1;
      link = done.0.asks.serves.calm calm.0 calm.1;
    }

-- the steps up to the first that isn't done
pub steps_blamed : (steps : List Step) (before after : Progress) (end : End) (path : List ℕ)
    → DoesSteps steps before after end path → Blamed before after end
unfolding DoesSteps
steps_blamed [] before after end path does = none_blamed before after end (inl does.1)
steps_blamed (step ∷ steps) before after end path (inl (next, done, does)) =
    let later = steps_blamed steps next after end path does in
    let calm = calm_step step before next done in record {
      words = later.words;
      sink = later.sink;
      files = λ is. later.files is ∙ ap one_more calm.files;
      link = λ is. rw (sym calm.link) (later.link is);
      device = later.device;
    }
steps_blamed (step ∷ steps) before after end path (inr (ends, at)) = step_blamed step before after end ends

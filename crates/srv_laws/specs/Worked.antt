-- Whether workers ran over the devices of a run of `serve`.
use Rattle.std.specs.Prelude.{◌≡◌, ◌⊎◌, ℕ}
use Rattle.fm_model.specs.declared.proto.Proto.{Proto}
use Rattle.dev_traits.specs.Opener.{OpenerShown}
use Rattle.srv_words.specs.declared.job.Serving.{Serving}
use Rattle.srv_workers.specs.declared.outcome.Outcome.{Outcome}
use Rattle.srv_serve.specs.Devices.{asked_by, OpensDevices}
use Rattle.srv_alone.specs.Once.{Opens}
use Rattle.srv_serve.specs.Serve.{HasRun}
use Rattle.srv_serve.specs.Shows.{Shows}
use Rattle.srv_serve.specs.Stage.{LeavesDevices, Stage}
use Rattle.srv_serve.specs.Telling.{TellsServing}

-- Nothing was opened: memory ran out, or the prototype wasn't there, or it was refused.
pub record HasNotOpened {D I C : Type 0} (status : ℕ) (stage stage' : Stage D I C) : Type 0 where
  pub leaves : LeavesDevices stage stage'
  pub status_is : (status ≡ 3) ⊎ (status ≡ 4) ⊎ (status ≡ 5) ⊎ (status ≡ 10)

-- No worker ran: the devices are as the opener gave them, and at most it was told that all were opened. Memory ran out,
-- or a door or an inbox wasn't opened.
pub record HasNotWorked {D I C L : Type 0} (show : Shows D I C L) (serving : Serving) (status : ℕ)
    (stage stage' : Stage D I C) : Type 0 where
  pub opened : OpenerShown D I C
  pub told : (stage'.opener ≡ opened) ⊎ TellsServing serving.site.name (asked_by serving) opened stage'.opener
  pub opens : OpensDevices show (asked_by serving) stage.opener.held opened.held stage'.devices
  pub files : stage'.outside.files ≡ stage.outside.files
  pub status_is : (status ≡ 4) ⊎ (status ≡ 6) ⊎ (status ≡ 8)

-- Workers ran over all devices, and over the prototype that was read.
pub record HasWorked {D I C L : Type 0} (show : Shows D I C L) (serving : Serving) (stage stage' : Stage D I C)
    : Type 0 where
  pub proto : Proto
  pub reads : Opens serving.site serving.proto stage.outside.files proto
  pub files : stage'.outside.files ≡ stage.outside.files
  pub outcome : Outcome
  pub run : HasRun show serving proto stage.opener stage'.opener stage'.devices outcome

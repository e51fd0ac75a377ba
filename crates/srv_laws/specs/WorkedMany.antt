-- Whether workers ran over the devices of a run of `many`.
use Rattle.std.specs.Prelude.{◌≡◌, ◌⊎◌, ℕ, List}
use Rattle.fm_model.specs.declared.proto.Proto.{Proto}
use Rattle.dev_traits.specs.Opener.{OpenerShown}
use Rattle.srv_words.specs.declared.job.ServingMany.{ServingMany}
use Rattle.srv_workers.specs.declared.outcome.Outcomes.{Outcomes}
use Rattle.srv_serve.specs.Devices.{OpensDevices}
use Rattle.srv_serve.specs.Many.{asked_by, HasRun, OpensEach, serving_lines}
use Rattle.srv_serve.specs.Shows.{Shows}
use Rattle.srv_serve.specs.Stage.{Stage}
use Rattle.srv_serve.specs.Telling.{TellsLines}

-- No worker ran: the devices are as the opener gave them, and at most it was told that all were opened. Memory ran out,
-- or a door or an inbox wasn't opened.
pub record HasNotWorked {D I C L : Type 0} (show : Shows D I C L) (serving : ServingMany) (status : ℕ)
    (stage stage' : Stage D I C) : Type 0 where
  pub opened : OpenerShown D I C
  pub told : (stage'.opener ≡ opened) ⊎ TellsLines (serving_lines serving) opened stage'.opener
  pub opens : OpensDevices show (asked_by serving) stage.opener.held opened.held stage'.devices
  pub files : stage'.outside.files ≡ stage.outside.files
  pub status_is : (status ≡ 4) ⊎ (status ≡ 6) ⊎ (status ≡ 8)

-- Workers ran over all devices, and over the prototypes that were read.
pub record HasWorked {D I C L : Type 0} (show : Shows D I C L) (serving : ServingMany) (stage stage' : Stage D I C)
    : Type 0 where
  pub protos : List Proto
  pub reads : OpensEach serving.specs stage.outside.files protos
  pub files : stage'.outside.files ≡ stage.outside.files
  pub outcomes : Outcomes
  pub run : HasRun show serving protos stage.opener stage'.opener stage'.devices outcomes

-- The definitions compute.
use Rattle.std.proofs.Common.{refl}
use Rattle.nc_model.specs.Stamp.{mark_of}
use Rattle.fm_model.specs.LoadTimes.{run_by_name}
use Rattle.fm_model.proofs.examples.times.a_name_without_a_mark_has_no_run.Goals as goal

pub returns : goal.returns
unfolding mark_of run_by_name
returns c = refl

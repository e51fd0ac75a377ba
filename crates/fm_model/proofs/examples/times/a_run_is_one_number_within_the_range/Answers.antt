-- The definitions compute.
use Rattle.std.proofs.Common.{refl}
use Rattle.nc_model.specs.Layout.{product}
use Rattle.fm_model.specs.LoadTimes.{is_instant, is_one_number, run_by_variable, run_in_range}
use Rattle.fm_model.proofs.examples.times.a_run_is_one_number_within_the_range.Goals as goal

pub returns-clause-two : goal.returns-clause-two
unfolding product is_instant is_one_number run_by_variable run_in_range
returns-clause-two c = refl

pub returns-clause-characters : goal.returns-clause-characters
unfolding product is_instant is_one_number run_by_variable run_in_range
returns-clause-characters c = refl

pub returns-clause-last : goal.returns-clause-last
unfolding product is_instant is_one_number run_by_variable run_in_range
returns-clause-last c = refl

pub returns-clause-past : goal.returns-clause-past
unfolding product is_instant is_one_number run_by_variable run_in_range
returns-clause-past c = refl

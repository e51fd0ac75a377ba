-- The definitions compute.
use Rattle.std.proofs.Common.{refl}
use Rattle.fm_model.specs.LoadTimes.{time_count}
use Rattle.fm_model.proofs.examples.times.a_file_has_some_times_and_not_too_many.Goals as goal

pub returns-clause-none : goal.returns-clause-none
unfolding time_count
returns-clause-none c = refl

pub returns-clause-most : goal.returns-clause-most
unfolding time_count
returns-clause-most c = refl

pub returns-clause-more : goal.returns-clause-more
unfolding time_count
returns-clause-more c = refl

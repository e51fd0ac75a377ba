-- The definitions compute.
use Rattle.std.proofs.Common.{refl}
use Rattle.std.specs.Int.Count.{count_trailing_zeros}
use Rattle.nc_model.specs.Layout.{element, offset_of, product, rank_in, record_size, vsize}
use Rattle.nc_model.specs.Pattern.{finite, value_of_fields}
use Rattle.nc_model.specs.Reading.{names_record_dim}
use Rattle.fm_model.specs.LoadTimes.{is_instant, seconds_at, time_at, time_in_range}
use Rattle.fm_model.proofs.examples.times.a_time_is_a_whole_number_of_seconds.Goals as goal

pub returns-clause-half : goal.returns-clause-half
unfolding element offset_of product rank_in record_size vsize finite value_of_fields names_record_dim
    count_trailing_zeros
    is_instant seconds_at time_at time_in_range
returns-clause-half c = refl

pub returns-clause-third : goal.returns-clause-third
unfolding element offset_of product rank_in record_size vsize finite value_of_fields names_record_dim
    count_trailing_zeros
    is_instant seconds_at time_at time_in_range
returns-clause-third c = refl

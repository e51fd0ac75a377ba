-- The definitions compute.
use Rattle.std.proofs.Common.{refl}
use Rattle.fm_model.proofs.Computing.{layouts, headers, attributes, variables, stamps, units, loads}
use Rattle.fm_model.proofs.examples.loaded_files.an_axis_has_units_before_a_run_and_times.Goals as goal

pub returns-clause-axis : goal.returns-clause-axis
unfolding layouts headers attributes variables stamps units loads
returns-clause-axis c = refl

pub returns-clause-units : goal.returns-clause-units
unfolding layouts headers attributes variables stamps units loads
returns-clause-units c = refl

pub returns-clause-run : goal.returns-clause-run
unfolding layouts headers attributes variables stamps units loads
returns-clause-run c = refl

pub returns-clause-range : goal.returns-clause-range
unfolding layouts headers attributes variables stamps units loads
returns-clause-range c = refl

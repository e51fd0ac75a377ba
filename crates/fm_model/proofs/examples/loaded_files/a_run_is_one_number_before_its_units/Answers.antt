-- The definitions compute.
use Rattle.std.proofs.Common.{refl}
use Rattle.fm_model.proofs.Computing.{layouts, headers, attributes, variables, stamps, units, loads}
use Rattle.fm_model.proofs.examples.loaded_files.a_run_is_one_number_before_its_units.Goals as goal

pub returns-clause-number : goal.returns-clause-number
unfolding layouts headers attributes variables stamps units loads
returns-clause-number c = refl

pub returns-clause-units : goal.returns-clause-units
unfolding layouts headers attributes variables stamps units loads
returns-clause-units c = refl

pub returns-clause-value : goal.returns-clause-value
unfolding layouts headers attributes variables stamps units loads
returns-clause-value c = refl

pub returns-clause-range : goal.returns-clause-range
unfolding layouts headers attributes variables stamps units loads
returns-clause-range c = refl

-- The definitions compute.
use Rattle.std.proofs.Common.{refl}
use Rattle.fm_model.proofs.Computing.{layouts, headers, attributes, variables, stamps, units, loads}
use Rattle.fm_model.proofs.examples.loaded_files.the_first_time_at_fault_counts.Goals as goal

pub returns-clause-range : goal.returns-clause-range
unfolding layouts headers attributes variables stamps units loads
returns-clause-range c = refl

pub returns-clause-repeated : goal.returns-clause-repeated
unfolding layouts headers attributes variables stamps units loads
returns-clause-repeated c = refl

pub returns-clause-variable : goal.returns-clause-variable
unfolding layouts headers attributes variables stamps units loads
returns-clause-variable c = refl

-- The definitions compute.
use Rattle.std.proofs.Common.{refl}
use Rattle.fm_model.proofs.Computing.{layouts, headers, attributes, variables, stamps, units, loads}
use Rattle.fm_model.proofs.examples.loaded_files.times_are_counted_before_they_are_read.Goals as goal

pub returns-clause-none : goal.returns-clause-none
unfolding layouts headers attributes variables stamps units loads
returns-clause-none c = refl

pub returns-clause-many : goal.returns-clause-many
unfolding layouts headers attributes variables stamps units loads
returns-clause-many c = refl

pub returns-clause-whole : goal.returns-clause-whole
unfolding layouts headers attributes variables stamps units loads
returns-clause-whole c = refl

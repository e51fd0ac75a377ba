-- The definitions compute.
use Rattle.std.proofs.Common.{refl}
use Rattle.fm_model.proofs.Computing.{layouts, headers, attributes, variables, stamps, units, loads}
use Rattle.fm_model.proofs.examples.loaded_files.variables_are_looked_at_in_the_prototypes_order.Goals as goal

pub returns-clause-missing : goal.returns-clause-missing
unfolding layouts headers attributes variables stamps units loads
returns-clause-missing c = refl

pub returns-clause-kind : goal.returns-clause-kind
unfolding layouts headers attributes variables stamps units loads
returns-clause-kind c = refl

pub returns-clause-grid : goal.returns-clause-grid
unfolding layouts headers attributes variables stamps units loads
returns-clause-grid c = refl

pub returns-clause-timed : goal.returns-clause-timed
unfolding layouts headers attributes variables stamps units loads
returns-clause-timed c = refl

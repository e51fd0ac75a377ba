-- The definitions compute.
use Rattle.std.proofs.Common.{refl}
use Rattle.fm_model.proofs.Computing.{layouts, headers, attributes, variables, stamps, units, loads}
use Rattle.fm_model.proofs.examples.loaded_files.a_file_is_loaded_with_the_run_of_its_variable.Goals as goal

pub returns : goal.returns
unfolding layouts headers attributes variables stamps units loads
returns c = refl

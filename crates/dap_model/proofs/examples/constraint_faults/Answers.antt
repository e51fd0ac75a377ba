-- The example texts have these faults at these offsets, by computing.
use Rattle.std.proofs.Common.{refl}
use Rattle.fm_base.specs.Name.{is_name_byte}
use Rattle.dap_model.specs.Constraint.{slab_of}
use Rattle.dap_model.specs.ConstraintReading.{clauses_at, constraint_of, read_from, step, step_name, step_number, step_on, step_to_name}
use Rattle.dap_model.proofs.examples.constraint_faults.Goals as goal

pub returns : goal.returns
unfolding clauses_at constraint_of read_from step step_name step_number step_on step_to_name is_name_byte slab_of
returns c = record {
  selection = refl;
  only_selection = refl;
  no_clause = refl;
  in_slab = refl;
  no_number = refl;
  four_numbers = refl;
  long_number = refl;
  name_after_slab = refl;
}

-- The example constraints have these faults for the dataset, by computing.
use Rattle.std.proofs.Common.{refl}
use Rattle.dap_model.specs.Box.{slab_count, whole_slab}
use Rattle.fm_base.specs.Name.{is_name_byte}
use Rattle.dap_model.specs.Constraint.{slab_of}
use Rattle.dap_model.specs.ConstraintReading.{clauses_at, constraint_of, read_from, step, step_name, step_number, step_on, step_to_name}
use Rattle.dap_model.specs.ClauseFaults.{clause_fault, conflict_fault, decl_fault, first_fault, is_within, range_fault, rank_fault}
use Rattle.dap_model.specs.Picking.{decl_named, given_by, picked_by, picked_part, whole_slabs}
use Rattle.dap_model.specs.Projection.{all_sent, cut_array, cut_parts, decl_sent, is_kept, is_sent, projection_of, sent_of, slabs_of}
use Rattle.dap_model.proofs.examples.projection_faults.Goals as goal

pub returns : goal.returns
unfolding slab_count whole_slab is_name_byte slab_of clauses_at constraint_of read_from step step_name step_number
    step_on step_to_name all_sent clause_fault conflict_fault cut_array cut_parts decl_fault decl_named decl_sent
    first_fault given_by is_kept is_sent is_within picked_by picked_part projection_of range_fault rank_fault sent_of
    slabs_of whole_slabs
returns c = record {
  no_variable = refl;
  no_part = refl;
  part_of_an_array = refl;
  rank = refl;
  rank_of_a_map = refl;
  past_the_end = refl;
  turned = refl;
  no_stride = refl;
  second_slab = refl;
  range_in_a_map = refl;
  conflict = refl;
  conflict_in_a_map = refl;
  conflict_on_a_map = refl;
}

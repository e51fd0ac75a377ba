-- Lemmas on the definitions.
use Rattle.fm_model.proofs.KeptLemmas.{bounds_left_out, climatology_left_out}
use Rattle.fm_model.proofs.laws.proto.views_leave_out_the_bounds_of_the_axis.Goals as goal

pub returns-clause-bounds : goal.returns-clause-bounds
returns-clause-bounds c = bounds_left_out

pub returns-clause-climatology : goal.returns-clause-climatology
returns-clause-climatology c = climatology_left_out

-- An array that is cut has the counts of its slabs as lengths.
use Rattle.dap_model.proofs.ProjectionCutLemmas.{array_lengths-cut_array}
use Rattle.dap_model.proofs.laws.projections.cut_lengths.Goals as goal

pub returns : goal.returns
returns c = array_lengths-cut_array c.args.slabs.now c.args.array.now

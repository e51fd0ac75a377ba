-- What fitting slabs pick lies within the dimensions.
use Rattle.dap_model.proofs.ProjectionFitLemmas.{picked_within}
use Rattle.dap_model.proofs.laws.projections.fit_is_in_range.Goals as goal

pub returns : goal.returns
returns c = picked_within c.args.dims.now c.args.slabs.now c.args.index.now

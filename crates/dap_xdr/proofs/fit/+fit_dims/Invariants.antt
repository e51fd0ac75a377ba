use Rattle.std.proofs.Common.{length}
use Rattle.dap_xdr.proofs.fit.+fit_dims.Given as goal

abbrev pub decreases-fit_dims : goal.decreases-fit_dims
decreases-fit_dims l = length l.dims.now

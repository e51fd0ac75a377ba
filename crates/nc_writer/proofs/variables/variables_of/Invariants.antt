-- The parts that are left, after those that were found, come to what all come to.
use Rattle.std.proofs.Common.{◌≡◌, [], drop}
use Rattle.dap_xdr.specs.Datasets.{content_of}
use Rattle.nc_writer.specs.Variables.{variables_from}
use Rattle.nc_writer.proofs.variables.variables_of.Given as goal

abbrev pub invariant-loop-part : goal.invariant-loop-part
invariant-loop-part l = variables_from (content_of l.source) [] l.sent
    ≡ variables_from (content_of l.source) l.found (drop l.part-index l.sent)

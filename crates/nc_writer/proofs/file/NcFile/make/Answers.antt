-- The variables that are made are few.
use Rattle.std.proofs.Common.{◌<◌, ◌^◌, List, [], length, sym, ap, subst, ◌∙◌}
use Rattle.dap_xdr.specs.Datasets.{content_of}
use Rattle.nc_writer.specs.declared.variable.Variable.{Variable}
use Rattle.nc_writer.specs.Variables.{variables_from}
use Rattle.nc_writer.proofs.VariableLemmas.{variables-few}
use Rattle.nc_writer.proofs.file.NcFile.make.Goals as goal

pub front_of-requires-clause-few : goal.front_of-requires-clause-few
front_of-requires-clause-few c =
    subst (λ (variables : List Variable). length variables < 2 ^ 28) (sym c.as_slice-6.ensures)
    (variables-few c.args.source.now c.args.projected.now.sent c.in_ok-variables.variables
    c.proto-proto.ensures.prototype c.proto-proto.ensures.rows c.requires
    (ap (variables_from (content_of c.args.source.now) []) (sym c.as_slice.ensures) ∙ c.in_ok-variables.ensures))

pub with_front-requires-clause-few : goal.with_front-requires-clause-few
with_front-requires-clause-few c =
    variables-few c.args.source.now c.args.projected.now.sent c.in_ok-variables.variables
    c.proto-proto.ensures.prototype c.proto-proto.ensures.rows c.requires
    (ap (variables_from (content_of c.args.source.now) []) (sym c.as_slice.ensures) ∙ c.in_ok-variables.ensures)

-- The arms that are left are of other kinds.
use Rattle.nc_writer.proofs.data.is_sent_alike.Goals as goal

pub returns-in_default-clause-number : goal.returns-in_default-clause-number
returns-in_default-clause-number c = λ holds e. c.in_default.not-Text e

pub returns-in_default-clause-same : goal.returns-in_default-clause-same
returns-in_default-clause-same c = λ holds e. c.in_default.not-Int16 e

-- What is read is what would be written.
use Rattle.tm_units.proofs.InstantLaws.{written_if_read}
use Rattle.tm_units.proofs.instant.read_instant.Goals as goal

pub returns-clause-written : goal.returns-clause-written
returns-clause-written c = written_if_read c.args.text.now c.moment_in.result c.moment_in.ensures

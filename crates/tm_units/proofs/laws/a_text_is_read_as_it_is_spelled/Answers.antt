-- What is spelled is read, and what is read is spelled.
use Rattle.tm_units.proofs.UnitsLaws.{written-from_read, read-from_written}
use Rattle.tm_units.proofs.laws.a_text_is_read_as_it_is_spelled.Goals as goal

pub returns-clause-spelled : goal.returns-clause-spelled
returns-clause-spelled c = written-from_read

pub returns-clause-read : goal.returns-clause-read
returns-clause-read c = read-from_written

-- The law is the lemma.
use Rattle.nc_writer.proofs.BackLemmas.{written-reads-back}
use Rattle.nc_writer.proofs.laws.a_file_is_read_back.Goals as goal

pub returns : goal.returns
returns c = written-reads-back

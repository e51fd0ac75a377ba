-- Lemmas on the definitions.
use Rattle.fm_load.proofs.AcceptLemmas.{file-accepted}
use Rattle.fm_load.proofs.laws.a_file_is_taken_where_each_step_accepts_it.Goals as goal

pub returns : goal.returns
returns c = file-accepted

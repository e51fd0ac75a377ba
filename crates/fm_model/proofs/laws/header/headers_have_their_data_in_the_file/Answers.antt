-- Lemmas on the definitions.
use Rattle.fm_model.proofs.HeaderLemmas.{proto_has_data, file_has_data}
use Rattle.fm_model.proofs.laws.header.headers_have_their_data_in_the_file.Goals as goal

pub returns-clause-proto : goal.returns-clause-proto
returns-clause-proto c = proto_has_data

pub returns-clause-file : goal.returns-clause-file
returns-clause-file c = file_has_data

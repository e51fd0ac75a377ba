-- Lemmas on the definitions.
use Rattle.fm_model.proofs.LoadLemmas.{one_file, name-load_of, content-load_of, Fits-load_of}
use Rattle.fm_model.proofs.laws.load.loading_accepts_one_file.Goals as goal

pub returns-clause-one : goal.returns-clause-one
returns-clause-one c = one_file

pub returns-clause-name : goal.returns-clause-name
returns-clause-name c = name-load_of

pub returns-clause-content : goal.returns-clause-content
returns-clause-content c = content-load_of

pub returns-clause-fits : goal.returns-clause-fits
returns-clause-fits c = Fits-load_of

-- Lemmas on the definitions.
use Rattle.fm_model.proofs.RetractLemmas.{Contains-retract, retract-one, retract-append, retract-retract, retract-put}
use Rattle.fm_model.proofs.laws.collection.a_retraction_takes_out_the_file_of_its_name.Goals as goal

pub returns-clause-kept : goal.returns-clause-kept
returns-clause-kept c = Contains-retract

pub returns-clause-one : goal.returns-clause-one
returns-clause-one c = retract-one

pub returns-clause-order : goal.returns-clause-order
returns-clause-order c = retract-append

pub returns-clause-again : goal.returns-clause-again
returns-clause-again c = retract-retract

pub returns-clause-put : goal.returns-clause-put
returns-clause-put c = retract-put

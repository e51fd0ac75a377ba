-- Lemmas on the definitions.
use Rattle.fm_model.proofs.RetractLemmas.{holds_both, retract-none, holds_older_both, expire-none}
use Rattle.fm_model.proofs.laws.collection.what_is_not_held_is_not_taken_out.Goals as goal

pub returns-clause-name : goal.returns-clause-name
returns-clause-name c = holds_both

pub returns-clause-retract : goal.returns-clause-retract
returns-clause-retract c = retract-none

pub returns-clause-older : goal.returns-clause-older
returns-clause-older c = holds_older_both

pub returns-clause-expire : goal.returns-clause-expire
returns-clause-expire c = expire-none

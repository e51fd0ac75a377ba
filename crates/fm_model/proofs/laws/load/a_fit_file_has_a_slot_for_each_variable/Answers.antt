-- Lemmas on the definitions.
use Rattle.fm_model.proofs.SlotLemmas.{slots_count, slots_each}
use Rattle.fm_model.proofs.laws.load.a_fit_file_has_a_slot_for_each_variable.Goals as goal

pub returns-clause-count : goal.returns-clause-count
returns-clause-count c = slots_count

pub returns-clause-each : goal.returns-clause-each
returns-clause-each c = slots_each

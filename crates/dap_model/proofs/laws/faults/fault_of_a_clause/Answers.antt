-- Each fault says what is wrong.
use Rattle.dap_model.proofs.FaultFactsLemmas.{clause_fault-says}
use Rattle.dap_model.proofs.laws.faults.fault_of_a_clause.Goals as goal

pub returns : goal.returns
returns c = clause_fault-says c.args.decls.now c.args.earlier.now c.args.clause.now c.args.fault.now

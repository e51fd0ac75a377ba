-- Where no fault is found, the slabs of a clause fit and agree.
use Rattle.dap_model.proofs.FaultFactsLemmas.{clause_fault-none}
use Rattle.dap_model.proofs.laws.faults.clause_without_a_fault.Goals as goal

pub returns : goal.returns
returns c = clause_fault-none c.args.decls.now c.args.earlier.now c.args.clause.now

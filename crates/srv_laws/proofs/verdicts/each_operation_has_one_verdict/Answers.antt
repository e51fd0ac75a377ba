-- As many operations as the log has are spoken of, each once.
use Rattle.srv_laws.proofs.AloneLemmas.{one-verdict}
use Rattle.srv_laws.proofs.verdicts.each_operation_has_one_verdict.Goals as goal

pub returns : goal.returns
returns c = one-verdict

use Rattle.std.proofs.Common.{ap₂}
use Rattle.srv_workers.specs.Both.{first_then}
use Rattle.srv_workers.proofs.both.AndDeskDesks.receipts.Goals as goal

-- that of the first desk, and those of the others
pub returns : goal.returns
returns g c = ap₂ (λ log more. first_then log more) c.receipt.ensures c.receipts.ensures

use Rattle.std.proofs.Common.{arith, refl}
use Rattle.srv_workers.proofs.last.DeskBehind.know.Goals as goal

-- there is one prototype
pub returns-clause-protos : goal.returns-clause-protos
returns-clause-protos g c passes = refl

pub returns-clause-stills : goal.returns-clause-stills
returns-clause-stills g c passes = refl

pub returns-clause-within : goal.returns-clause-within
returns-clause-within g c hand = omega arith

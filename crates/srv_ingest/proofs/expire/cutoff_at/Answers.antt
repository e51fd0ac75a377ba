-- Both numbers fit their types.
use Rattle.std.proofs.Common.{arith}
use Rattle.std.proofs.lemmas.Int.{to_z-of_z}
use Rattle.srv_ingest.proofs.expire.cutoff_at.Goals as goal

pub returns : goal.returns
returns c = grind (arith, to_z-of_z)

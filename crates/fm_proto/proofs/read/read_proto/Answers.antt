-- Bytes that are a prototype are one for a collection.
use Rattle.std.proofs.Common.{rules}
use Rattle.fm_proto.proofs.PrototypeLemmas.{prototype_of_answer}
use Rattle.fm_proto.proofs.read.read_proto.Goals as goal

pub returns-clause-prototype : goal.returns-clause-prototype
returns-clause-prototype c at few =
    prototype_of_answer c.args.bytes c.args.site c.prototype_in.result (search rules) at few

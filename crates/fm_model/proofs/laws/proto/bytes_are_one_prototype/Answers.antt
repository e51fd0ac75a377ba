-- Lemmas on the definitions.
use Rattle.fm_model.proofs.ProtoLemmas.{one_proto, site-proto_of}
use Rattle.fm_model.proofs.laws.proto.bytes_are_one_prototype.Goals as goal

pub returns-clause-one : goal.returns-clause-one
returns-clause-one c = one_proto

pub returns-clause-site : goal.returns-clause-site
returns-clause-site c = site-proto_of

-- Lemmas on the definitions.
use Rattle.fm_model.proofs.ProtoLemmas.{IsSound-proto_of, IsSound-given}
use Rattle.fm_model.proofs.laws.proto.a_prototype_is_sound.Goals as goal

pub returns-clause-read : goal.returns-clause-read
returns-clause-read c = IsSound-proto_of

pub returns-clause-given : goal.returns-clause-given
returns-clause-given c = IsSound-given

-- A seat that has seen nothing may come at any time.
use Rattle.pub_pass.proofs.Entering.{comes}
use Rattle.pub_pass.proofs.pass.Pass.sit.Goals as goal

pub reader-requires : goal.reader-requires
reader-requires g c shown views is = comes g.N.Name.book g.N.Name.proto shown views is

-- The empty edition stands for no operations.
use Rattle.pub_look.proofs.HistoryLemmas.{Keeps-none}
use Rattle.pub_look.proofs.plain.Plain.open.Goals as goal

pub invariant_of-result : goal.invariant_of-result
invariant_of-result c = rw (c.in_ok-edition.ensures, c.new.ensures) (Keeps-none c.args.proto c.requires)

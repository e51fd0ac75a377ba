-- A slab, a name and a size.
use Rattle.std.proofs.Common.{codes}
use Rattle.std.specs.Fmt.{decimal}
use Rattle.dap_reply.proofs.MessageLemmas.{of_three}
use Rattle.dap_reply.proofs.message.put_slab_range.Goals as goal

pub returns : goal.returns
returns c =
    of_three c.put_numbered-2.result c.args.out.now c.put_numbered.new.out c.put_named.new.out c.put_numbered-2.new.out
    (codes "slab ") (decimal c.args.dim) (codes " of ") c.args.name.now (codes " is outside ") (decimal c.args.size)
    c.in_ok-put_numbered.ensures c.in_ok-put_named.ensures c.put_numbered-2.ensures

-- The bytes taken in all are those from before and the ones given now.
use Rattle.dev_traits.proofs.LinkLemmas.{after_take_more}
use Rattle.dev_memory.proofs.mem_link.MemLinkLink.take.Goals as goal

pub returns-clause-taken : goal.returns-clause-taken
returns-clause-taken c =
    let link = c.args.self.now in
    after_take_more link.taken c.copy_front-count.result link.input link.output.bytes.items

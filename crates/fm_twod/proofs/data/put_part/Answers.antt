-- Behind the end of a part there is nothing to write.
use Rattle.std.proofs.Common.{◌≤◌, ℕ, subst}
use Rattle.dap_xdr.specs.Content.{part_data}
use Rattle.fm_twod.specs.Laid.{content_of}
use Rattle.dap_plan.proofs.DataLemmas.{part-past}
use Rattle.fm_twod.proofs.data.put_part.Goals as goal

pub returns-then-from-len : goal.returns-then-from-len
returns-then-from-len c =
    part-past (part_data (content_of c.args.grid.now) c.args.part.now) c.args.out.now c.args.from
    (subst (λ (n : ℕ). n ≤ c.args.from) c.requires.len c.if-from-len.true)

use Rattle.std.proofs.Common.{arith}
use Rattle.nc_layout.proofs.OffsetLemmas.{part-within}
use Rattle.nc_layout.proofs.elements.part_begin_of.Goals as goal

pub overflow_mul-result : goal.overflow_mul-result
overflow_mul-result c =
    let fits = part-within _ _ c.args.k c.args.recsize _ c.requires.recsize c.requires.within c.requires.part in
    rw c.from-2.ensures (omega arith)

pub overflow_add-result : goal.overflow_add-result
overflow_add-result c =
    let fits = part-within _ _ c.args.k c.args.recsize _ c.requires.recsize c.requires.within c.requires.part in
    rw (c.from.ensures, c.from-2.ensures) (omega arith)

pub overflow_cast-result : goal.overflow_cast-result
overflow_cast-result c =
    let fits = part-within _ _ c.args.k c.args.recsize _ c.requires.recsize c.requires.within c.requires.part in
    rw (c.from.ensures, c.from-2.ensures) (omega arith)

pub returns-clause-within : goal.returns-clause-within
returns-clause-within c =
    rw (c.from.ensures, c.from-2.ensures)
    (part-within _ _ c.args.k c.args.recsize _ c.requires.recsize c.requires.within c.requires.part)

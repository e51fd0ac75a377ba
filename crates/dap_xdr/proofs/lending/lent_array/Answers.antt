-- The numbers stand behind their counts.
use Rattle.std.proofs.Common.{ℕ, List, take, drop, length, ap, ◌∙◌}
use Rattle.dap_xdr.proofs.DataLemmas.{data-numbers}
use Rattle.dap_xdr.proofs.LendingLemmas.{numbers-front}
use Rattle.dap_xdr.proofs.lending.lent_array.Goals as goal

pub returns : goal.returns
returns c =
    let front = c.lent_numbers.result.now in
    ap (λ (l : List ℕ). take (length front) (drop c.args.from l))
    (data-numbers c.args.part.now c.requires.number c.requires.many)
    ∙ numbers-front c.args.part.now c.args.from front c.requires.behind c.lent_numbers.ensures

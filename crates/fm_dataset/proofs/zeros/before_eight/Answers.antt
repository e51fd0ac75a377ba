use Rattle.std.proofs.Common.{Some, sym, ap, ◌∙◌, ◌++◌, replicate, List, ℕ, arith}
use Rattle.fm_dataset.proofs.ZeroLemmas.{before_zeros}
use Rattle.fm_dataset.proofs.zeros.before_eight.Goals as goal

pub returns-in-Some-eq0 : goal.returns-in-Some-eq0
returns-in-Some-eq0 c =
    let zero = sym c.be64.ensures ∙ c.in-Some-eq0.is ∙ ap Some c.in-Some-eq0.field-0-test in
    before_zeros c.args.bytes.now (omega (arith, c.if-bytes-lt8.false)) zero
    ∙ ap (λ (l : List ℕ). l ++ replicate 8 0) (sym c.split_at.ensures.front)

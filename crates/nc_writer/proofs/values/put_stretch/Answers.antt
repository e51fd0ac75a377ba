-- What stands together is whole values.
use Rattle.std.proofs.Common.{ℕ, ◌<◌, ◌/◌, length, sym, ap, subst, arith}
use Rattle.dap_number.proofs.FrontLemmas.{put-left}
use Rattle.nc_writer.proofs.SentLemmas.{sent-fits}
use Rattle.nc_writer.proofs.TurnLemmas.{stretch-turn}
use Rattle.nc_writer.proofs.ValueLemmas.{value-some}
use Rattle.nc_writer.proofs.values.put_stretch.Goals as goal

pub stretch-numbers-requires : goal.stretch-numbers-requires
stretch-numbers-requires c = sent-fits c.args.source.now c.args.variable.now c.requires.variable

pub nonzero_div-values : goal.nonzero_div-values
nonzero_div-values c =
    subst (λ (n : ℕ). 0 < n) (sym c.value_len-width.ensures)
    (value-some c.args.source.now c.args.variable.now c.requires.variable)

pub returns-clause-some : goal.returns-clause-some
returns-clause-some c = λ some.
    stretch-turn c.args.source.now c.args.variable.now c.args.element c.args.passed _ c.stretch-numbers.result.now
    c.args.out.now c.put-bytes.new.out c.requires.variable c.requires.element c.stretch-numbers.ensures
    (ap (λ (n : ℕ). length c.stretch-numbers.result.now / n) c.value_len-width.ensures) (omega (arith, some))
    (put-left _ c.args.out.now c.put-bytes.new.out c.args.passed c.put-bytes.result c.put-bytes.ensures.count
    c.put-bytes.ensures.bytes)

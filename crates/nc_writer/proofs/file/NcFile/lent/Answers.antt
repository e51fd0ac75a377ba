-- What is lent is of the header or of the data.
use Rattle.std.proofs.Common.{◌≡◌, length, take, drop, subst, ap, arith}
use Rattle.nc_writer.specs.File.{bytes_of, File}
use Rattle.nc_writer.proofs.LendingLemmas.{lent-behind, lent-front}
use Rattle.nc_writer.proofs.LimitLemmas.{asked-of}
use Rattle.nc_writer.proofs.file.NcFile.lent.Goals as goal

pub returns-then-from-begin : goal.returns-then-from-begin
returns-then-from-begin c =
    subst (λ (file : File). take (length c.split_at.result.1.now) (drop c.args.from (bytes_of file))
    ≡ c.split_at.result.1.now) c.self.view_is
    (lent-front _ c.as_slice.result.now c.split_at.result.1.now c.args.from c.as_slice.ensures
    (omega (arith, c.if-from-begin.true, c.len-begin.ensures, ap length c.as_slice.ensures)) c.split_at.ensures.back)

pub lent_data-requires : goal.lent_data-requires
lent_data-requires c =
    let asked = asked-of _ c.self.inside.len c.as_slice-2.result.now c.self.invariant c.as_slice-2.ensures in
    record { each = asked.each; small = asked.small }

pub returns : goal.returns
returns c =
    subst (λ (file : File). take (length c.lent_data.result.now) (drop c.args.from (bytes_of file))
    ≡ c.lent_data.result.now) c.self.view_is
    (lent-behind _ c.len-begin.result c.args.from c.as_slice-2.result.now c.lent_data.result.now c.len-begin.ensures
    c.as_slice-2.ensures c.if-from-begin.false c.lent_data.ensures)

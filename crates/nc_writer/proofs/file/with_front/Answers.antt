-- The length decides.
use Rattle.std.proofs.Common.{ap, ◌∙◌, arith}
use Rattle.std.specs.List.{sum_by}
use Rattle.nc_writer.specs.Data.{data_len}
use Rattle.nc_writer.proofs.LimitLemmas.{file-len, over, under}
use Rattle.nc_writer.proofs.file.with_front.Goals as goal

pub returns-then-len-from : goal.returns-then-len-from
returns-then-len-from c =
    over (record { front = c.args.front; shown = c.args.source.now; variables = c.args.variables })
    c.all_len-behind.result c.len-begin.result
    (c.all_len-behind.ensures.exact ∙ ap (sum_by data_len) c.as_slice.ensures)
    c.len-begin.ensures
    (omega (arith, c.if-len-from.true))

pub returns : goal.returns
returns c =
    under (record { front = c.args.front; shown = c.args.source.now; variables = c.args.variables })
    c.all_len-behind.result c.len-begin.result
    (c.all_len-behind.ensures.exact ∙ ap (sum_by data_len) c.as_slice.ensures)
    c.len-begin.ensures
    (omega (arith, c.if-len-from.false))

pub invariant_of-result : goal.invariant_of-result
invariant_of-result c = record {
  each = c.requires.each;
  len_is = file-len (record { front = c.args.front; shown = c.args.source.now; variables = c.args.variables })
      c.all_len-behind.result c.len-begin.result
      (c.all_len-behind.ensures.exact ∙ ap (sum_by data_len) c.as_slice.ensures)
      c.len-begin.ensures;
  few = omega (arith, c.if-len-from.false);
}

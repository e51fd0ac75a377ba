-- Each turn writes the data of one variable.
use Rattle.std.proofs.Common.{◌≡◌, sym, ◌∙◌, arith}
use Rattle.dap_xdr.specs.Datasets.{content_of}
use Rattle.nc_writer.specs.Data.{data_bytes, data_len}
use Rattle.nc_writer.specs.File.{all_data}
use Rattle.nc_writer.proofs.LenLemmas.{data-least, each-at, length-data, values-least}
use Rattle.nc_writer.proofs.PieceLemmas.{so-far-done, so-far-first, so-far-full, so-far-next}
use Rattle.nc_writer.specs.Facts.{IsVariableOf}
use Rattle.nc_writer.proofs.data.put_all.Goals as goal

pub loop-at-init : goal.loop-at-init
loop-at-init c = (
  omega arith,
  so-far-first (data_bytes (content_of c.args.source.now)) c.args.variables.now c.args.from 0 c.args.from
      c.args.out.now (omega arith) (omega arith),
)

pub short_len-len-requires : goal.short_len-len-requires
short_len-len-requires c =
    let variable = c.index-variables-at.result in
    let least = data-least c.args.source.now c.args.variables.now c.loop-at.at variable c.loop-at-test.true
    c.index-variables-at.is in
    record {
      variable = each-at (IsVariableOf c.args.source.now) c.args.variables.now c.loop-at.at variable c.requires.each
          c.loop-at-test.true c.index-variables-at.is;
      small = omega (arith, least, c.requires.small);
    }

pub put_variable-filled-requires : goal.put_variable-filled-requires
put_variable-filled-requires c =
    let variable = c.index-variables-at.result in
    let least = data-least c.args.source.now c.args.variables.now c.loop-at.at variable c.loop-at-test.true
    c.index-variables-at.is in
    record {
      variable = each-at (IsVariableOf c.args.source.now) c.args.variables.now c.loop-at.at variable c.requires.each
          c.loop-at-test.true c.index-variables-at.is;
      small = omega (arith, least, values-least variable, c.requires.small);
      from = omega (arith, c.loop-at.invariant.0, c.requires.from);
    }

pub loop-at-preserved : goal.loop-at-preserved
loop-at-preserved c =
    let content = content_of c.args.source.now in
    let variables = c.args.variables.now in
    let variable = c.index-variables-at.result in
    let len : c.short_len-len.result ≡ data_len variable = c.short_len-len.ensures in (
      omega (arith, c.loop-at.invariant.0, c.saturating_sub-left.ensures),
      so-far-next (data_bytes content) variables variable c.args.from c.loop-at.filled c.loop-at.at
          c.loop-at.left c.put_variable-filled.result c.short_len-len.result c.saturating_sub-left.result
          c.args.out.now c.loop-at.out c.split_at_mut-rest.result.0.now c.split_at_mut-rest.result.1.now
          c.put_variable-filled.new.out c.loop-at.invariant.1 c.loop-at-test.true
          (sym c.index-variables-at.is) c.split_at_mut-rest.ensures.value c.split_at_mut-rest.ensures.front_len
          (len ∙ sym (length-data content variable)) c.put_variable-filled.ensures c.saturating_sub-left.ensures,
    )

pub returns-else-filled-out : goal.returns-else-filled-out
unfolding all_data
returns-else-filled-out c =
    so-far-full (data_bytes (content_of c.args.source.now)) c.args.variables.now c.args.from c.loop-at.filled
    c.loop-at.at c.loop-at.left c.args.out.now c.loop-at.out c.loop-at.invariant.1 c.if-filled-out.false

pub returns-after-loop-at : goal.returns-after-loop-at
unfolding all_data
returns-after-loop-at c =
    so-far-done (data_bytes (content_of c.args.source.now)) c.args.variables.now c.args.from c.loop-at.filled
    c.loop-at.at c.loop-at.left c.args.out.now c.loop-at.out c.loop-at.invariant.1
    c.loop-at-test.false

-- The header is written, and the data behind it.
use Rattle.std.proofs.Common.{arith}
use Rattle.dap_number.proofs.FrontLemmas.{put-behind}
use Rattle.nc_writer.specs.File.{all_data}
use Rattle.nc_writer.proofs.file.put_file.Goals as goal

pub put_all-requires : goal.put_all-requires
put_all-requires c = record {
  each = c.requires.each;
  small = c.requires.small;
  from = omega (arith, c.saturating_sub.ensures, c.requires.from);
}

pub returns : goal.returns
returns c =
    put-behind c.args.front.now (all_data c.args.source.now c.args.variables.now) c.args.out.now c.put-count.new.out
    c.split_at_mut-rest.result.0.now c.split_at_mut-rest.result.1.now c.put_all.new.out c.args.from
    c.put-count.result c.put_all.result c.saturating_sub.result c.put-count.ensures.count c.put-count.ensures.bytes
    c.split_at_mut-rest.ensures.value c.split_at_mut-rest.ensures.front_len
    c.saturating_sub.ensures c.put_all.ensures

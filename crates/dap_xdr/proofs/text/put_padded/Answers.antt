-- The zero bytes stand behind the text.
use Rattle.std.proofs.Common.{length}
use Rattle.dap_model.specs.Xdr.{zeros_after}
use Rattle.dap_number.proofs.FrontLemmas.{put-behind}
use Rattle.dap_xdr.proofs.text.put_padded.Goals as goal

pub returns : goal.returns
returns c =
    put-behind c.args.text.now (zeros_after (length c.args.text.now))
    c.args.out.now c.put-count.new.out c.split_at_mut-rest.result.0.now c.split_at_mut-rest.result.1.now
    c.put_zeros.new.out c.args.from c.put-count.result c.put_zeros.result c.saturating_sub.result
    c.put-count.ensures.count c.put-count.ensures.bytes
    c.split_at_mut-rest.ensures.value c.split_at_mut-rest.ensures.front_len c.saturating_sub.ensures c.put_zeros.ensures

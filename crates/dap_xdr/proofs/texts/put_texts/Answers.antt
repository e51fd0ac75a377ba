-- The texts stand behind their count.
use Rattle.std.proofs.Common.{◌∙◌, ap}
use Rattle.std.specs.Int.{w32, to_be_bytes}
use Rattle.dap_xdr.proofs.TextsLemmas.{texts-start}
use Rattle.dap_xdr.proofs.texts.put_texts.Goals as goal

pub returns : goal.returns
returns c =
    texts-start c.args.part.now c.count_bytes.result c.args.out.now c.put-count.new.out
    c.split_at_mut-rest.result.0.now c.split_at_mut-rest.result.1.now c.put_texts_from.new.out c.args.from
    c.put-count.result c.put_texts_from.result c.saturating_sub.result
    (c.count_bytes.ensures ∙ ap (to_be_bytes w32) c.count.ensures) c.put-count.ensures.count
    c.put-count.ensures.bytes c.split_at_mut-rest.ensures.value c.split_at_mut-rest.ensures.front_len
    c.saturating_sub.ensures c.put_texts_from.ensures

-- The text stands behind its length.
use Rattle.std.proofs.Common.{ℕ, ◌-◌, ◌++◌, List, drop, length, min, ap, ◌∙◌}
use Rattle.std.specs.Int.{w32, to_be_bytes}
use Rattle.dap_model.specs.Xdr.{text_bytes, zeros_after}
use Rattle.dap_number.specs.Overlay.{overlay}
use Rattle.dap_number.proofs.FrontLemmas.{put-behind}
use Rattle.dap_xdr.proofs.text.put_text.Goals as goal

pub returns : goal.returns
unfolding text_bytes
returns c =
    let text = c.args.text.now in
    let head = c.count_bytes.ensures in
    put-behind (to_be_bytes w32 (length text)) (text ++ zeros_after (length text))
    c.args.out.now c.put-count.new.out c.split_at_mut-rest.result.0.now c.split_at_mut-rest.result.1.now
    c.put_padded.new.out c.args.from c.put-count.result c.put_padded.result c.saturating_sub.result
    (c.put-count.ensures.count ∙ ap (λ (l : List ℕ). min (length c.args.out.now) (length l - c.args.from)) head)
    (c.put-count.ensures.bytes ∙ ap (λ (l : List ℕ). overlay (drop c.args.from l) c.args.out.now) head)
    c.split_at_mut-rest.ensures.value c.split_at_mut-rest.ensures.front_len c.saturating_sub.ensures
    c.put_padded.ensures

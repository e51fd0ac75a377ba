-- The zero bytes stand behind the text.
use Rattle.std.proofs.Common.{◌≡◌, ℕ, ◌+◌, ◌-◌, ◌++◌, List, drop, length, min, replicate, sym, ap, subst, ◌∙◌}
use Rattle.dap_number.specs.Overlay.{IsPut}
use Rattle.dap_number.proofs.FrontLemmas.{put-behind}
use Rattle.nc_writer.proofs.ValueLemmas.{shown-front}
use Rattle.nc_writer.proofs.values.put_text.Goals as goal

pub returns : goal.returns
returns c =
    let text = c.args.text.now in
    let width = c.args.width in
    let len : c.min-len.result ≡ min (length text) width = c.min-len.ensures in
    let front = shown-front text width c.min-len.result c.split_at.result.0.now len
    c.split_at.ensures.front in
    subst (λ (l : List ℕ). IsPut (drop c.args.from l) c.args.out.now
    (c.split_at_mut-rest.result.0.now ++ c.put_fill.new.out) (c.put-count.result + c.put_fill.result)) (sym front.whole)
    (put-behind c.split_at.result.0.now (replicate (width - c.min-len.result) 0)
    c.args.out.now c.put-count.new.out c.split_at_mut-rest.result.0.now c.split_at_mut-rest.result.1.now
    c.put_fill.new.out c.args.from c.put-count.result c.put_fill.result c.saturating_sub.result
    c.put-count.ensures.count c.put-count.ensures.bytes
    c.split_at_mut-rest.ensures.value c.split_at_mut-rest.ensures.front_len
    (c.saturating_sub.ensures ∙ ap (λ (n : ℕ). c.args.from - n) (sym front.long)) c.put_fill.ensures)

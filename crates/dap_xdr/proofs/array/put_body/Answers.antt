-- The zero bytes stand behind the numbers.
use Rattle.std.proofs.Common.{◌≡◌, ℕ, ◌-◌, ◌*◌, drop, length, sym, ap, ap₂, subst, ◌∙◌}
use Rattle.dap_model.specs.Box.{box_len}
use Rattle.dap_model.specs.Xdr.{element_len, zeros_after}
use Rattle.dap_xdr.specs.Portion.{body_of, numbers_from}
use Rattle.dap_number.specs.Overlay.{IsPut}
use Rattle.dap_xdr.proofs.ElementLemmas.{length-all}
use Rattle.dap_number.proofs.FrontLemmas.{put-behind}
use Rattle.dap_xdr.proofs.array.put_body.Goals as goal

pub returns : goal.returns
unfolding body_of
returns c =
    let n = c.args.part.now in
    let len : c.count.result * c.element_len.result ≡ box_len n.sent.slabs * element_len n.array.kind =
    ap₂ (λ (a b : ℕ). a * b) c.count.ensures (c.element_len.ensures ∙ ap element_len c.kind.ensures) in
    let left : c.saturating_sub.result ≡ c.args.from - length (numbers_from n 0) =
    c.saturating_sub.ensures ∙ ap (λ (m : ℕ). c.args.from - m) (len ∙ sym (length-all n)) in
    put-behind (numbers_from n 0) (zeros_after (box_len n.sent.slabs * element_len n.array.kind))
    c.args.out.now c.put_elements-count.new.out c.split_at_mut-rest.result.0.now c.split_at_mut-rest.result.1.now
    c.put_zeros.new.out c.args.from c.put_elements-count.result c.put_zeros.result c.saturating_sub.result
    c.put_elements-count.ensures.count c.put_elements-count.ensures.bytes c.split_at_mut-rest.ensures.value
    c.split_at_mut-rest.ensures.front_len left
    (subst (λ (m : ℕ). IsPut (drop c.saturating_sub.result (zeros_after m)) c.split_at_mut-rest.result.1.now
    c.put_zeros.new.out c.put_zeros.result) len c.put_zeros.ensures)

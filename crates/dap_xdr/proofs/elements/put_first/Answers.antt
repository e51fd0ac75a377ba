-- The element is the first of what is left.
use Rattle.std.proofs.Common.{◌≡◌, ℕ, ◌-◌, List, drop, length, min, sym, ap, ap₂, subst, ◌∙◌, arith}
use Rattle.dap_model.specs.Box.{index_at}
use Rattle.dap_model.specs.Xdr.{element_bytes, element_len}
use Rattle.dap_model.proofs.XdrLemmas.{length-element_bytes}
use Rattle.dap_number.specs.Front.{IsFront}
use Rattle.dap_xdr.specs.Portion.{bits_in, numbers_from}
use Rattle.dap_number.specs.Overlay.{overlay}
use Rattle.dap_xdr.proofs.ElementLemmas.{one-front}
use Rattle.dap_xdr.proofs.elements.put_first.Goals as goal

pub returns-clause-some : goal.returns-clause-some
returns-clause-some c =
    let long : length (element_bytes c.kind.result c.bits-bits.result) ≡ element_len c.args.part.now.array.kind =
    length-element_bytes c.kind.result c.bits-bits.result ∙ ap element_len c.kind.ensures in
    omega (arith, long, c.requires.skip, c.requires.room, c.put_element.ensures.count)

pub returns-clause-front : goal.returns-clause-front
returns-clause-front c =
    let n = c.args.part.now in
    let one : element_bytes c.kind.result c.bits-bits.result
    ≡ element_bytes n.array.kind (bits_in n (index_at n.sent.slabs c.args.at.element)) =
    ap₂ element_bytes c.kind.ensures (c.bits-bits.ensures.exact ∙ ap (bits_in n) c.requires.index) in
    subst (λ (new : List ℕ). IsFront (drop c.args.at.skip (numbers_from n c.args.at.element)) c.args.out.now new
    c.put_element.result)
    (sym (c.put_element.ensures.bytes ∙ ap (λ (l : List ℕ). overlay (drop c.args.at.skip l) c.args.out.now) one))
    (one-front n c.args.at.element c.args.at.skip c.put_element.result c.args.out.now c.requires.element
    (c.put_element.ensures.count ∙ ap (λ (l : List ℕ). min (length c.args.out.now) (length l - c.args.at.skip)) one))

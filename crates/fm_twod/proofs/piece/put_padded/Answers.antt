-- The zero bytes stand behind the numbers.
use Rattle.std.proofs.Common.{◌≡◌, ℕ, ◌-◌, ◌*◌, drop, length, min, sym, ap, ap₂, subst, ◌∙◌}
use Rattle.std.proofs.lemmas.List.{length-drop}
use Rattle.dap_model.specs.Box.{box_len}
use Rattle.dap_model.specs.Xdr.{element_len, zeros_after}
use Rattle.dap_number.specs.Overlay.{IsPut}
use Rattle.dap_number.proofs.FrontLemmas.{put-behind}
use Rattle.fm_twod.specs.Chosen.{body_of, items_of}
use Rattle.fm_twod.proofs.ValueLemmas.{items-long}
use Rattle.fm_twod.proofs.piece.put_padded.Goals as goal

pub returns : goal.returns
unfolding body_of
returns c =
    let s = c.args.section.now in
    let len : c.count.result * c.element_len.result ≡ box_len s.sent.slabs * element_len s.array.kind =
    ap₂ (λ (a b : ℕ). a * b) c.count.ensures (c.element_len.ensures ∙ ap element_len c.kind.ensures) in
    let left : c.saturating_sub.result ≡ c.args.from - length (items_of s) =
    c.saturating_sub.ensures ∙ ap (λ (m : ℕ). c.args.from - m) (len ∙ sym (items-long s c.requires.number)) in
    put-behind (items_of s) (zeros_after (box_len s.sent.slabs * element_len s.array.kind))
    c.args.out.now c.put_numbers-count.new.out c.split_at_mut-rest.result.0.now c.split_at_mut-rest.result.1.now
    c.put_zeros.new.out c.args.from c.put_numbers-count.result c.put_zeros.result c.saturating_sub.result
    (c.put_numbers-count.ensures.count_is
    ∙ ap (λ (m : ℕ). min (length c.args.out.now) m) (length-drop c.args.from (items_of s)))
    c.put_numbers-count.ensures.new_is c.split_at_mut-rest.ensures.value c.split_at_mut-rest.ensures.front_len left
    (subst (λ (m : ℕ). IsPut (drop c.saturating_sub.result (zeros_after m)) c.split_at_mut-rest.result.1.now
    c.put_zeros.new.out c.put_zeros.result) len c.put_zeros.ensures)

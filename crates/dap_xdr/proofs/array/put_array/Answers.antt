-- The body stands behind the counts.
use Rattle.std.proofs.Common.{◌≡◌, ℕ, ◌+◌, ◌-◌, ◌++◌, List, drop, length, min, sym, ap, subst, ◌∙◌}
use Rattle.dap_model.specs.Box.{box_len}
use Rattle.dap_model.specs.Xdr.{count_twice}
use Rattle.dap_xdr.specs.Portion.{body_of}
use Rattle.dap_number.specs.Overlay.{overlay, IsPut}
use Rattle.dap_xdr.proofs.ElementLemmas.{array-body}
use Rattle.dap_number.proofs.FrontLemmas.{put-behind}
use Rattle.dap_xdr.proofs.array.put_array.Goals as goal

pub returns : goal.returns
unfolding count_twice
returns c =
    let n = c.args.part.now in
    let head : c.count_twice.result ≡ count_twice (box_len n.sent.slabs) =
    c.count_twice.ensures ∙ ap count_twice c.count.ensures in
    subst (λ (l : List ℕ). IsPut (drop c.args.from l) c.args.out.now
    (c.split_at_mut-rest.result.0.now ++ c.put_body.new.out) (c.put-count.result + c.put_body.result))
    (sym (array-body n))
    (put-behind (count_twice (box_len n.sent.slabs)) (body_of n)
    c.args.out.now c.put-count.new.out c.split_at_mut-rest.result.0.now c.split_at_mut-rest.result.1.now
    c.put_body.new.out c.args.from c.put-count.result c.put_body.result c.saturating_sub.result
    (c.put-count.ensures.count ∙ ap (λ (l : List ℕ). min (length c.args.out.now) (length l - c.args.from)) head)
    (c.put-count.ensures.bytes ∙ ap (λ (l : List ℕ). overlay (drop c.args.from l) c.args.out.now) head)
    c.split_at_mut-rest.ensures.value c.split_at_mut-rest.ensures.front_len c.saturating_sub.ensures c.put_body.ensures)

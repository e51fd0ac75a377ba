-- The body stands behind the counts.
use Rattle.std.proofs.Common.{◌≡◌, ◌^◌, ℕ, ◌-◌, ◌++◌, ◌+◌, List, drop, length, min, sym, ap, subst, ◌∙◌}
use Rattle.dap_model.specs.declared.declaration.DapKind.{DapKind}
use Rattle.dap_model.specs.Box.{box_len}
use Rattle.dap_number.specs.Overlay.{overlay, IsPut}
use Rattle.dap_number.proofs.FrontLemmas.{put-behind}
use Rattle.fm_twod.specs.Chosen.{body_of, counts_before}
use Rattle.fm_twod.proofs.ValueLemmas.{data-many, numbers-small}
use Rattle.fm_twod.proofs.piece.put_many.Goals as goal

pub put_body-requires-clause-small : goal.put_body-requires-clause-small
put_body-requires-clause-small c = numbers-small c.args.section.now (2 ^ 64) c.requires.many c.requires.small

pub returns : goal.returns
returns c =
    let s = c.args.section.now in
    let counts = counts_before s.array.kind (box_len s.sent.slabs) in
    let head : counts_before c.kind-2.result c.count.result ≡ counts =
    ap (λ (k : DapKind). counts_before k c.count.result) c.kind-2.ensures
    ∙ ap (counts_before s.array.kind) c.count.ensures in
    let long : c.counts_len-counts.result ≡ length counts =
    c.counts_len-counts.ensures (box_len s.sent.slabs)
    ∙ ap (λ (k : DapKind). length (counts_before k (box_len s.sent.slabs))) c.kind.ensures in
    subst (λ (l : List ℕ). IsPut (drop c.args.from l) c.args.out.now
    (c.split_at_mut-rest.result.0.now ++ c.put_body.new.out) (c.put_counts-count.result + c.put_body.result))
    (sym (data-many s c.requires.many))
    (put-behind counts (body_of s) c.args.out.now c.put_counts-count.new.out c.split_at_mut-rest.result.0.now
    c.split_at_mut-rest.result.1.now c.put_body.new.out c.args.from c.put_counts-count.result c.put_body.result
    c.saturating_sub.result
    (c.put_counts-count.ensures.count ∙ ap (λ (l : List ℕ). min (length c.args.out.now) (length l - c.args.from)) head)
    (c.put_counts-count.ensures.bytes ∙ ap (λ (l : List ℕ). overlay (drop c.args.from l) c.args.out.now) head)
    c.split_at_mut-rest.ensures.value c.split_at_mut-rest.ensures.front_len
    (c.saturating_sub.ensures ∙ ap (λ (m : ℕ). c.args.from - m) long) c.put_body.ensures)

-- Each turn writes one value.
use Rattle.std.proofs.Common.{◌≡◌, ◌≤◌, ◌<◌, ℕ, ◌+◌, length, subst, arith}
use Rattle.dap_model.specs.Box.{index_at}
use Rattle.fm_twod.specs.Chosen.{items_before}
use Rattle.fm_twod.proofs.ItemLemmas.{items-done, items-first, items-full, items-next}
use Rattle.fm_twod.proofs.items.put_items.Goals as goal

pub loop-next-init : goal.loop-next-init
loop-next-init c =
    (c.begin_at.ensures.index, items-first c.args.section.now c.args.element c.args.passed c.args.out.now)

pub put_item-filled-requires-clause-element : goal.put_item-filled-requires-clause-element
put_item-filled-requires-clause-element c =
    subst (λ (m : ℕ). c.loop-next.next < m) c.count.ensures c.loop-next-test.true

pub put_item-filled-requires-clause-index : goal.put_item-filled-requires-clause-index
put_item-filled-requires-clause-index c =
    c.loop-next.invariant.0 (subst (λ (m : ℕ). c.loop-next.next < m) c.count.ensures c.loop-next-test.true)

pub item_len-requires-clause-element : goal.item_len-requires-clause-element
item_len-requires-clause-element c =
    subst (λ (m : ℕ). c.loop-next.next < m) c.count.ensures c.loop-next-test.true

pub item_len-requires-clause-index : goal.item_len-requires-clause-index
item_len-requires-clause-index c =
    c.loop-next.invariant.0 (subst (λ (m : ℕ). c.loop-next.next < m) c.count.ensures c.loop-next-test.true)

pub go_on_to-requires-clause-before : goal.go_on_to-requires-clause-before
go_on_to-requires-clause-before c =
    subst (λ (m : ℕ). c.loop-next.index ≡ index_at c.args.section.now.sent.slabs m) (omega arith)
    (c.loop-next.invariant.0 (subst (λ (m : ℕ). c.loop-next.next < m) c.count.ensures c.loop-next-test.true))

pub loop-next-preserved : goal.loop-next-preserved
loop-next-preserved c =
    let s = c.args.section.now in
    let within = subst (λ (m : ℕ). c.loop-next.next < m) c.count.ensures c.loop-next-test.true in (
      c.go_on_to.ensures.index,
      items-next s (length (items_before s c.args.element) + c.args.passed) c.loop-next.filled c.loop-next.next
          c.loop-next.left c.put_item-filled.result c.item_len.result c.saturating_sub-left.result c.args.out.now
          c.loop-next.out c.split_at_mut-rest.result.0.now c.split_at_mut-rest.result.1.now c.put_item-filled.new.out
          c.loop-next.index c.loop-next.invariant.1 within (c.loop-next.invariant.0 within)
          c.split_at_mut-rest.ensures.value c.split_at_mut-rest.ensures.front_len c.put_item-filled.ensures
          c.item_len.ensures.exact c.saturating_sub-left.ensures,
    )

pub returns-else-filled-out : goal.returns-else-filled-out
returns-else-filled-out c =
    items-full c.args.section.now (length (items_before c.args.section.now c.args.element) + c.args.passed)
    c.loop-next.filled c.loop-next.next c.loop-next.left c.args.out.now c.loop-next.out c.loop-next.invariant.1
    c.if-filled-out.false

pub returns-after-loop-next : goal.returns-after-loop-next
returns-after-loop-next c =
    items-done c.args.section.now (length (items_before c.args.section.now c.args.element) + c.args.passed)
    c.loop-next.filled c.loop-next.next c.loop-next.left c.args.out.now c.loop-next.out c.loop-next.invariant.1
    (subst (λ (m : ℕ). m ≤ c.loop-next.next) c.count.ensures c.loop-next-test.false)

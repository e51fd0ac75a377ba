use Rattle.std.proofs.Common.{◌≡◌, ℕ, ◌+◌, length, ap, ap₂, ◌∙◌, sym, arith}
use Rattle.fm_dataset.specs.Kept.{slot_number}
use Rattle.fm_dataset.proofs.TableLemmas.{each_push, length_push, slot_more, slot_none}
use Rattle.fm_dataset.proofs.table.slot_numbers.Goals as goal

pub loop-var-init : goal.loop-var-init
loop-var-init c = (ap length c.new-numbers.ensures, sym (slot_none _), omega arith, λ k below. absurd (omega arith))

pub loop-var-preserved : goal.loop-var-preserved
loop-var-preserved c =
    let pushed = c.in_ok-push.ensures.ok in
    let now = c.loop-var.invariant in
    let vars = c.as_slice-var-items.ensures in
    let more = slot_more c.args.proto.now _ _ (rw vars at c.loop-var-test.true) (rw vars at c.var-item.is) in
    let few = c.slots_in-next.ensures.few in (
      length_push _ _ _ _ pushed now.0,
      ap₂ (λ (a b : ℕ). a + b) now.1 c.slots_in-next.ensures.value ∙ sym more,
      omega (arith, few, now.2),
      each_push (λ k number. number ≡ slot_number c.args.proto.now k) _ _ _ _ pushed now.0 now.3 now.1,
    )

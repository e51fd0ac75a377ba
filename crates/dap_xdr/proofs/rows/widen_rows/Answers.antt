-- Each turn widens one row.
use Rattle.std.proofs.Common.{refl, arith}
use Rattle.dap_number.specs.Front.{widened_bytes}
use Rattle.dap_xdr.proofs.RowLemmas.{rows-none, rows-written, widen-next}
use Rattle.dap_xdr.proofs.rows.widen_rows.Goals as goal

pub loop-done-init : goal.loop-done-init
unfolding widened_bytes
loop-done-init c = rows-none widened_bytes c.args.rows c.args.stored.now c.args.out.now refl

pub split_at-requires : goal.split_at-requires
split_at-requires c = c.has_wide_row.ensures.there c.if-has_wide_row.true

pub overflow_add-filled : goal.overflow_add-filled
overflow_add-filled c =
    omega (arith, c.widen-filled.ensures.count, c.split_at_mut-target.ensures.back_len)

pub loop-done-preserved : goal.loop-done-preserved
loop-done-preserved c =
    widen-next c.args.rows c.args.stored.now c.args.out.now c.loop-done.done c.loop-done.filled c.args.len c.min.result
    c.widen-filled.result c.loop-done.rest.now c.loop-done.out c.split_at.result.0.now
    c.split_at_mut-target.result.0.now c.split_at_mut-target.result.1.now c.widen-filled.new.out
    c.split_at-in-loop-done.result.1.now c.loop-done.invariant c.loop-done-test.true c.requires.row c.requires.even
    (c.has_wide_row.ensures.there c.if-has_wide_row.true)
    c.split_at.ensures.front c.split_at_mut-target.ensures.value c.split_at_mut-target.ensures.front_len
    (omega (arith, c.split_at_mut-target.ensures.back_len, c.has_wide_row.ensures.fits c.if-has_wide_row.true))
    c.widen-filled.ensures.count c.widen-filled.ensures.bytes c.min.ensures c.split_at-in-loop-done.ensures.back

pub returns-else-has_wide_row : goal.returns-else-has_wide_row
returns-else-has_wide_row c =
    rows-written widened_bytes c.args.rows c.args.stored.now c.args.out.now c.loop-done.done
    c.loop-done.filled c.loop-done.rest.now c.loop-done.out c.loop-done.invariant

pub returns-after-loop-done : goal.returns-after-loop-done
returns-after-loop-done c =
    rows-written widened_bytes c.args.rows c.args.stored.now c.args.out.now c.loop-done.done
    c.loop-done.filled c.loop-done.rest.now c.loop-done.out c.loop-done.invariant

-- Each turn copies one row.
use Rattle.std.proofs.Common.{List, ℕ, length, arith}
use Rattle.dap_xdr.proofs.CopyLemmas.{all-copied, none-copied, one-copied, row-fits}
use Rattle.dap_xdr.proofs.RowLemmas.{rows-long}
use Rattle.dap_xdr.proofs.rows.copy_rows.Goals as goal

pub loop-done-init : goal.loop-done-init
loop-done-init c =
    none-copied c.args.rows c.args.stored.now c.args.out.now

pub overflow_mul-begin : goal.overflow_mul-begin
overflow_mul-begin c =
    omega (arith, c.count_rows-count.ensures.whole c.loop-done.done c.loop-done-test.true)

pub overflow_mul-at : goal.overflow_mul-at
overflow_mul-at c =
    let fits = row-fits c.count_rows-count.result c.args.len (length c.args.out.now) c.loop-done.done
    c.count_rows-count.ensures.fits c.loop-done-test.true in
    omega (arith, fits)

pub split_at-requires : goal.split_at-requires
split_at-requires c =
    omega (arith, c.count_rows-count.ensures.whole c.loop-done.done c.loop-done-test.true)

pub split_at-requires-in-loop-done : goal.split_at-requires-in-loop-done
split_at-requires-in-loop-done c =
    let stands = c.count_rows-count.ensures.whole c.loop-done.done c.loop-done-test.true in
    omega (arith, stands, c.split_at.ensures.back_len)

pub put_at-requires : goal.put_at-requires
put_at-requires c =
    let fits = row-fits c.count_rows-count.result c.args.len (length c.args.out.now) c.loop-done.done
    c.count_rows-count.ensures.fits c.loop-done-test.true in
    let long = rows-long (λ (bytes : List ℕ). bytes) c.args.rows c.args.stored.now c.args.out.now c.loop-done.done _ _
    c.loop-done.out c.loop-done.invariant in
    omega (arith, fits, long, c.split_at-in-loop-done.ensures.front_len)

pub loop-done-preserved : goal.loop-done-preserved
loop-done-preserved c =
    let stands = c.count_rows-count.ensures.whole c.loop-done.done c.loop-done-test.true in
    let fits = row-fits c.count_rows-count.result c.args.len (length c.args.out.now) c.loop-done.done
    c.count_rows-count.ensures.fits c.loop-done-test.true in
    let long = rows-long (λ (bytes : List ℕ). bytes) c.args.rows c.args.stored.now c.args.out.now c.loop-done.done _ _
    c.loop-done.out c.loop-done.invariant in
    one-copied c.args.rows c.args.stored.now c.args.out.now c.loop-done.done c.args.len c.args.step
    c.split_at.result.1.now c.loop-done.out c.split_at-in-loop-done.result.0.now c.put_at.new.out c.loop-done.invariant
    (omega (arith, c.loop-done-test.true, c.count_rows-count.ensures.few)) c.requires.row c.requires.step
    c.split_at.ensures.back
    (omega (arith, stands, c.split_at.ensures.back_len)) c.split_at-in-loop-done.ensures.front
    (omega (arith, fits, long, c.split_at-in-loop-done.ensures.front_len)) c.put_at.ensures

pub overflow_mul-result : goal.overflow_mul-result
overflow_mul-result c =
    omega (arith, c.count_rows-count.ensures.fits)

pub returns : goal.returns
returns c =
    all-copied c.args.rows c.args.stored.now c.args.out.now c.loop-done.done c.count_rows-count.result c.args.len
    c.loop-done.out c.loop-done.invariant (omega (arith, c.loop-done-test.false, c.loop-done.auto.done-end))
    c.requires.row

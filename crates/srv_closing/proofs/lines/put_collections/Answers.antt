-- One line more was appended, whole or cut.
use Rattle.std.proofs.Common.{◌∙◌, arith}
use Rattle.std.proofs.lemmas.Result.{err_from_is_err_and}
use Rattle.srv_closing.specs.Lines.{collection_line, served_from}
use Rattle.srv_closing.proofs.LinesLemmas.{lines-all, lines-cut, lines-more, served-at, served-length}
use Rattle.srv_closing.proofs.lines.put_collections.Goals as goal

pub returns-in_err-put_collection-clause-put : goal.returns-in_err-put_collection-clause-put
returns-in_err-put_collection-clause-put g c =
    let p = err_from_is_err_and c.from_residual.result c.from_residual.ensures.1 in
    let specs = c.args.specs.now in
    let inboxes = c.args.inboxes.now in
    let clocks = c.args.clocks.now in
    let desks = c.args.desks.now in
    let n = c.loop-number.number in
    let long = served-length 0 specs inboxes clocks desks c.requires.inboxes c.requires.desks in
    rw (p.1) (lines-cut collection_line (served_from 0 specs inboxes clocks desks) n _ _ _ _
    c.in_err-put_collection.ensures.put c.loop-number.invariant.put (omega (arith, c.loop-number-test.true, long))
    (served-at 0 n specs inboxes clocks desks n c.index-specs-number.result c.as_slice.result.now c.expired_at.result
    _ _ (omega arith) (record {
      below = c.loop-number-test.true;
      each = c.requires.inboxes;
      all = c.requires.desks;
      name_is = c.as_slice.ensures;
      expired_is = c.expired_at.ensures;
    })))

pub loop-number-preserved : goal.loop-number-preserved
loop-number-preserved g c =
    let specs = c.args.specs.now in
    let inboxes = c.args.inboxes.now in
    let clocks = c.args.clocks.now in
    let desks = c.args.desks.now in
    let n = c.loop-number.number in
    let long = served-length 0 specs inboxes clocks desks c.requires.inboxes c.requires.desks in
    record {
      put = lines-more collection_line (served_from 0 specs inboxes clocks desks) n _ _ _ _
          c.in_ok-put_collection.ensures.put c.loop-number.invariant.put
          (omega (arith, c.loop-number-test.true, long))
          (served-at 0 n specs inboxes clocks desks n c.index-specs-number.result c.as_slice.result.now
          c.expired_at.result _ _ (omega arith) (record {
            below = c.loop-number-test.true;
            each = c.requires.inboxes;
            all = c.requires.desks;
            name_is = c.as_slice.ensures;
            expired_is = c.expired_at.ensures;
          }));
      faults = c.in_ok-put_collection.ensures.cause ∙ c.loop-number.invariant.faults;
    }

pub returns-clause-put : goal.returns-clause-put
returns-clause-put g c =
    let long = served-length 0 c.args.specs.now c.args.inboxes.now c.args.clocks.now c.args.desks.now c.requires.inboxes
    c.requires.desks in
    lines-all collection_line _ c.loop-number.number _ _ (omega (arith, c.loop-number-test.false, long))
    c.loop-number.invariant.put

-- Each turn writes one part.
use Rattle.std.proofs.Common.{Some, length, subst, sym, ap, ◌∙◌}
use Rattle.std.proofs.lemmas.Option.{slice_get-get_or}
use Rattle.dap_xdr.specs.Content.{part_data}
use Rattle.dap_xdr.specs.Datasets.{content_of}
use Rattle.dap_plan.specs.Laid.{AreBegins, AreMarked}
use Rattle.dap_plan.proofs.DataLemmas.{data-done, data-full, data-next, ends-next, part-small, piece-put}
use Rattle.dap_plan.proofs.LaidLemmas.{begins-rise, data-from, ends-behind, stands-from}
use Rattle.dap_plan.proofs.data.put_data.Goals as goal

pub part_at-at-requires : goal.part_at-at-requires
part_at-at-requires c =
    let shown = c.args.source.now in
    let sent = c.args.sent.now in
    let are = subst (AreBegins shown sent) (sym c.as_slice-begins.ensures) c.requires.laid.begins_are in
    begins-rise shown sent c.as_slice-begins.result.now are c.requires.small

pub loop-index-init : goal.loop-index-init
loop-index-init c =
    let shown = c.args.source.now in
    let sent = c.args.sent.now in
    let begins = c.as_slice-begins.result.now in
    let at = c.part_at-at.result in
    let are = subst (AreBegins shown sent) (sym c.as_slice-begins.ensures) c.requires.laid.begins_are in
    record {
      so_far = data-from (content_of shown) sent c.args.from at.index at.left c.args.out.now
          (stands-from shown sent begins c.args.from at are c.requires.small c.part_at-at.ensures.stands);
      ends = ends-behind shown sent begins c.args.from at.index are
          (ap length c.as_slice-begins.ensures ∙ c.requires.laid.count) c.requires.small c.part_at-at.ensures.last;
    }

pub xdr_piece_marked-filled-requires-clause-marks : goal.xdr_piece_marked-filled-requires-clause-marks
xdr_piece_marked-filled-requires-clause-marks c =
    c.marks_at-known.ensures c.args.source.now c.args.sent.now c.index-sent-index.result
    (subst (AreMarked c.args.source.now c.args.sent.now) (sym c.as_slice-marks.ensures) c.requires.laid.marks_are)
    (slice_get-get_or c.args.sent.now c.loop-index.index c.index-sent-index.result c.loop-index-test.true
    ∙ ap Some (sym c.index-sent-index.is))

pub xdr_piece_marked-filled-requires-clause-small : goal.xdr_piece_marked-filled-requires-clause-small
xdr_piece_marked-filled-requires-clause-small c =
    part-small (content_of c.args.source.now) c.args.sent.now c.loop-index.index 18446744073709551616
    c.index-sent-index.result c.loop-index-test.true c.index-sent-index.is c.requires.small

pub loop-index-preserved : goal.loop-index-preserved
loop-index-preserved c =
    let content = content_of c.args.source.now in
    let so = c.loop-index.invariant in
    record {
      so_far = data-next content c.args.sent.now c.args.from c.loop-index.filled c.loop-index.index c.loop-index.left
          c.xdr_piece_marked-filled.result c.index-sent-index.result c.args.out.now c.loop-index.out
          c.split_at_mut-rest.result.0.now c.split_at_mut-rest.result.1.now c.xdr_piece_marked-filled.new.out so.so_far
          so.ends c.loop-index-test.true c.index-sent-index.is c.split_at_mut-rest.ensures.value
          c.split_at_mut-rest.ensures.front_len
          (piece-put (part_data content c.index-sent-index.result) c.split_at_mut-rest.result.1.now
          c.xdr_piece_marked-filled.new.out c.loop-index.left c.xdr_piece_marked-filled.result
          c.xdr_piece_marked-filled.ensures.count c.xdr_piece_marked-filled.ensures.bytes);
      ends = ends-next content c.args.sent.now c.args.from c.loop-index.index so.ends;
    }

pub returns-else-filled-out : goal.returns-else-filled-out
returns-else-filled-out c =
    data-full (content_of c.args.source.now) c.args.sent.now c.args.from c.loop-index.filled c.loop-index.index
    c.loop-index.left c.args.out.now c.loop-index.out c.loop-index.invariant.so_far c.if-filled-out.false

pub returns-after-loop-index : goal.returns-after-loop-index
returns-after-loop-index c =
    data-done (content_of c.args.source.now) c.args.sent.now c.args.from c.loop-index.filled c.loop-index.index
    c.loop-index.left c.args.out.now c.loop-index.out c.loop-index.invariant.so_far c.loop-index-test.false

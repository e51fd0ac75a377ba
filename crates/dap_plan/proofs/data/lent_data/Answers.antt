-- What is lent of the part in which the offset lies is a front of the data from there.
use Rattle.std.proofs.Common.{subst, sym, arith}
use Rattle.dap_xdr.specs.Datasets.{content_of}
use Rattle.dap_plan.specs.Laid.{AreBegins}
use Rattle.dap_plan.proofs.DataLemmas.{data-lent-any}
use Rattle.dap_plan.proofs.LaidLemmas.{begins-rise, stands-from}
use Rattle.dap_plan.proofs.data.lent_data.Goals as goal

pub part_at-at-requires : goal.part_at-at-requires
part_at-at-requires c =
    let shown = c.args.source.now in
    let sent = c.args.sent.now in
    let are = subst (AreBegins shown sent) (sym c.as_slice-begins.ensures) c.requires.laid.begins_are in
    begins-rise shown sent c.as_slice-begins.result.now are c.requires.small

pub returns : goal.returns
returns c =
    let shown = c.args.source.now in
    let sent = c.args.sent.now in
    let at = c.part_at-at.result in
    let are = subst (AreBegins shown sent) (sym c.as_slice-begins.ensures) c.requires.laid.begins_are in
    data-lent-any (content_of shown) sent at.index c.args.from at.left c.index-sent-index.result c.lent.result.now
    (omega (arith, c.if-index-sent.false)) c.index-sent-index.is
    (stands-from shown sent c.as_slice-begins.result.now c.args.from at are c.requires.small
    c.part_at-at.ensures.stands) c.lent.ensures

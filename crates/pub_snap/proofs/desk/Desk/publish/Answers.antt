-- The next edition stands for one more operation.
use Rattle.std.proofs.Common.{sym, subst}
use Rattle.fm_model.specs.declared.proto.Proto.{Proto}
use Rattle.fm_edition.specs.Held.{OpFits}
use Rattle.pub_look.proofs.HistoryLemmas.{Keeps-next}
use Rattle.pub_snap.proofs.desk.Desk.publish.Goals as goal

pub put-requires-clause-next : goal.put-requires-clause-next
put-requires-clause-next g c =
    let held = c.edition.result.now in
    let fits : OpFits held.proto c.args.op = subst (λ (p : Proto). OpFits p c.args.op) (sym c.edition.ensures.proto)
    c.requires in
    rw c.in_ok-edition-2.ensures (Keeps-next held c.in_ok-edition.edition c.args.self.now c.args.op
    c.edition.ensures.stands fits c.in_ok-edition.ensures)

-- The next edition stands for one more operation.
use Rattle.std.proofs.Common.{sym, subst}
use Rattle.fm_edition.specs.Held.{OpFits}
use Rattle.pub_look.specs.History.{History}
use Rattle.pub_look.proofs.HistoryLemmas.{Keeps-next}
use Rattle.pub_look.proofs.plain.Plain.publish.Goals as goal

pub invariant_of-self-2 : goal.invariant_of-self-2
invariant_of-self-2 c =
    let fits : OpFits c.self.inside.edition.proto c.args.op = subst (λ (h : History). OpFits h.proto c.args.op)
    (sym c.self.view_is) c.requires in
    let next = Keeps-next c.self.inside.edition c.in_ok-next.next c.self.inside.ops c.args.op c.self.invariant fits
    c.in_ok-next.ensures in
    rw c.in_ok-push.ensures.ok next

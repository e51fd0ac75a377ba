-- Only a put may pass a limit.
use Rattle.std.proofs.Common.{◌≡◌, ap, subst}
use Rattle.fm_model.specs.Collection.{coll, tally, IsWithin}
use Rattle.fm_model.proofs.FullLemmas.{full-retract}
use Rattle.pub_look.specs.History.{History}
use Rattle.pub_look.proofs.HistoryLemmas.{within_limits}
use Rattle.pub_look.proofs.plain.Plain.retract.Goals as goal

pub take_out-requires-clause-within : goal.take_out-requires-clause-within
take_out-requires-clause-within c =
    let within = within_limits c.self.inside.edition c.self.inside.ops c.self.invariant in
    let seen : c.self.inside.ops ≡ c.args.self.now.seen = ap (λ (h : History). h.seen) c.self.view_is in
    full-retract (coll c.args.self.now.seen) _ (subst (λ ops. IsWithin (tally (coll ops))) seen within)

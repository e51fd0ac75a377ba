-- The prototype of the pass is that of its desk.
use Rattle.std.proofs.Common.{◌∙◌, IfOk, subst}
use Rattle.fm_edition.specs.Log.{held_of, IsLog}
use Rattle.fm_model.specs.declared.proto.Proto.{Proto}
use Rattle.srv_workers.proofs.own.OwnPassLook.ask.Goals as goal

pub returns-clause-answer : goal.returns-clause-answer
returns-clause-answer g c =
    subst (λ (p : Proto). IfOk c.ask.result (λ found. g.Q.Query.says c.args.query.now
    (held_of p c.ask.new.self.seen) found.1 found.0)) (c.ask.ensures.same_proto ∙ c.self.invariant.0)
    c.ask.ensures.answer

pub returns-clause-sound : goal.returns-clause-sound
returns-clause-sound g c =
    subst (λ (p : Proto). IsLog p c.ask.new.self.seen) (c.ask.ensures.same_proto ∙ c.self.invariant.0)
    c.ask.ensures.sound

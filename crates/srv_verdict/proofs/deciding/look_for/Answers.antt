-- The pass made a look, or maybe made one where memory ran out.
use Rattle.std.proofs.Common.{List, true, arith, subst}
use Rattle.fm_edition.specs.Log.{held_of}
use Rattle.fm_model.specs.declared.op.Op.{Op}
use Rattle.srv_verdict.proofs.LookLemmas.{Sees-found, Sees-maybe, Sees-unfound, take-all}
use Rattle.srv_verdict.proofs.deciding.look_for.Goals as goal

pub returns-in-Ok-true-default-clause-verdict : goal.returns-in-Ok-true-default-clause-verdict
returns-in-Ok-true-default-clause-verdict g c =
    let looked = c.in-Ok-true-default.ensures in
    let count = c.in-Ok-true-default.count in
    let answer = rw c.in-Ok-true-default.field-0-0-test at looked.answer in
    c.when_needless.ensures.right c.ask.new.self.proto c.ask.new.self.seen (omega (arith, looked.number))
    (subst (λ (l : List Op). g.C.Query.says c.args.change.now (held_of c.ask.new.self.proto l) count true)
    (take-all c.ask.new.self.seen count looked.number) answer)

pub returns-in-Ok-true-default-clause-sees : goal.returns-in-Ok-true-default-clause-sees
returns-in-Ok-true-default-clause-sees g c =
    let looked = c.in-Ok-true-default.ensures in
    Sees-found c.args.pass.now c.ask.new.self c.in-Ok-true-default.count looked.same_proto looked.later looked.looked
    looked.number c.when_needless.ensures.look

pub returns-in-Ok-false-default-clause-sees : goal.returns-in-Ok-false-default-clause-sees
returns-in-Ok-false-default-clause-sees g c =
    let looked = c.in-Ok-false-default.ensures in
    Sees-unfound c.args.pass.now c.ask.new.self looked.same_proto looked.later looked.looked

pub returns-in-Err-clause-sees : goal.returns-in-Err-clause-sees
returns-in-Err-clause-sees g c =
    let looked = c.in-Err.ensures in
    Sees-maybe c.args.pass.now c.ask.new.self looked.same_proto looked.later looked.err c.when_short.ensures.look

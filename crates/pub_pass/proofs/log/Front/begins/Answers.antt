-- Both are beginnings of what the two know together.
use Rattle.std.proofs.Common.{◌≤◌, ap, subst, arith, length, List}
use Rattle.std.proofs.lemmas.Bool.{leb-true, leb-false}
use mathlib.Core.List.{IsPrefix}
use Rattle.fm_model.specs.declared.op.Op.{Op}
use Rattle.pub_pass.proofs.Beginnings.{continues, shorter_begins}
use Rattle.pub_pass.proofs.log.Front.begins.Goals as goal

pub returns-clause-begins : goal.returns-clause-begins
returns-clause-begins c longer =
    let xs = c.args.self.now.seen.log in
    let ys = c.args.other.now.seen.log in
    let this : IsPrefix xs c.learn.new.self.log =
    subst (λ (l : List Op). IsPrefix l c.learn.new.self.log) (ap (λ s. s.log) c.again-both.ensures) c.learn.ensures.2 in
    let less : length xs ≤ length ys =
    omega (arith, c.args.self.now.counted, c.args.other.now.counted, leb-true _ _ longer) in
    continues xs ys (shorter_begins xs ys c.learn.new.self.log this c.learn.ensures.3 less)

pub returns-clause-begun : goal.returns-clause-begun
returns-clause-begun c shorter =
    let xs = c.args.self.now.seen.log in
    let ys = c.args.other.now.seen.log in
    let this : IsPrefix xs c.learn.new.self.log =
    subst (λ (l : List Op). IsPrefix l c.learn.new.self.log) (ap (λ s. s.log) c.again-both.ensures) c.learn.ensures.2 in
    let less : length ys ≤ length xs =
    omega (arith, c.args.self.now.counted, c.args.other.now.counted, leb-false _ _ shorter) in
    continues ys xs (shorter_begins ys xs c.learn.new.self.log c.learn.ensures.3 this less)

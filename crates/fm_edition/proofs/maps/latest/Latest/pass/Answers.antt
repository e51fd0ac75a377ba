-- The run goes on, with its files, or stays.
use Rattle.std.proofs.Common.{◌≡◌, ◌-◌, ◌+◌, ◌∙◌, drop, rules, subst, sym, arith, SFits, w64}
use Rattle.std.proofs.lemmas.Int.{to_z-of_z}
use Rattle.std.proofs.lemmas.List.{take_rest}
use Rattle.fm_edition.specs.Latest.{runs_beside, BeginLate}
use Rattle.fm_edition.proofs.LatestLemmas.{passed_run}
use Rattle.fm_edition.proofs.maps.latest.Latest.pass.Goals as goal

pub returns-then-count-gt0-clause-stays : goal.returns-then-count-gt0-clause-stays
returns-then-count-gt0-clause-stays c = λ held is.
    let before = c.args.self.now in
    let later = before.later.now in
    let count = c.passed-count.result in
    let own = c.index-later-count.result in
    let a : SFits w64 own.run = search rules in
    let whole : count ≡ (count - 1) + 1 = omega (arith, c.if-count-gt0.true) in
    let on = passed_run held before (count - 1) count own is
    (omega (arith, c.if-count-gt0.true, c.passed-count.ensures.within)) whole c.index-later-count.is in
    let rest = take_rest later count in
    simp to_z-of_z (record {
      before = on.before;
      runs = rw rest on.runs;
      own = on.files ∙ sym c.again-self.ensures;
      rest = rw rest on.rest;
      sound = is.sound;
    })

pub returns-then-count-gt0-clause-stops : goal.returns-then-count-gt0-clause-stops
returns-then-count-gt0-clause-stops c =
    let a : SFits w64 c.args.valid = search rules in
    let later = c.args.self.now.later.now in
    rw (take_rest later c.passed-count.result) (simp to_z-of_z at c.passed-count.ensures.stops)

pub returns-else-count-gt0-clause-stops : goal.returns-else-count-gt0-clause-stops
returns-else-count-gt0-clause-stops c =
    let a : SFits w64 c.args.valid = search rules in
    let none : c.passed-count.result ≡ 0 = omega (arith, c.if-count-gt0.false) in
    subst (λ n. BeginLate c.args.least c.args.valid (runs_beside (drop n c.args.self.now.later.now))) none
    (simp to_z-of_z at c.passed-count.ensures.stops)

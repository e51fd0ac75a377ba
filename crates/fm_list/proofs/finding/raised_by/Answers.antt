-- The best run of one more file that has the valid time, in each case of the tests.
use Rattle.std.proofs.Common.{◌≡◌, true, Some, ◌∙◌, ap, sym, arith, rules, SFits, w64}
use Rattle.std.proofs.lemmas.Int.{ints, to_z-of_z}
use Rattle.std.proofs.lemmas.Option.{none-some, same_Some}
use Rattle.fm_model.specs.Cell.{has_least_offset}
use Rattle.fm_list.proofs.BestSteps.{HasTimeFrom-from_tests, late-from, best-kept, best-passed_over, best-raised}
use Rattle.fm_list.proofs.finding.raised_by.Goals as goal
use Rattle.fm_list.proofs.finding.raised_by.Goals.{in-Some+else-own-run, in_default}

pub returns-then-own-run : goal.returns-then-own-run
returns-then-own-run c = λ others is. best-kept others c.args.file.now c.args.valid c.args.least c.in-Some.run' (is
    ∙ c.in-Some.is) (grind (arith, ints, c.if-own-run.true, c.run-own.ensures))

pub returns-then-not-keeps_least_offset : goal.returns-then-not-keeps_least_offset
returns-then-not-keeps_least_offset c = λ others is.
    let fits : SFits w64 c.run-own.result = search rules in
    let valid_fits : SFits w64 c.args.valid = search rules in
    let test : c.keeps_least_offset.result
    ≡ has_least_offset c.args.least c.run-own.result c.args.valid = simp to_z-of_z at
    c.keeps_least_offset.ensures in
    best-passed_over others c.args.file.now c.args.valid c.args.least (λ has.
    let late : has_least_offset c.args.least c.args.file.now.run c.args.valid
    ≡ true = late-from c.args.valid c.args.least c.args.file.now has in
    cc (test, late, c.run-own.ensures, c.if-not-keeps_least_offset.true))
    ∙ elim c.match-greatest.branch [
      | in-Some+else-own-run w ↦ cc
          (is, w.greatest-is, w.in-Some.is)
      | in_default w ↦ cc (is, w.greatest-is, w.in_default.is)
    ]

pub returns : goal.returns
returns c = λ others is.
    let fits : SFits w64 c.run-own.result = search rules in
    let valid_fits : SFits w64 c.args.valid = search rules in
    let late : has_least_offset c.args.least c.args.file.now.run c.args.valid ≡ true =
    ap (λ run. has_least_offset c.args.least run c.args.valid) (sym c.run-own.ensures)
    ∙ sym (simp to_z-of_z at c.keeps_least_offset.ensures) ∙ c.if-not-keeps_least_offset.false in
    best-raised others c.args.file.now c.args.valid c.args.least
    (HasTimeFrom-from_tests c.args.valid c.args.least c.args.file.now late c.requires)
    (λ run e. elim c.match-greatest.branch [
      | in-Some+else-own-run w ↦
          let same : run ≡ w.in-Some.run' = same_Some run w.in-Some.run' (sym e ∙ is ∙ w.in-Some.is) in
          grind (arith, ints, same, w.if-own-run.false, c.run-own.ensures)
      | in_default w ↦ absurd (none-some run (sym (sym e ∙ is ∙ w.in_default.is)))
    ]) ∙ ap Some (sym c.run-own.ensures) ∙ simp to_z-of_z

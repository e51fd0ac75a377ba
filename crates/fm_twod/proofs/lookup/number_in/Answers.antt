-- The number is counted from the first of the run.
use Rattle.std.proofs.Common.{◌≡◌, ◌+◌, ℕ, List, ℤ, Option, rules, sym, ap, ◌∙◌, SFits, w64}
use Rattle.std.specs.Prelude.{position}
use Rattle.std.specs.Option.{option_map}
use Rattle.std.specs.Ordering.{int_eq}
use Rattle.std.proofs.lemmas.Int.{to_z-of_z}
use Rattle.fm_twod.specs.Laid.{number_in}
use Rattle.fm_twod.proofs.lookup.number_in.Goals as goal

pub returns-in-None : goal.returns-in-None
unfolding number_in
returns-in-None c =
    let fits : SFits w64 c.args.offset = search rules in
    let none = simp to_z-of_z at c.in-None.ensures.value in
    ap (option_map (λ (index : ℕ). c.args.cells.now.first + index))
    (none ∙ ap (position (λ other. int_eq other c.args.offset)) c.as_slice.ensures)

pub returns-in-Some : goal.returns-in-Some
unfolding number_in
returns-in-Some c =
    let fits : SFits w64 c.args.offset = search rules in
    let found = simp to_z-of_z at c.in-Some.ensures.value in
    ap (option_map (λ (index : ℕ). c.args.cells.now.first + index))
    (found ∙ ap (position (λ other. int_eq other c.args.offset)) c.as_slice.ensures)

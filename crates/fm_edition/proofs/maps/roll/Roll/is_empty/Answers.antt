-- Lists of which none is counted are empty.
use Rattle.std.proofs.Common.{◌≡◌, List, ap, length, min, ◌∙◌}
use Rattle.std.proofs.lemmas.Bool.{both_ways, eq-eqb, eqb-true}
use Rattle.fm_model.specs.declared.loaded.Loaded.{Loaded}
use Rattle.fm_edition.specs.Pieces.{joined}
use Rattle.fm_edition.proofs.FoundLemmas.{none-counted}
use Rattle.fm_edition.proofs.PieceLemmas.{none-last}
use Rattle.fm_edition.proofs.maps.roll.Roll.is_empty.Goals as goal

pub returns-then-is_empty : goal.returns-then-is_empty
returns-then-is_empty c =
    let count : c.up_to_two.result ≡ min (length c.args.self.now) 2 = c.up_to_two.ensures
    ∙ ap (λ (l : List Loaded). min (length l) 2) c.all.ensures in
    let both = none-counted c.args.self.now c.up_to_two.result count in
    (λ true. both.0 (eqb-true c.up_to_two.result 0 true), λ none. eq-eqb c.up_to_two.result 0 (both.1 none))

-- files behind the pieces are files
pub returns-else-is_empty : goal.returns-else-is_empty
returns-else-is_empty c = (
  λ true. absurd (both_ways c.is_empty.result c.if-is_empty.false true),
  λ none. absurd (both_ways c.is_empty.result c.if-is_empty.false
      (c.is_empty.ensures.1 (none-last (joined c.self.inside.pieces) c.self.inside.last (c.self.view_is ∙ none)))),
)

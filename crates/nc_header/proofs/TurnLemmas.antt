-- What a loop over a count does, turn by turn.
use Rattle.std.proofs.Common.{◌≡◌, ℕ, suc, ◌+◌, ◌-◌, ◌<◌, ◌≤◌, List, [], ◌∷◌, ◌++◌, Ok, Err, ap, ◌∙◌, refl, arith}
use Rattle.fm_base.specs.Input.{Input}
use Rattle.nc_model.specs.Reading.{items_from, HeaderParser}
use Rattle.nc_header.specs.Turns.{one_more}
use Rattle.fm_base.specs.Parser.{Outcome, and_then, pure}
use Rattle.nc_model.specs.declared.fault.HeaderFault.{HeaderFault}

-- one item, and then the others
pub items_from-turn : {A : Type 0} (item : List A → HeaderParser A) (n at : ℕ) (found : List A) (i : Input) → at < n
    → items_from item (n - at) found i ≡ and_then (item found i) (λ x. items_from item (n - (at + 1)) (found ++ x ∷ []))
unfolding items_from
items_from-turn item n at found i below = let e : n - at ≡ suc (n - (at + 1)) = omega arith in
    ap (λ k. items_from item k found i) e

-- one item, as a list that is one item longer, and then the others
pub items_from-one_more : {A : Type 0} (item : List A → HeaderParser A) (n at : ℕ) (found : List A) (i : Input) → at < n
    → items_from item (n - at) found i ≡ and_then (one_more item found i) (λ all. items_from item (n - (at + 1)) all)
unfolding one_more
items_from-one_more {A} item n at found i below = items_from-turn item n at found i below ∙ joined (item found i)
  where
    joined : (r : Outcome A HeaderFault)
        → and_then r (λ x. items_from item (n - (at + 1)) (found ++ x ∷ []))
        ≡ and_then (and_then r (λ x. pure (found ++ x ∷ []))) (λ all. items_from item (n - (at + 1)) all)
    joined (Ok p) = refl
    joined (Err fault) = refl

-- no item is left
pub items_from-done : {A : Type 0} (item : List A → HeaderParser A) (n at : ℕ) (found : List A) (i : Input) → n ≤ at
    → items_from item (n - at) found i ≡ Ok (found, i)
unfolding items_from
items_from-done item n at found i done = let e : n - at ≡ 0 = omega arith in ap (λ k. items_from item k found i) e

pub ruleset turns = (items_from-turn, items_from-one_more, items_from-done)

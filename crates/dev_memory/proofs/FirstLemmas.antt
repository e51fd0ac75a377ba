-- The first of a list.
use Rattle.std.proofs.Common.{◌≡◌, All, List, [], ◌∷◌, Option, Some, sym, subst}
use Rattle.std.proofs.lemmas.List.Elements.{All-head}
use Rattle.std.proofs.lemmas.Option.{none-some, same_Some}
use Rattle.std.specs.Prelude.{IsSomeAnd}
use Rattle.dev_traits.specs.Door.{first_of}

-- what all have, the first has
pub All-first : {X : Type 0} (P : X → Type 0) (xs : List X) (x : X) → All P xs → Some x ≡ first_of xs → P x
All-first P [] x all is = absurd (none-some x (sym is))
All-first P (first ∷ more) x all is = subst P (sym (same_Some x first is)) (All-head P first more all)

-- what is there, and has something, is there and has it
pub IsSomeAnd-is : {X : Type 0} (P : X → Type 0) (found : Option X) (x : X) → Some x ≡ found → P x
    → IsSomeAnd found P
IsSomeAnd-is {X} P found x is has = subst (λ (o : Option X). IsSomeAnd o P) is has

pub ruleset firsts = (All-first, IsSomeAnd-is)

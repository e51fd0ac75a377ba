-- What a walk is once the index list that it lent is given back.
use Rattle.std.specs.Prelude.{◌≡◌, ⊤}
use Rattle.std.specs.Borrow.{MutBor, Fml, follows_so}
use mathlib.Core.Option.{none}
use Rattle.dap_slab.specs.Walking.{Walking}
use Rattle.dap_slab.specs.contracts.walk.Walk.{the_row}

-- the walk ends as this one
abbrev pub EndsAs : MutBor Walking → Walking → Fml
EndsAs entry last = follows_so the_row the_row entry.ghost_name none (λ _ _. ⊤) (λ final. final ≡ last)

-- The view of what gives looks.
use Rattle.std.specs.Prelude.{◌≡◌, ◌≢◌, ℕ, List, Bool, true}
use Rattle.fm_model.specs.declared.op.Op.{Op}
use Rattle.pub_look.specs.History.{Continues}
use Rattle.dap_reply.specs.Collections.{only, Collections, Views}

-- the view of a look: the operations seen, and how many there were at each look
pub record Sight : Type 0 where
  pub seen : List Op
  pub looks : List ℕ

-- the view of looks at one of several collections
abbrev pub sight_in : Views → ℕ → Sight
sight_in views number = record { seen = views.seen number; looks = views.looks number }

-- the views of one collection alone
abbrev pub views_of : Sight → Views
views_of sight = record { seen = only sight.seen; looks = only sight.looks }

-- some operations begin a list, which is the same one where the giver of looks stands still
pub record IsBehind (still : Bool) (earlier later : List Op) : Type 0 where
  pub grows : Continues earlier later
  pub stays : still ≡ true → later ≡ earlier

-- the same of each collection
abbrev pub AreBehind : Collections → (ℕ → List Op) → (ℕ → List Op) → Type 0
AreBehind them earlier later = (number : ℕ) → IsBehind (them.still number) (earlier number) (later number)

-- nothing was done to any collection but one
pub record OthersStay (number : ℕ) (views views' : Views) : Type 0 where
  pub seen_are : (other : ℕ) → other ≢ number → views'.seen other ≡ views.seen other
  pub looks_are : (other : ℕ) → other ≢ number → views'.looks other ≡ views.looks other

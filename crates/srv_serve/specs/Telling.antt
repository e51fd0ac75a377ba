-- The line of a server that is open.
use Rattle.std.specs.Prelude.{◌≡◌, ℕ, List, [], ◌∷◌, ◌++◌, codes, decimal}
use Rattle.std.specs.List.{flat_map}
use Rattle.dev_traits.specs.Lines.{Tells, Told}
use Rattle.dev_traits.specs.Opener.{opener_lines, OpenerShown, with_opener_lines}
use Rattle.srv_open.specs.Devices.{Wanted}

-- folders, each behind a blank
abbrev pub folders_text : List (List ℕ) → List ℕ
folders_text folders = flat_map (λ folder. codes " " ++ folder) folders

-- the line of a server that is open with a collection at an address, with the text of the collection's folders
unfoldable pub open_line : List ℕ → List ℕ → ℕ → List ℕ → List ℕ
open_line name listen workers folders = flat_map (λ part. part) (codes "serving " ∷ name ∷ codes " at " ∷ listen
    ∷ codes ", " ∷ decimal workers ∷ codes " workers, folders" ∷ folders ∷ [])

-- the same, by what is open
abbrev pub serving_line : List ℕ → Wanted → List ℕ
serving_line name wanted = open_line name wanted.listen wanted.workers (folders_text wanted.inboxes)

-- An opener was told lines, and all else that it shows stays.
pub record TellsLines {D I C : Type 0} (lines : List (List ℕ)) (opener opener' : OpenerShown D I C) : Type 0 where
  pub told : Told
  pub tells : Tells lines (opener_lines opener.held) told
  pub held_is : opener'.held ≡ with_opener_lines told opener.held
  pub faults_are : opener'.faults ≡ opener.faults

-- An opener was told that all is open that is asked for, with a collection of this name.
abbrev pub TellsServing : {D I C : Type 0} → List ℕ → Wanted → OpenerShown D I C → OpenerShown D I C → Type 0
TellsServing name wanted opener opener' = TellsLines (serving_line name wanted ∷ []) opener opener'

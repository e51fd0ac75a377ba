-- Paths inside a folder.
use Rattle.std.specs.Prelude.{ℕ, ◌+◌, ◌≤◌, List, ◌++◌, codes, length, Option, Some, None}
use Rattle.std.specs.String.{string_capacity}
use Rattle.dev_folder.specs.declared.names.Shelf.{Shelf}
use Rattle.dev_folder.specs.declared.paths.Move.{Move}
use Rattle.dev_folder.specs.Names.{shelf_name}

-- the path of a name inside a folder
abbrev pub inside : List ℕ → List ℕ → List ℕ
inside folder name = (folder ++ codes "/") ++ name

-- the path of a name in a folder, or in one inside it
abbrev pub path_at : List ℕ → Option Shelf → List ℕ → List ℕ
path_at folder None name = inside folder name
path_at folder (Some shelf) name = inside (inside folder (shelf_name shelf)) name

-- There is room for the paths of a move of this name between the folder and those inside it.
pub record HasRoom (moves : Move) (folder name : List ℕ) : Type 0 where
  pub from : length folder + length name + 9 ≤ string_capacity moves.from
  pub to : length folder + length name + 9 ≤ string_capacity moves.to

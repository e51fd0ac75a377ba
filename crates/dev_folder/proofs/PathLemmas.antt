-- The names of the folders for files.
use Rattle.std.proofs.Common.{◌≤◌, length, arith}
use Rattle.dev_folder.specs.declared.names.Shelf.{Shelf}
use Rattle.dev_folder.specs.declared.names.Shelf.TheVariants.{Done, Refused, Later, Taken}
use Rattle.dev_folder.specs.Names.{shelf_name}

-- none is longer than `refused`
pub shelf_name-short : (shelf : Shelf) → length (shelf_name shelf) ≤ 7
shelf_name-short Done = omega arith
shelf_name-short Refused = omega arith
shelf_name-short Later = omega arith
shelf_name-short Taken = omega arith

pub ruleset shelves = (shelf_name-short)

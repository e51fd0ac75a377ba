-- The greatest usable run of the others and the files so far.
use Rattle.std.proofs.Common.{◌≡◌, ◌++◌, List, take}
use Rattle.fm_model.specs.declared.loaded.Loaded.{Loaded}
use Rattle.fm_model.specs.Cell.{best}
use Rattle.fm_list.proofs.part.best_behind.Given as goal

abbrev pub invariant-loop-file : goal.invariant-loop-file
invariant-loop-file l = (others : List Loaded) → best others l.valid l.least ≡ l.fn.greatest
    → best (others ++ take l.file-index l.files) l.valid l.least ≡ l.raised

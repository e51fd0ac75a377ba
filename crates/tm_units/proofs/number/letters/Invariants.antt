-- Reading the letters that are left, from where the scanner is, has the same result.
use Rattle.std.proofs.Common.{◌≡◌, drop}
use Rattle.nc_model.specs.UnitsReading.{letters_at}
use Rattle.tm_units.proofs.number.letters.Given as goal

abbrev pub invariant-loop-letter : goal.invariant-loop-letter
invariant-loop-letter l = letters_at l.letters l.fn.scanner ≡ letters_at (drop l.letter-index l.letters) l.scanner

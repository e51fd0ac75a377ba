-- The text so far is the opening mark, and then what is written for each byte.
use Rattle.std.proofs.Common.{◌≡◌, [], ◌∷◌, ◌++◌, take}
use Rattle.std.specs.List.{flat_map}
use Rattle.fm_bits.specs.Quoted.{escaped}
use Rattle.fm_bits.proofs.quoted.put_quoted.Given as goal

abbrev pub invariant-loop-byte : goal.invariant-loop-byte
invariant-loop-byte l = l.string ≡ 34 ∷ [] ++ flat_map escaped (take l.byte-index l.text)

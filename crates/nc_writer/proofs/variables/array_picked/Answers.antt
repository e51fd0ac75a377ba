-- The array is that of the portion.
use Rattle.nc_writer.proofs.variables.array_picked.Goals as goal

pub array_of-requires-clause-part : goal.array_of-requires-clause-part
array_of-requires-clause-part c = c.requires.fits

pub returns : goal.returns
returns c = record { portion = c.array_of.ensures; some = c.requires.some }

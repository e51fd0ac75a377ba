-- A text goes wrong first at one offset.
use Rattle.tm_units.proofs.UnitsLaws.{wrong_once}
use Rattle.tm_units.proofs.laws.a_text_goes_wrong_first_at_one_offset.Goals as goal

pub returns : goal.returns
returns c = wrong_once

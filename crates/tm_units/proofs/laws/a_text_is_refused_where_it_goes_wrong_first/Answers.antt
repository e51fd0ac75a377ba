-- A text is refused where it goes wrong first, and nowhere else.
use Rattle.tm_units.proofs.UnitsLaws.{wrong-from_refused, refused-from_wrong}
use Rattle.tm_units.proofs.laws.a_text_is_refused_where_it_goes_wrong_first.Goals as goal

pub returns-clause-wrong : goal.returns-clause-wrong
returns-clause-wrong c = wrong-from_refused

pub returns-clause-refused : goal.returns-clause-refused
returns-clause-refused c = refused-from_wrong

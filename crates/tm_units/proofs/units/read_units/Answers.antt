-- A text that goes wrong is refused there, by the laws on the definition.
use Rattle.std.proofs.Common.{◌∙◌}
use Rattle.tm_units.proofs.UnitsLaws.{units_of-wrong_first, units_of-wrong_unit}
use Rattle.tm_units.proofs.units.read_units.Goals as goal

pub returns-clause-wrong : goal.returns-clause-wrong
returns-clause-wrong c = λ offset w. c.units_of.ensures ∙ units_of-wrong_first c.args.text.now _ offset w

pub returns-clause-unit : goal.returns-clause-unit
returns-clause-unit c = λ offset w. c.units_of.ensures ∙ units_of-wrong_unit c.args.text.now _ offset w

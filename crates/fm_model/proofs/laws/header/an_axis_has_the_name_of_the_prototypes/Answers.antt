-- Lemmas on the definitions.
use Rattle.fm_model.proofs.HeaderLemmas.{axis_held, axis_name, axis_coordinate}
use Rattle.fm_model.proofs.laws.header.an_axis_has_the_name_of_the_prototypes.Goals as goal

pub returns-clause-held : goal.returns-clause-held
returns-clause-held c = axis_held

pub returns-clause-name : goal.returns-clause-name
returns-clause-name c = axis_name

pub returns-clause-coordinate : goal.returns-clause-coordinate
returns-clause-coordinate c = axis_coordinate

-- Lemmas on the definitions.
use Rattle.fm_dataset.proofs.LawLemmas.{axis_declared, offsets_declared, rows_along, runs_declared}
use Rattle.fm_dataset.proofs.laws.a_view_has_its_rows_along_the_axis.Goals as goal

pub returns-clause-axis : goal.returns-clause-axis
returns-clause-axis c = axis_declared

pub returns-clause-runs : goal.returns-clause-runs
returns-clause-runs c = runs_declared

pub returns-clause-offsets : goal.returns-clause-offsets
returns-clause-offsets c = offsets_declared

pub returns-clause-along : goal.returns-clause-along
returns-clause-along c = rows_along

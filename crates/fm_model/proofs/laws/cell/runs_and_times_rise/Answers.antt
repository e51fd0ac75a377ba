-- Lemmas on the definitions.
use Rattle.fm_model.proofs.InstantLemmas.{Rises-runs_of, Contains-runs_of, Rises-times_of_run, Contains-times_of_run, times_of-runs}
use Rattle.fm_model.proofs.laws.cell.runs_and_times_rise.Goals as goal

pub returns-clause-runs : goal.returns-clause-runs
returns-clause-runs c = Rises-runs_of

pub returns-clause-held_runs : goal.returns-clause-held_runs
returns-clause-held_runs c = Contains-runs_of

pub returns-clause-times : goal.returns-clause-times
returns-clause-times c = Rises-times_of_run

pub returns-clause-held_times : goal.returns-clause-held_times
returns-clause-held_times c = Contains-times_of_run

pub returns-clause-all_times : goal.returns-clause-all_times
returns-clause-all_times c = times_of-runs

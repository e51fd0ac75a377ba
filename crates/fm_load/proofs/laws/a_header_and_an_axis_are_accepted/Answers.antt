-- Lemmas on the definitions.
use Rattle.fm_load.proofs.AcceptLemmas.{header-accepted, axis-accepted}
use Rattle.fm_load.proofs.laws.a_header_and_an_axis_are_accepted.Goals as goal

pub returns-clause-header : goal.returns-clause-header
returns-clause-header c = header-accepted

pub returns-clause-axis : goal.returns-clause-axis
returns-clause-axis c = axis-accepted

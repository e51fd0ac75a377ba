-- Lemmas on the definitions.
use Rattle.std.specs.Prelude.{Some}
use Rattle.fm_model.proofs.BestLemmas.{no_best_at_all, no_best_both}
use Rattle.fm_model.proofs.laws.cell.no_best_where_no_file_has_it.Goals as goal

pub returns-clause-absent : goal.returns-clause-absent
returns-clause-absent c = no_best_at_all

pub returns-clause-given : goal.returns-clause-given
returns-clause-given c = λ files valid least. no_best_both files valid (Some least)

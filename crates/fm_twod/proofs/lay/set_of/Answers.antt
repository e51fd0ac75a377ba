-- The rows of all cells are those of a dataset.
use Rattle.std.proofs.Common.{sym, subst}
use Rattle.fm_model.specs.declared.proto.Proto.{Proto}
use Rattle.fm_dataset.specs.Rows.{AreRows}
use Rattle.fm_twod.proofs.LaidLemmas.{all-rows}
use Rattle.fm_twod.proofs.lay.set_of.Goals as goal

pub dataset-requires-clause-rows : goal.dataset-requires-clause-rows
dataset-requires-clause-rows c =
    subst (λ (proto : Proto). AreRows proto c.args.rows) (sym c.proto.ensures.proto)
    (all-rows c.args.edition.now c.args.rows c.proto.ensures.sound c.requires.rows c.requires.some)

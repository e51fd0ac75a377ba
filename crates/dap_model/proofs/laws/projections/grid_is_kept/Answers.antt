-- A Grid stays one where some clause names it alone, and is else a Structure.
use Rattle.dap_model.proofs.GridLemmas.{IsGridOf-decl_sent, structure_sent}
use Rattle.dap_model.proofs.laws.projections.grid_is_kept.Goals as goal

pub returns : goal.returns
returns c = record {
  kept = IsGridOf-decl_sent c.args.clauses.now c.args.name.now c.args.array.now c.args.maps.now;
  cut = structure_sent c.args.clauses.now c.args.name.now c.args.array.now c.args.maps.now;
}

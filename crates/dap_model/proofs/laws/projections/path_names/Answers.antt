-- A path that picks something names it, and what is named is picked.
use Rattle.dap_model.proofs.PickingLemmas.{Names-picked, picked_if_named}
use Rattle.dap_model.proofs.laws.projections.path_names.Goals as goal

pub returns : goal.returns
returns c = (Names-picked c.args.decl.now c.args.path.now, picked_if_named c.args.decl.now c.args.path.now)

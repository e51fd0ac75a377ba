-- The index lists of a box are those that its slabs pick, and as many as the product of the counts.
use Rattle.dap_model.proofs.BoxLemmas.{length-box_of, Contains-box_of}
use Rattle.dap_model.proofs.laws.boxes.box_picks.Goals as goal

pub returns : goal.returns
returns c = record {
  indices = Contains-box_of c.args.slabs.now c.args.index.now c.requires;
  count = length-box_of c.args.slabs.now;
}

-- The box of whole dimensions is all index lists of the array.
use Rattle.dap_model.proofs.BoxLemmas.{box_of-whole, box_len-whole}
use Rattle.dap_model.proofs.laws.boxes.whole_box.Goals as goal

pub returns : goal.returns
returns c = record { indices = box_of-whole c.args.shape.now; count = box_len-whole c.args.shape.now }

-- Arrays with the same bytes have the same numbers.
use Rattle.dap_model.proofs.XdrUniqueLemmas.{bytes_determine_array}
use Rattle.dap_model.proofs.laws.values.bytes_determine_array.Goals as goal

pub returns : goal.returns
returns c =
    bytes_determine_array c.args.kind c.args.first.now c.args.second.now
    c.requires.few c.requires.fewer c.requires.bits c.requires.other_bits

-- Bits are made of their own fields.
use Rattle.fm_bits.proofs.FieldLemmas.{bits_of_fields-of_bits}
use Rattle.fm_bits.proofs.laws.bits_have_fields.Goals as goal

pub returns : goal.returns
returns c = bits_of_fields-of_bits c.args.width c.args.fraction_width c.args.bits c.requires

-- The fields of bits that are made of fields are these fields.
use Rattle.fm_bits.proofs.FieldLemmas.{float_value-bits_of_fields}
use Rattle.fm_bits.proofs.laws.fields_are_read_back.Goals as goal

pub returns : goal.returns
returns c =
    float_value-bits_of_fields c.args.width c.args.fraction_width c.args.negative c.args.biased c.args.fraction
    c.requires.exponent c.requires.significand

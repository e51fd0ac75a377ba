-- Characters have these lines, by computing.
use Rattle.std.proofs.Common.{refl}
use Rattle.fm_base.specs.Name.{is_name_byte}
use Rattle.fm_bits.specs.Digits.{fixed_digits}
use Rattle.fm_bits.specs.Quoted.{escaped, quoted}
use Rattle.fm_model.specs.Attribute.{trimmed}
use Rattle.dap_model.specs.StructureText.{indent}
use Rattle.dap_das.specs.AttributeText.{attribute_line, attribute_text, characters_line, escaped_byte, escaped_name, kind_word}
use Rattle.dap_das.proofs.examples.lines_of_characters.Goals as goal

pub returns-clause-text : goal.returns-clause-text
unfolding is_name_byte fixed_digits escaped quoted trimmed indent attribute_line attribute_text characters_line
    escaped_byte escaped_name kind_word
returns-clause-text c = refl

pub returns-clause-empty : goal.returns-clause-empty
unfolding is_name_byte fixed_digits escaped quoted trimmed indent attribute_line attribute_text characters_line
    escaped_byte escaped_name kind_word
returns-clause-empty c = refl

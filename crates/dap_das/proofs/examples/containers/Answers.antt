-- The attributes of the offsets and those of an empty prototype have these lines, by computing.
use Rattle.std.proofs.Common.{refl}
use Rattle.fm_base.specs.Name.{is_name_byte}
use Rattle.fm_bits.specs.Digits.{fixed_digits}
use Rattle.fm_bits.specs.Quoted.{escaped, quoted}
use Rattle.fm_model.specs.Attribute.{trimmed}
use Rattle.fm_model.specs.Prototype.{offset_name}
use Rattle.dap_model.specs.StructureText.{indent, line_text}
use Rattle.dap_das.specs.Attributes.{offset_attributes, standard_name_attribute, text_attribute, units_attribute}
use Rattle.dap_das.specs.AttributeText.{attribute_line, attribute_text, attributes_text, characters_line, container_text, escaped_byte, escaped_name, global_container, kind_word, open_text}
use Rattle.dap_das.proofs.examples.containers.Goals as goal

pub returns-clause-offset : goal.returns-clause-offset
unfolding is_name_byte fixed_digits escaped quoted trimmed offset_name indent line_text offset_attributes
    standard_name_attribute text_attribute units_attribute attribute_line attribute_text attributes_text characters_line
    container_text escaped_byte escaped_name kind_word open_text
returns-clause-offset c = refl

pub returns-clause-global : goal.returns-clause-global
unfolding indent line_text attributes_text container_text global_container open_text
returns-clause-global c = refl

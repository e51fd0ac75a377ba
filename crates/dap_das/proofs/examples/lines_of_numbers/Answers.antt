-- Numbers have these lines, by computing.
use Rattle.std.proofs.Common.{refl}
use Rattle.std.specs.Fmt.{digits}
use Rattle.fm_base.specs.Name.{is_name_byte}
use Rattle.dap_model.specs.StructureText.{indent}
use Rattle.dap_das.specs.AttributeText.{after_comma, attribute_line, attribute_text, escaped_byte, escaped_name, kind_word, number_at, numbers_line, numbers_text}
use Rattle.dap_das.proofs.examples.lines_of_numbers.Goals as goal

pub returns-clause-bytes : goal.returns-clause-bytes
unfolding digits is_name_byte indent after_comma attribute_line attribute_text escaped_byte escaped_name kind_word
    number_at numbers_line numbers_text
returns-clause-bytes c = refl

pub returns-clause-shorts : goal.returns-clause-shorts
unfolding digits is_name_byte indent after_comma attribute_line attribute_text escaped_byte escaped_name kind_word
    number_at numbers_line numbers_text
returns-clause-shorts c = refl

pub returns-clause-none : goal.returns-clause-none
unfolding attribute_text numbers_line
returns-clause-none c = refl

-- By computing.
use Rattle.std.proofs.Common.{refl}
use Rattle.std.specs.Fmt.{digits}
use Rattle.dap_reply.specs.Head.{allow_line, connection_word, count_lines, head_line, head_text, kind_lines, last_lines, status_line}
use Rattle.dap_reply.specs.Kind.{description_of, media_of, status_text}
use Rattle.dap_reply.proofs.examples.head_of_data.Goals as goal

pub returns : goal.returns
unfolding head_text status_line kind_lines count_lines last_lines head_line connection_word
    description_of media_of status_text allow_line digits
returns c = refl

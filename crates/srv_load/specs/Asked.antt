-- Questions to a collection: all the data of a view, and its counts.
use Rattle.std.specs.Prelude.{ℕ, ◌%◌, ◌^◌, List, [], length, sum}
use Rattle.fm_edition.specs.Held.{Held}
use Rattle.fm_model.specs.declared.row.ViewName.{ViewName}
use Rattle.fm_model.specs.Rows.{rows}
use Rattle.web_path.specs.declared.target.Service.TheVariants.{Dods}
use Rattle.web_path.specs.declared.target.Target.{Target}
use Rattle.dap_reply.specs.declared.body.Answer.{Answer}
use Rattle.dap_reply.specs.Body.{body_of}
use Rattle.dap_reply.specs.Parts.{bytes_of}
use Rattle.dap_reply.specs.Reply.{answered}
use Rattle.srv_load.specs.declared.asking.Counted.{Counted}

-- all the data of a view, under a label
abbrev pub all_of : ViewName → List ℕ → Target
all_of view label = record { view = view; service = Dods; constraint = []; label = label }

-- what is answered to a target over a collection
abbrev pub answer_for : Held → Target → Answer
answer_for held target = answered (body_of held.proto held.files target)

-- the body of that
abbrev pub body_over : Held → Target → List ℕ
body_over held target = bytes_of (answer_for held target).body.bytes

-- the sum of bytes modulo 2^32
unfoldable pub sum_of : List ℕ → ℕ
sum_of bytes = sum bytes % 2 ^ 32

-- the rows of a target's view, and the sum of the body
unfoldable pub counted : Held → Target → Counted
counted held target = record {
  rows = length (rows held.files target.view);
  sum = sum_of (body_over held target);
}

-- The bytes that a take gave are the next ones of the link, and its end is that of the input.
use Rattle.std.proofs.Common.{◌∙◌, List, ℕ, ◌++◌, ap, arith}
use Rattle.dev_traits.proofs.MovedLemmas.{over-given}
use Rattle.dap_client.specs.Pull.{put_of}
use Rattle.dap_client.proofs.PullLemmas.{Gathers-end, Gathers-given, put-taken}
use Rattle.dap_client.proofs.taking.take_some.Goals as goal

pub returns-in_ok-append-in-Ok-Bytes-clause-taken : goal.returns-in_ok-append-in-Ok-Bytes-clause-taken
returns-in_ok-append-in-Ok-Bytes-clause-taken g c =
    let given = rw c.in-Ok-Bytes.field-0-is at c.in-Ok-Bytes.ensures in
    Gathers-given _ _ c.take.new.buf _ _ c.in-Ok-Bytes.count given.given (omega (arith, given.within)) given.taken
    (c.in_ok-append-in-Ok-Bytes.ensures.ok ∙ ap (λ (l : List ℕ). c.args.out.now ++ l) c.split_at.ensures.front)

pub returns-in_ok-append-in-Ok-Bytes-clause-end : goal.returns-in_ok-append-in-Ok-Bytes-clause-end
returns-in_ok-append-in-Ok-Bytes-clause-end g c = λ none.
    let given = rw c.in-Ok-Bytes.field-0-is at c.in-Ok-Bytes.ensures in absurd (omega (arith, given.within, none))

pub returns-in_ok-append-in-Ok-Bytes-clause-put : goal.returns-in_ok-append-in-Ok-Bytes-clause-put
returns-in_ok-append-in-Ok-Bytes-clause-put g c =
    let given = rw c.in-Ok-Bytes.field-0-is at c.in-Ok-Bytes.ensures in ap put_of given.taken ∙ put-taken _ _

pub returns-in-Ok-End-clause-taken : goal.returns-in-Ok-End-clause-taken
returns-in-Ok-End-clause-taken g c =
    let given = rw c.in-Ok-End.field-0-is at c.in-Ok-End.ensures in Gathers-end _ _ _ given.taken

pub returns-in-Ok-End-clause-end : goal.returns-in-Ok-End-clause-end
returns-in-Ok-End-clause-end g c = λ none.
    let given = rw c.in-Ok-End.field-0-is at c.in-Ok-End.ensures in
    over-given _ _ c.take.new.buf given.given given.taken

pub returns-in-Ok-End-clause-put : goal.returns-in-Ok-End-clause-put
returns-in-Ok-End-clause-put g c =
    let given = rw c.in-Ok-End.field-0-is at c.in-Ok-End.ensures in ap put_of given.taken ∙ put-taken 0 _

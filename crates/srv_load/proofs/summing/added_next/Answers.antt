-- The added bytes of the room are a front of the bytes that are left.
use Rattle.std.proofs.Common.{◌+◌, ◌%◌, ◌^◌, ℕ, List, ap, ◌∙◌, drop, arith}
use Rattle.std.specs.Prelude.{sum}
use Rattle.std.proofs.lemmas.List.{length-drop}
use Rattle.dap_reply.specs.Parts.{bytes_of}
use Rattle.srv_load.proofs.SumLemmas.{room-front}
use Rattle.srv_load.proofs.summing.added_next.Goals as goal

pub returns-clause-sum : goal.returns-clause-sum
returns-clause-sum c =
    let bytes = drop c.args.from (bytes_of c.args.plan.now) in
    c.added-2.ensures
    ∙ ap (λ (piece : List ℕ). (c.args.start + sum piece) % 2 ^ 32)
    (room-front bytes c.args.room.now c.piece-count.new.out c.split_at.result.0.now c.piece-count.result
    (omega (arith, c.piece-count.ensures.count, length-drop c.args.from (bytes_of c.args.plan.now)))
    c.piece-count.ensures.bytes c.split_at.ensures.front)

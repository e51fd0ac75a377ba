-- The piece fills the bytes that it is written over.
use Rattle.std.proofs.Common.{arith}
use Rattle.dap_reply.specs.Parts.{bytes_of}
use Rattle.pub_core.proofs.PieceLemmas.{piece-whole}
use Rattle.pub_core.proofs.connection.piece_of.Goals as goal

pub returns : goal.returns
returns c =
    piece-whole (bytes_of c.args.plan.now) c.as_mut_slice.result.now c.piece.new.out c.in_ok-items.items.items
    c.in_ok-items.items.len c.args.from c.args.count c.piece.ensures.bytes
    (omega (arith, c.as_mut_slice.ensures.len)) c.in_ok-items.ensures.len c.requires

-- The slices before the index were appended, and no put failed.
use Rattle.std.proofs.Common.{◌≡◌, take}
use Rattle.std.specs.List.{flat_map}
use Rattle.dev_traits.specs.Sink.{after_append}
use Rattle.srv_alone.proofs.reporting.put_pieces.Given as goal

abbrev pub invariant-loop-piece : goal.invariant-loop-piece
invariant-loop-piece g l = record {
  put : (g.S.Sink.shown l.sink).held ≡ after_append (flat_map (λ piece. piece.now) (take l.piece-index l.pieces))
      (g.S.Sink.shown l.fn.sink).held;
  faults : (g.S.Sink.shown l.sink).faults ≡ (g.S.Sink.shown l.fn.sink).faults;
}

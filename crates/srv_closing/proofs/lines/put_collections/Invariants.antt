-- The lines of the first collections were appended, and no put failed.
use Rattle.std.proofs.Common.{◌≡◌, take}
use Rattle.std.specs.List.{flat_map}
use Rattle.dev_traits.specs.Sink.{after_append}
use Rattle.srv_closing.specs.Lines.{collection_line, served_from}
use Rattle.srv_closing.proofs.lines.put_collections.Given as goal

abbrev pub invariant-loop-number : goal.invariant-loop-number
invariant-loop-number g l = record {
  put : (g.S.Sink.shown l.sink).held ≡ after_append (flat_map (λ served. collection_line served)
      (take l.number (served_from 0 l.specs l.inboxes l.clocks l.desks))) (g.S.Sink.shown l.fn.sink).held;
  faults : (g.S.Sink.shown l.sink).faults ≡ (g.S.Sink.shown l.fn.sink).faults;
}

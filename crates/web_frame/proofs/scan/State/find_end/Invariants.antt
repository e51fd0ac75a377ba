-- What is left of the bytes ends the head, and leaves the reader, as all of them do.
use Rattle.std.proofs.Common.{◌≡◌, ◌+◌, drop}
use Rattle.std.specs.Option.{option_map}
use Rattle.web_frame.specs.Scan.{end_from, state_past}
use Rattle.web_frame.proofs.scan.State.find_end.Given as goal

abbrev pub invariant-loop-i : goal.invariant-loop-i
invariant-loop-i l = record {
  end : end_from l.fn.self l.bytes ≡ option_map (λ n. l.i + n) (end_from l.self (drop l.i l.bytes));
  state : state_past l.fn.self l.bytes ≡ state_past l.self (drop l.i l.bytes);
}

-- The numbers that are left lead to the same outcome as all of them, and their bytes are there.
use Rattle.std.proofs.Common.{◌≡◌, ◌-◌, ◌*◌, ◌≤◌, [], length}
use Rattle.dap_client.specs.DataReading.{word_of_8_at}
use Rattle.dap_client.specs.Reading.{repeat_at}
use Rattle.dap_client.proofs.elements.read_words_of_8.Given as goal

abbrev pub invariant-loop-turn : goal.invariant-loop-turn
invariant-loop-turn l = record {
  same : repeat_at word_of_8_at l.count [] l.fn.cursor ≡ repeat_at word_of_8_at (l.count - l._turn) l.bits l.cursor;
  left : 8 * (l.count - l._turn) ≤ length l.cursor.rest;
}

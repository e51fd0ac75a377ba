-- The texts that are left lead to the same outcome as all of them.
use Rattle.std.proofs.Common.{◌≡◌, ◌-◌, []}
use Rattle.dap_client.specs.DataReading.{text_at}
use Rattle.dap_client.specs.Reading.{repeat_at}
use Rattle.dap_client.proofs.column.read_words.Given as goal

abbrev pub invariant-loop-turn : goal.invariant-loop-turn
invariant-loop-turn l = repeat_at text_at l.count [] l.fn.cursor
    ≡ repeat_at text_at (l.count - l._turn) l.words l.cursor

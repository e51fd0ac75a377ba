-- No record is written yet, and x is the first number.
use Rattle.std.proofs.Common.{rules}
use Rattle.fm_gen.specs.Values.{number_after, records_text}
use Rattle.fm_gen.proofs.values.put_records.Goals as goal

pub loop-j-init : goal.loop-j-init
unfolding number_after records_text
loop-j-init c = record { text = search rules; number = c.first_number-x.ensures }

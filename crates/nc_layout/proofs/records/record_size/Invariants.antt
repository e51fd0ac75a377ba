use Rattle.nc_layout.proofs.RecordLemmas.{KeepsSums, first_records}
use Rattle.nc_layout.proofs.records.record_size.Given as goal

abbrev pub invariant-loop-number : goal.invariant-loop-number
invariant-loop-number l = KeepsSums l.header (first_records l.header l.number) l.number l.count l.padded l.lone

-- The times that are left, after those that were found, are what all are; none that was found is later than `latest`.
use Rattle.std.proofs.Common.{◌≡◌, ◌≤ℤ◌, ◌-◌, [], All, length}
use Rattle.fm_model.specs.LoadTimes.{time_at, times_from}
use Rattle.fm_load.proofs.times.file_times.Given as goal

abbrev pub invariant-loop-k : goal.invariant-loop-k
invariant-loop-k l = record {
  many : length l.found ≡ l.k;
  at_most : All (λ earlier. earlier ≤ℤ l.latest) l.found;
  left : times_from (time_at l.site l.file.bytes l.file.layout.header l.axis.var.now l.axis.units)
      (l.axis.count - l.k) l.found
      ≡ times_from (time_at l.site l.file.bytes l.file.layout.header l.axis.var.now l.axis.units) l.axis.count [];
}

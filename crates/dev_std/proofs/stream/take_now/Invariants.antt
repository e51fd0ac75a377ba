-- Reads that were interrupted consumed nothing.
use Rattle.std.specs.Io.KnownBytes.{Keeps}
use Rattle.dev_std.proofs.stream.take_now.Given as goal

abbrev pub invariant-tries : goal.invariant-tries
invariant-tries g l = Keeps (g.R.Read.remaining l.fn.reader) (g.R.Read.remaining l.reader)

-- A file that is refused ends the check with its line.
use Rattle.std.proofs.Common.{Err, refl}
use Rattle.srv_alone.proofs.checking.check.Goals as goal

pub returns-in-Err : goal.returns-in-Err
returns-in-Err g c = record {
  checked = Err c.in-Err.end;
  found = c.in-Err.ensures.checked;
  at_file = c.in-Err.ensures.end;
  ends = (refl, c.report.ensures);
  held = c.in-Err.ensures.same;
  file_faults = c.in-Err.ensures.cause;
}

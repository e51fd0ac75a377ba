-- All rows of a list.
use Rattle.std.proofs.Common.{length, ap, arith}
use Rattle.std.proofs.lemmas.List.{take_all}
use Rattle.fm_rows.proofs.stretch.Stretch.whole.Goals as goal

pub invariant_of-result : goal.invariant_of-result
invariant_of-result c = record {
  order = omega arith;
  within = omega (arith, c.len-to.ensures, ap length c.get.ensures);
}

pub returns : goal.returns
returns c = take_all c.len-to.result c.args.list (omega (arith, c.len-to.ensures, ap length c.get.ensures))

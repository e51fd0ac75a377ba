-- One more valid time lies at least as far after its run.
use Rattle.std.proofs.Common.{◌+◌, arith, refl}
use Rattle.fm_edition.proofs.EarlyLemmas.{no_time}
use Rattle.fm_edition.proofs.StretchLemmas.{rise_more, rise_one}
use Rattle.fm_edition.proofs.maps.stretches.end_from.Goals as goal

pub loop-end-init : goal.loop-end-init
loop-end-init c = record {
  some = omega arith;
  within = omega (arith, c.requires);
  rise = rise_one c.args.times.now c.args.from (c.args.from + 1) refl;
}

pub loop-end-preserved : goal.loop-end-preserved
loop-end-preserved c =
    let so = c.loop-end.invariant in
    record {
      some = omega (arith, so.some);
      within = omega (arith, c.loop-end-test.true);
      rise = rise_more c.args.times.now c.args.from c.loop-end.end no_time so.some c.loop-end-test.true so.rise
          (c.lies_as_far.ensures c.if-not-lies_as_far.false);
    }

-- The run at the index fits 32 bits.
use Rattle.std.proofs.Common.{rules, SFits, w64}
use Rattle.std.proofs.lemmas.Int.{to_z-of_z}
use Rattle.fm_twod.specs.declared.cells.RunCells.{RunCells}
use Rattle.fm_twod.specs.Laid.{IsShort}
use Rattle.fm_twod.proofs.LookupLemmas.{all-at}
use Rattle.fm_twod.proofs.seconds.run_bits.Goals as goal

pub bits_of_seconds-requires-clause-low : goal.bits_of_seconds-requires-clause-low
bits_of_seconds-requires-clause-low c =
    let fits : SFits w64 c.in-Some.cells.now.run = search rules in
    let short = all-at (λ (cells : RunCells). IsShort cells.run) c.args.runs.now c.args.index c.in-Some.cells.now
    c.requires c.in-Some.ensures in
    simp to_z-of_z short.low

pub bits_of_seconds-requires-clause-high : goal.bits_of_seconds-requires-clause-high
bits_of_seconds-requires-clause-high c =
    let fits : SFits w64 c.in-Some.cells.now.run = search rules in
    let short = all-at (λ (cells : RunCells). IsShort cells.run) c.args.runs.now c.args.index c.in-Some.cells.now
    c.requires c.in-Some.ensures in
    simp to_z-of_z short.high

-- The instant at the index fits 32 bits.
use Rattle.std.proofs.Common.{rules, sym, ◌∙◌, SFits, w64}
use Rattle.std.proofs.lemmas.Int.{to_z-of_z}
use Rattle.fm_twod.specs.Laid.{IsShort}
use Rattle.fm_twod.proofs.LookupLemmas.{all-at}
use Rattle.fm_twod.proofs.seconds.seconds_bits.Goals as goal

pub bits_of_seconds-requires-clause-low : goal.bits_of_seconds-requires-clause-low
bits_of_seconds-requires-clause-low c =
    let fits : SFits w64 c.in-Some.seconds = search rules in
    simp to_z-of_z (all-at IsShort c.args.instants.now c.args.index c.in-Some.seconds c.requires
    (sym c.offset_at.ensures ∙ c.in-Some.is)).low

pub bits_of_seconds-requires-clause-high : goal.bits_of_seconds-requires-clause-high
bits_of_seconds-requires-clause-high c =
    let fits : SFits w64 c.in-Some.seconds = search rules in
    simp to_z-of_z (all-at IsShort c.args.instants.now c.args.index c.in-Some.seconds c.requires
    (sym c.offset_at.ensures ∙ c.in-Some.is)).high

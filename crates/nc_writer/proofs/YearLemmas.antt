-- The epoch of a collection has a text.
use Rattle.std.proofs.Common.{arith}
use Rattle.std.proofs.lemmas.Int.{ints}
use Rattle.nc_model.specs.Instant.{HasFourDigitYear}
use Rattle.fm_model.specs.declared.proto.Proto.{Proto}
use Rattle.fm_model.specs.Site.{IsPrototype}

pub year-of : (proto : Proto) → IsPrototype proto → HasFourDigitYear proto.site.epoch
year-of proto given =
    let from = given.at.from_year_100 in
    let to = given.at.to_year_9900 in
    (grind (arith, ints), grind (arith, ints))

pub ruleset years = (year-of)

-- What a reader believes of the elements of a made file.
use Rattle.fm_made.proofs.RecordLemmas.{element-time, element-v, elements_lat, elements_lon}

pub ruleset elements = (element-time, element-v, elements_lat, elements_lon)

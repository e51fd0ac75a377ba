-- The options of `many`.
use Rattle.std.specs.Prelude.{◌<◌, ◌≤◌, ◌^◌, ◌&&◌, nat_le, List, length, codes, Option, Some, IfSome, All, AllPairs}
use Rattle.clap.specs.Walk.{Row, Text, all_of}
use Rattle.srv_words.specs.declared.job.ServingMany.{ServingMany}
use Rattle.srv_words.specs.declared.job.Spec.{Spec}
use Rattle.srv_words.specs.declared.serve.Doors.{Doors}
use Rattle.srv_words.specs.declared.serve.Ticking.{Ticking}
use Rattle.srv_words.specs.Collections.{DifferInName, IsSpec}
use Rattle.srv_words.specs.Reads.{◌>>=◌, if_so}

-- the words of the collections, of which there are 2 to 4
unfoldable pub spec_words_of : List Row → Option (List Text)
spec_words_of rows = do
  list ← all_of (codes "SPEC") rows
  if_so (nat_le 2 (length list) && nat_le (length list) 4) list

-- what is served, of all that the words say
abbrev pub serving_of : Doors → Ticking → List Spec → ServingMany
serving_of doors ticking specs = record {
  listen = doors.listen;
  workers = doors.workers;
  connections = doors.connections;
  keep = ticking.keep;
  ticks = ticking.ticks;
  specs = specs;
}

-- the options are sound: 2 to 4 collections that may be, with different names, by 1 to 16 workers; where runs are kept
-- for a time, that is 1 to 2^30 - 1 seconds
pub record IsServingMany (serving : ServingMany) : Type 0 where
  pub some_workers : 0 < serving.workers
  pub few_workers : serving.workers ≤ 16
  pub connections : serving.connections < 2 ^ 32
  pub keep : IfSome serving.keep (λ seconds. (0 < seconds) × (seconds < 2 ^ 30))
  pub ticks : serving.ticks < 2 ^ 32
  pub some_specs : 2 ≤ length serving.specs
  pub few_specs : length serving.specs ≤ 4
  pub each : All IsSpec serving.specs
  pub differ : AllPairs DifferInName serving.specs

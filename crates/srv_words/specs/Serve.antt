-- The options of `serve`.
use Rattle.std.specs.Prelude.{◌<◌, ◌≤◌, ◌^◌, ℕ, ◌&&◌, nat_le, nat_lt, List, length, codes, Option, Some, None, IfSome}
use Rattle.clap.specs.Walk.{Row, Text, all_of, first_of}
use Rattle.fm_model.specs.declared.site.Site.{Site}
use Rattle.fm_model.specs.Site.{IsSite}
use Rattle.srv_words.specs.declared.job.Serving.{Serving}
use Rattle.srv_words.specs.declared.serve.Doors.{Doors}
use Rattle.srv_words.specs.declared.serve.Ticking.{Ticking}
use Rattle.srv_words.specs.Reads.{◌>>=◌, if_so}
use Rattle.srv_words.specs.Values.{number_in}

-- the number of an option, and the default where it doesn't stand
unfoldable pub number_or : ℕ → ℕ → ℕ → Option (List ℕ) → Option ℕ
number_or default least most None = Some default
number_or default least most (Some text) = number_in least most text

-- for how many seconds a run is kept, which need not be said
unfoldable pub keep_of : Option (List ℕ) → Option (Option ℕ)
keep_of None = Some None
keep_of (Some text) = do
  seconds ← number_in 1 1_073_741_823 text
  Some (Some seconds)

-- the options of a door: the address, the workers and the connections of each
unfoldable pub doors_of : List Row → Option Doors
doors_of rows = do
  listen ← first_of (codes "listen") rows
  workers ← number_or 4 1 16 (first_of (codes "workers") rows)
  connections ← number_or 0 0 4_294_967_295 (first_of (codes "connections") rows)
  Some (record { listen = listen; workers = workers; connections = connections })

-- the options of a clock: the seconds for which a run is kept, and the ticks
unfoldable pub ticking_of : List Row → Option Ticking
ticking_of rows = do
  keep ← keep_of (first_of (codes "keep") rows)
  ticks ← number_or 0 0 4_294_967_295 (first_of (codes "ticks") rows)
  Some (record { keep = keep; ticks = ticks })

-- the folders, of which there are 1 to 8
unfoldable pub inboxes_of : List Row → Option (List Text)
inboxes_of rows = do
  list ← all_of (codes "INBOX") rows
  if_so (nat_lt 0 (length list) && nat_le (length list) 8) list

-- what is served, of all that the words say
abbrev pub serving_of : Site → Text → Doors → Ticking → List Text → Serving
serving_of site proto doors ticking inboxes = record {
  site = site;
  proto = proto;
  listen = doors.listen;
  workers = doors.workers;
  connections = doors.connections;
  keep = ticking.keep;
  ticks = ticking.ticks;
  inboxes = inboxes;
}

-- the options are sound: a collection that may be, by 1 to 16 workers, from 1 to 8 folders; where runs are kept for a
-- time, that is 1 to 2^30 - 1 seconds
pub record IsServing (serving : Serving) : Type 0 where
  pub site : IsSite serving.site
  pub mark : length serving.site.mark ≤ 65
  pub some_workers : 0 < serving.workers
  pub few_workers : serving.workers ≤ 16
  pub connections : serving.connections < 2 ^ 32
  pub keep : IfSome serving.keep (λ seconds. (0 < seconds) × (seconds < 2 ^ 30))
  pub ticks : serving.ticks < 2 ^ 32
  pub some_inboxes : 0 < length serving.inboxes
  pub few_inboxes : length serving.inboxes ≤ 8

-- A collection and the steps on it, of `once`, `twod` and `extract`.
use Rattle.std.specs.Prelude.{◌<◌, ◌≤◌, Bool, true, false, IsTrue, nat_lt, List, length, codes, Option, Some, All}
use Rattle.std.specs.List.{list_all}
use Rattle.clap.specs.Walk.{Row, Text, all_of, first_of}
use Rattle.fm_model.specs.declared.site.Site.{Site}
use Rattle.fm_model.specs.Site.{IsSite}
use Rattle.srv_words.specs.declared.job.Step.{Step}
use Rattle.srv_words.specs.declared.job.Step.TheVariants.{Put, Expire, Retract, Ask}
use Rattle.srv_words.specs.declared.job.Stepping.{Stepping}
use Rattle.srv_words.specs.Reads.{◌>>=◌, if_so}
use Rattle.srv_words.specs.Sites.{site_of}
use Rattle.srv_words.specs.Steps.{IsStep, steps_of}

-- the words of the steps, of which there is one at least
unfoldable pub step_words_of : List Row → Option (List Text)
step_words_of rows = do
  list ← all_of (codes "STEP") rows
  if_so (nat_lt 0 (length list)) list

-- the steps of words on a collection of this site
unfoldable pub stepping_over : Site → Text → List Text → Option Stepping
stepping_over site proto list = do
  steps ← steps_of site.epoch list
  Some (record { site = site; proto = proto; steps = steps })

-- a collection and the steps on it
unfoldable pub stepping_of : List Row → Option Stepping
stepping_of rows = do
  proto ← first_of (codes "proto") rows
  list ← step_words_of rows
  site ← site_of rows
  stepping_over site proto list

-- whether a step changes the collection
abbrev pub is_change : Step → Bool
is_change (Ask count) = false
is_change step = true

-- a collection and steps that change it
unfoldable pub changing_of : List Row → Option Stepping
changing_of rows = do
  stepping ← stepping_of rows
  if_so (list_all is_change stepping.steps) stepping

-- the collection is one that may be, with a mark of at most 65 bytes, and there is a step
pub record IsStepping (stepping : Stepping) : Type 0 where
  pub site : IsSite stepping.site
  pub mark : length stepping.site.mark ≤ 65
  pub some : 0 < length stepping.steps
  pub each : All IsStep stepping.steps

-- and no step asks for replies
pub record IsChanging (stepping : Stepping) : Type 0 where
  pub sound : IsStepping stepping
  pub changes : IsTrue (list_all is_change stepping.steps)

-- The job that words are.
use Rattle.std.specs.Prelude.{◌<◌, ◌≤◌, ◌^◌, ℕ, List, codes, Option, Some, None, option_map, if◌then◌else◌, IsTrue}
use Rattle.std.specs.List.{list_all}
use Rattle.std.specs.Option.{option_and_then}
use Rattle.std.specs.Str.{is_utf8}
use Rattle.clap.specs.Walk.{Row, Text, first_of}
use Rattle.srv_words.specs.declared.job.Command.{Command}
use Rattle.srv_words.specs.declared.job.Command.TheVariants as commands
use Rattle.srv_words.specs.declared.job.Job.{Job}
use Rattle.srv_words.specs.declared.job.Job.TheVariants.{Once, Twod, Extract, Pull, Check, Load, Serve, Many}
use Rattle.srv_words.specs.Asked.{command_named}
use Rattle.srv_words.specs.Collections.{specs_of}
use Rattle.srv_words.specs.Command.{is_taken, used}
use Rattle.srv_words.specs.Many as many
use Rattle.srv_words.specs.Many.{IsServingMany, spec_words_of}
use Rattle.srv_words.specs.Reads.{◌>>=◌}
use Rattle.srv_words.specs.Serve.{IsServing, doors_of, inboxes_of, serving_of, ticking_of}
use Rattle.srv_words.specs.Sites.{site_of}
use Rattle.srv_words.specs.Stepping.{IsChanging, IsStepping, changing_of, stepping_of}
use Rattle.srv_words.specs.Values.{is_visible, number_in, visible_of}
use Rattle.srv_words.specs.Views.{constraint_of, is_view, service_of, version_of, view_of}

-- the job of `once`
unfoldable pub once_of : List Row → Option Job
once_of rows = option_map Once (stepping_of rows)

-- the job of `twod`
unfoldable pub twod_of : List Row → Option Job
twod_of rows = do
  with_values ← option_and_then service_of (first_of (codes "service") rows)
  stepping ← changing_of rows
  Some (Twod stepping with_values (constraint_of (first_of (codes "ask") rows)))

-- the job of `extract`
unfoldable pub extract_of : List Row → Option Job
extract_of rows = do
  view ← view_of rows
  version ← option_and_then version_of (first_of (codes "format") rows)
  stepping ← changing_of rows
  Some (Extract stepping view (constraint_of (first_of (codes "ask") rows)) version)

-- the job of `pull`
unfoldable pub pull_of : List Row → Option Job
pull_of rows = do
  address ← option_and_then (visible_of 255) (first_of (codes "connect") rows)
  target ← option_and_then (visible_of 8_000) (first_of (codes "TARGET") rows)
  Some (Pull address target)

-- the job of `check`
unfoldable pub check_of : List Row → Option Job
check_of rows = option_map Check (first_of (codes "FILE") rows)

-- the job of `load`
unfoldable pub load_of : List Row → Option Job
load_of rows = do
  seed ← option_and_then (number_in 0 4_294_967_295) (first_of (codes "SEED") rows)
  files ← option_and_then (number_in 1 400) (first_of (codes "FILES") rows)
  Some (Load seed files)

-- the job of `serve`
unfoldable pub serve_of : List Row → Option Job
serve_of rows = do
  proto ← first_of (codes "proto") rows
  inboxes ← inboxes_of rows
  ticking ← ticking_of rows
  site ← site_of rows
  doors ← doors_of rows
  Some (Serve (serving_of site proto doors ticking inboxes))

-- the job of `many`
unfoldable pub many_of : List Row → Option Job
many_of rows = do
  list ← spec_words_of rows
  ticking ← ticking_of rows
  doors ← doors_of rows
  specs ← specs_of list
  Some (Many (many.serving_of doors ticking specs))

-- the job of a command, by its matches
abbrev pub job_as : Command → List Row → Option Job
job_as commands.Once rows = once_of rows
job_as commands.Twod rows = twod_of rows
job_as commands.Extract rows = extract_of rows
job_as commands.Pull rows = pull_of rows
job_as commands.Check rows = check_of rows
job_as commands.Load rows = load_of rows
job_as commands.Serve rows = serve_of rows
job_as commands.Many rows = many_of rows

-- the job of a subcommand, by its matches
unfoldable pub job_in : Text → List Row → Option Job
job_in name rows = option_and_then (λ command. job_as command rows) (command_named name)

-- the job of the subcommand that was found
unfoldable pub job_of_found : Option (Text × List Row) → Option Job
job_of_found found = option_and_then (λ (found : Text × List Row). job_in found.0 found.1) found

-- the job that texts are: the command takes them, and each value has its form
unfoldable pub job_of_texts : List Text → Option Job
job_of_texts texts = if is_taken texts then job_of_found (used texts) else None

-- the job that the words are: they are UTF-8, and these texts are the job
unfoldable pub job_of : List (List ℕ) → Option Job
job_of words = if list_all is_utf8 words then job_of_texts words else None

-- the command that does a job
abbrev pub command_of : Job → Command
command_of (Once stepping) = commands.Once
command_of (Twod stepping with_values constraint) = commands.Twod
command_of (Extract stepping view constraint version) = commands.Extract
command_of (Pull address target) = commands.Pull
command_of (Check path) = commands.Check
command_of (Load seed files) = commands.Load
command_of (Serve serving) = commands.Serve
command_of (Many serving) = commands.Many

-- a job does steps on a collection that may be, and what it writes may be asked for; or it makes 1 to 400 files; or it
-- asks a server for what may be asked; or it serves what may be served
abbrev pub IsJob : Job → Type 0
IsJob (Once stepping) = IsStepping stepping
IsJob (Twod stepping with_values constraint) = IsChanging stepping
IsJob (Extract stepping view constraint version) =
    IsChanging stepping × IsTrue (is_view view) × (1 ≤ version) × (version ≤ 2)
IsJob (Pull address target) = IsTrue (is_visible 255 address) × IsTrue (is_visible 8_000 target)
IsJob (Check path) = Unit {0}
IsJob (Load seed files) = (seed < 2 ^ 32) × (0 < files) × (files ≤ 400)
IsJob (Serve serving) = IsServing serving
IsJob (Many serving) = IsServingMany serving

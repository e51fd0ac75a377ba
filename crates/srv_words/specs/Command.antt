-- The command, as `clap` sees it. Functions of that crate say which words it takes, and their matches.
use Rattle.std.specs.Prelude.{◌≡◌, All, Bool, true, false, List, [], ◌∷◌, ◌++◌, Option, Some, ◌==◌, length, map, codes}
use Rattle.clap.specs.Faults.{fault_of}
use Rattle.clap.specs.Simple.{App, new_app, new_rule, with_rule, with_subcommand, on_top, subcommand_of}
use Rattle.clap.specs.Walk.{Text, Row, Rule, rule_of}
use Rattle.clap.specs.declared.builder.action.ArgAction.{ArgAction}
use Rattle.clap.specs.declared.builder.action.ArgAction.TheVariants.{Set, Append, SetTrue}
use Rattle.clap.specs.declared.builder.arg.Arg.{Arg}
use Rattle.clap.specs.declared.builder.command.Command.{Command as Builder}
use Rattle.clap.specs.declared.builder.command.Command.TheViews.{out-Command}
use Rattle.std.specs.Borrow.{Bor}
use Rattle.srv_words.specs.declared.arguments.Form.{Form}
use Rattle.srv_words.specs.declared.arguments.Form.TheVariants.{Needed, Optional, Flag, Word, Words}
use Rattle.srv_words.specs.declared.job.Command.{Command}
use Rattle.srv_words.specs.declared.job.Command.TheVariants.{Once, Twod, Extract, Pull, Check, Load, Serve, Many}

-- a long option with one value, which stands once at most
abbrev pub option : Text → Bool → Rule
option id required =
    record (new_rule id) { long = Some id; action = Some Set; value_names = 1; required = required }

-- a long option without a value
abbrev pub flag : Text → Rule
flag id = record (new_rule id) { long = Some id; action = Some SetTrue; required = false }

-- a word that has to stand (`Set`), or one word or more (`Append`)
abbrev pub word : Text → ArgAction → Rule
word id action = record (new_rule id) { action = Some action; required = true }

-- the rule of an argument with this id and this form
abbrev pub rule_as : Text → Form → Rule
rule_as id (Needed value) = option id true
rule_as id (Optional value) = option id false
rule_as id Flag = flag id
rule_as id Word = word id Set
rule_as id Words = word id Append

-- that of an argument with its help
abbrev pub rule_in : Bor Text × Form × Bor Text → Rule
rule_in argument = rule_as argument.0.now argument.1

-- the rules of arguments
abbrev pub rules_in : List Arg → List Rule
rules_in arguments = map rule_of arguments

-- rules with one more
abbrev pub one_more : List Rule → Rule → List Rule
one_more rules rule = rules ++ rule ∷ []

-- with the options of a collection: `--name NAME --proto PROTO [--epoch INSTANT] [--mark MARK]`
unfoldable pub with_site : List Rule → List Rule
with_site rules = one_more (one_more (one_more (one_more rules (option (codes "name") true))
    (option (codes "proto") true)) (option (codes "epoch") false)) (option (codes "mark") false)

-- with the options of a door: `--listen ADDRESS [--workers K] [--connections C]`
unfoldable pub with_door : List Rule → List Rule
with_door rules = one_more (one_more (one_more rules (option (codes "listen") true))
    (option (codes "workers") false)) (option (codes "connections") false)

-- with the options of a clock: `[--keep S] [--ticks T]`
unfoldable pub with_clock : List Rule → List Rule
with_clock rules = one_more (one_more rules (option (codes "keep") false)) (option (codes "ticks") false)

-- with the options of a server: those of a door and a clock, and `[--quiet]`
unfoldable pub with_server : List Rule → List Rule
with_server rules = one_more (with_clock (with_door rules)) (flag (codes "quiet"))

-- with all that stands behind a command: the options of a collection, what else is said, and `STEP..`; or `--connect
-- ADDRESS TARGET`, `FILE`, `SEED FILES`; or the options of a server, and `INBOX..` and the options of a collection, or
-- `SPEC..`
unfoldable pub with_arguments : Command → List Rule → List Rule
with_arguments Once rules = one_more (with_site rules) (word (codes "STEP") Append)
with_arguments Twod rules = one_more (one_more (one_more (with_site rules) (option (codes "service") true))
    (option (codes "ask") false)) (word (codes "STEP") Append)
with_arguments Extract rules = one_more (one_more (one_more (one_more (with_site rules) (option (codes "view") true))
    (option (codes "ask") false)) (option (codes "format") true)) (word (codes "STEP") Append)
with_arguments Pull rules = one_more (one_more rules (option (codes "connect") true)) (word (codes "TARGET") Set)
with_arguments Check rules = one_more rules (word (codes "FILE") Set)
with_arguments Load rules = one_more (one_more rules (word (codes "SEED") Set)) (word (codes "FILES") Set)
with_arguments Serve rules = one_more (with_server (with_site rules)) (word (codes "INBOX") Append)
with_arguments Many rules = one_more (with_server rules) (word (codes "SPEC") Append)

-- a command with these rules more, one after the other
abbrev pub with_rules : App → List Rule → App
with_rules app [] = app
with_rules app (rule ∷ rules) = with_rules (with_rule app rule) rules

-- these are arguments of one command alone, and not of the commands below it
abbrev pub are_local : List Arg → Type 0
are_local arguments = All (λ arg. arg.global ≡ false) arguments

-- no argument of these commands is one of the commands below it
abbrev pub are_plain : List Builder → Type 0
are_plain commands = All (λ c. (out-Command c).has_globals ≡ false) commands

-- the commands, in the order of the help
abbrev pub commands : List Command
commands = Serve ∷ Many ∷ Once ∷ Twod ∷ Extract ∷ Pull ∷ Check ∷ Load ∷ []

-- the word for a command
abbrev pub name_of : Command → Text
name_of Once = codes "once"
name_of Twod = codes "twod"
name_of Extract = codes "extract"
name_of Pull = codes "pull"
name_of Check = codes "check"
name_of Load = codes "load"
name_of Serve = codes "serve"
name_of Many = codes "many"

-- a command with all that stands behind it
unfoldable pub subcommand : Command → App
subcommand command = with_rules (new_app (name_of command)) (with_arguments command [])

-- a command that wants a subcommand, and is given the words after the program's name
abbrev pub top : App
top = on_top (λ s. record s { no_binary_name = true; subcommand_required = true }) (new_app (codes "fmrcd"))

-- with the subcommands that are about a collection
unfoldable pub with_collections : App → App
with_collections app = with_subcommand (with_subcommand (with_subcommand (with_subcommand (with_subcommand app
    (subcommand Serve).top) (subcommand Many).top) (subcommand Once).top) (subcommand Twod).top)
    (subcommand Extract).top

-- one of these subcommands
unfoldable pub fmrcd : App
fmrcd = with_subcommand (with_subcommand (with_subcommand (with_collections top) (subcommand Pull).top)
    (subcommand Check).top) (subcommand Load).top

-- whether the command takes the words
unfoldable pub is_taken : List Text → Bool
is_taken list = length (fault_of fmrcd list) == 0

-- the subcommand that the words name, and what they match in it
unfoldable pub used : List Text → Option (Text × List Row)
used list = subcommand_of fmrcd list

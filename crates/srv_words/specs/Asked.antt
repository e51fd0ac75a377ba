-- Words that ask for a text and no job.
use Rattle.std.specs.Prelude.{ℕ, List, [], ◌∷◌, codes, Option, Some, None, option_map, if◌then◌else◌}
use Rattle.std.specs.Str.{bytes_eq}
use Rattle.srv_words.specs.declared.asked.Asked.{Asked}
use Rattle.srv_words.specs.declared.asked.Asked.TheVariants.{Help, HelpOf, Version}
use Rattle.srv_words.specs.declared.job.Command.{Command}
use Rattle.srv_words.specs.declared.job.Command.TheVariants as commands

-- the command of this name
unfoldable pub command_named : List ℕ → Option Command
command_named name = if bytes_eq name (codes "once") then Some commands.Once
    else (if bytes_eq name (codes "twod") then Some commands.Twod
    else (if bytes_eq name (codes "extract") then Some commands.Extract
    else (if bytes_eq name (codes "pull") then Some commands.Pull
    else (if bytes_eq name (codes "check") then Some commands.Check
    else (if bytes_eq name (codes "load") then Some commands.Load
    else (if bytes_eq name (codes "serve") then Some commands.Serve
    else (if bytes_eq name (codes "many") then Some commands.Many else None)))))))

-- what a word asks for that stands alone: `--help` or `--version`
unfoldable pub asked_alone : List ℕ → Option Asked
asked_alone word = if bytes_eq word (codes "--help") then Some Help
    else (if bytes_eq word (codes "--version") then Some Version else None)

-- what a word asks for that stands behind the name of a command: `--help`
unfoldable pub asked_behind : List ℕ → List ℕ → Option Asked
asked_behind name word =
    if bytes_eq word (codes "--help") then option_map HelpOf (command_named name) else None

-- what words ask for, if they ask for a text
unfoldable pub asked_of : List (List ℕ) → Option Asked
asked_of (word ∷ []) = asked_alone word
asked_of (name ∷ word ∷ []) = asked_behind name word
asked_of words = None

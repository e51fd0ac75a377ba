-- What the getters of matches give, in the words of the functions that say which words match what.
use Rattle.std.proofs.Common.{◌≡◌, List, Option, Some, None, option_map}
use Rattle.std.specs.Prelude.{Box}
use Rattle.std.specs.Box.{box_value}
use Rattle.clap.specs.Simple.{subcommand_rows}
use Rattle.clap.specs.Walk.{Row, Text}
use Rattle.clap.specs.declared.parser.matches.SubCommand.{SubCommand}
use Rattle.clap.specs.declared.parser.matches.ArgMatches.TheViews.{out-SubCommand}
use Rattle.clap.proofs.WalkLemmas.{first_value-rows, raw_values-rows}

-- a name and rows that are those of a subcommand are the subcommand's
pub named_rows : {Z : Type 0} (sub : Option (Box SubCommand Z)) (name : Text) (rows : List Row)
    → Some name ≡ option_map (λ b. (out-SubCommand (box_value b)).name.now) sub
    → Some rows ≡ option_map (λ (p : Text × List Row). p.1) (subcommand_rows sub)
    → Some (name, rows) ≡ subcommand_rows sub
named_rows None name rows named found = absurd cc
named_rows (Some b) name rows named found = cc

pub ruleset rows = (first_value-rows, raw_values-rows, named_rows)

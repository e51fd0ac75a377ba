-- The command `load SEED FILES`: it makes a large collection, reads it by four views, and says how much there
-- is.
use Rattle.std.specs.Prelude.{ℕ, List, [], ◌++◌, codes, decimal}
use Rattle.dev_traits.specs.Shown.{SinkShown}
use Rattle.srv_load.specs.declared.summary.Summary.{Summary}
use Rattle.srv_load.specs.Summary.{summary_of}
use Rattle.srv_alone.specs.declared.end.End.{End}
use Rattle.srv_alone.specs.declared.end.End.TheVariants.{Done, NoMemory, SinkFault}
use Rattle.srv_alone.specs.Report.{CutsLine, Reports, WritesLine}

-- a word and a number
unfoldable pub field : List ℕ → ℕ → List ℕ
field word number = word ++ decimal number

-- how many files and times a collection holds
unfoldable pub held_text : Summary → List ℕ
held_text summary = field (codes "files ") summary.files ++ field (codes " rows ") summary.rows

-- how many rows its views have
unfoldable pub views_text : Summary → List ℕ
views_text summary = field (codes " best ") summary.best ++ field (codes " run ") summary.run
    ++ field (codes " offset ") summary.offset ++ field (codes " forecast ") summary.forecast

-- the line of a collection that was read
unfoldable pub load_line : Summary → List ℕ
load_line summary = held_text summary ++ views_text summary ++ field (codes " sum ") summary.sum ++ codes "\n"

-- How a load ended and what was written: the line of what was read, or a front of it where the sink failed; or memory
-- ran out. A made file is never refused.
abbrev pub EndsLoad : ℕ → ℕ → End → SinkShown → SinkShown → Type 0
EndsLoad seed files Done sink sink' = WritesLine (load_line (summary_of seed files)) sink sink'
EndsLoad seed files SinkFault sink sink' = CutsLine (load_line (summary_of seed files)) sink sink'
EndsLoad seed files NoMemory sink sink' = Reports NoMemory [] sink sink'
EndsLoad seed files end sink sink' = ⊥

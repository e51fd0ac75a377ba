-- The report of a program on its end: its status and a line.
use Rattle.std.specs.Prelude.{◌≡◌, ◌⊎◌, ⊤, ℕ, ◌≤◌, List, [], ◌++◌, length, take, codes, decimal, Option, Result, MatchResult}
use Rattle.dev_traits.specs.Cause.{one_more}
use Rattle.dev_traits.specs.Shown.{SinkShown}
use Rattle.dev_traits.specs.Sink.{after_append}
use Rattle.srv_alone.specs.declared.end.End.{End}
use Rattle.srv_alone.specs.declared.end.End.TheVariants.{Done, BadWords, Refused, NoMemory, FileFault, SinkFault, LinkFault, DoorFault, InboxFault, NoFile, TooLong, InputEnded, BadReply}

-- the status of a program that ended so
abbrev pub status_of : End → ℕ
status_of Done = 0
status_of BadWords = 2
status_of (Refused code) = 3
status_of NoMemory = 4
status_of FileFault = 5
status_of (DoorFault number) = 6
status_of SinkFault = 7
status_of (InboxFault number) = 8
status_of LinkFault = 9
status_of NoFile = 10
status_of (TooLong len) = 10
status_of InputEnded = 11
status_of (BadReply code) = 12

unfoldable pub refused_line : List ℕ → ℕ → List ℕ
refused_line path code = codes "refused " ++ path ++ codes " code " ++ decimal code ++ codes "\n"

unfoldable pub too_long_line : List ℕ → ℕ → List ℕ
too_long_line path len = codes "too long " ++ path ++ codes " " ++ decimal len ++ codes "\n"

unfoldable pub file_fault_line : List ℕ → List ℕ
file_fault_line path = codes "file fault " ++ path ++ codes "\n"

-- the line of a word and a number
unfoldable pub number_line : List ℕ → ℕ → List ℕ
number_line word number = word ++ decimal number ++ codes "\n"

unfoldable pub no_file_line : List ℕ → List ℕ
no_file_line path = codes "no file " ++ path ++ codes "\n"

-- the line of an end at a file; none where every step was done, or where the line of what was done failed
unfoldable pub line_of : End → List ℕ → List ℕ
line_of Done path = []
line_of BadWords path = codes "bad words\n"
line_of (Refused code) path = refused_line path code
line_of NoMemory path = codes "no memory\n"
line_of FileFault path = file_fault_line path
line_of SinkFault path = []
line_of LinkFault path = codes "link fault\n"
line_of (DoorFault number) path = number_line (codes "door fault ") number
line_of (InboxFault number) path = number_line (codes "inbox fault ") number
line_of NoFile path = no_file_line path
line_of (TooLong len) path = too_long_line path len
line_of InputEnded path = codes "input ended\n"
line_of (BadReply code) path = number_line (codes "bad reply code ") code

-- All of the bytes were appended to a sink, or the first n of them where it failed.
abbrev pub Appends : {X E : Type 0} → List ℕ → Option (List ℕ) → Option (List ℕ) → Result X E → Type 0
Appends bytes before after result = MatchResult result
    (λ _. after ≡ after_append bytes before)
    (λ _. (count : ℕ) × (count ≤ length bytes) × (after ≡ after_append (take count bytes) before))

-- The whole line was written, and no call of the sink failed.
pub record WritesLine (line : List ℕ) (sink sink' : SinkShown) : Type 0 where
  pub put : sink'.held ≡ after_append line sink.held
  pub faults : sink'.faults ≡ sink.faults

-- The first n bytes of the line were written, and then one call of the sink failed.
pub record CutsLine (line : List ℕ) (sink sink' : SinkShown) : Type 0 where
  pub count : ℕ
  pub within : count ≤ length line
  pub put : sink'.held ≡ after_append (take count line) sink.held
  pub faults : sink'.faults ≡ one_more sink.faults

-- The line was written whole, or it was cut.
abbrev pub PutsLine : List ℕ → SinkShown → SinkShown → Type 0
PutsLine line sink sink' = WritesLine line sink sink' ⊎ CutsLine line sink sink'

-- An end has no line: every step was done, or the line of what was done couldn't be written.
abbrev pub HasNoLine : End → Type 0
HasNoLine Done = ⊤
HasNoLine SinkFault = ⊤
HasNoLine end = ⊥

-- An end at the file at a path was reported: its line was written whole or cut. The sink of an end without a line is as
-- before.
abbrev pub Reports : End → List ℕ → SinkShown → SinkShown → Type 0
Reports Done path sink sink' = sink' ≡ sink
Reports SinkFault path sink sink' = sink' ≡ sink
Reports end path sink sink' = PutsLine (line_of end path) sink sink'

-- An end with this status was reported.
abbrev pub Said : ℕ → SinkShown → SinkShown → Type 0
Said status sink sink' =
    (end : End) × (path : List ℕ) × (status ≡ status_of end) × Reports end path sink sink'

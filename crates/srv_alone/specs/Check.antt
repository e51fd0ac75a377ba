-- The command `check FILE`: it reads the header of a file, sees that all the data lies in the file, and says
-- how many dimensions, variables and records there are.
use Rattle.std.specs.Prelude.{◌≡◌, ℕ, List, ◌++◌, length, codes, decimal, Option, Result, Ok, Err, IfSome, IfErr}
use Rattle.nc_model.specs.declared.header.Header.{Header}
use Rattle.fm_base.specs.Chain.{◌>>=◌, fault_as}
use Rattle.nc_model.specs.Sound.{format_fault_code, sound_header}
use Rattle.dev_traits.specs.Shown.{FilesShown, SinkShown}
use Rattle.srv_alone.specs.declared.end.End.{End}
use Rattle.srv_alone.specs.declared.end.End.TheVariants.{Done, Refused, SinkFault}
use Rattle.srv_alone.specs.Reading.{file_or_end, file_faults_after, Gives, IsEndAtFile}
use Rattle.srv_alone.specs.Report.{CutsLine, Reports, WritesLine}

-- the header of a file that has no fault, else the refusal by its first fault
unfoldable pub sound_or_refusal : List ℕ → Result Header End
sound_or_refusal bytes = fault_as (λ fault. Refused (format_fault_code fault)) (sound_header bytes)

-- the file at a path is read whole and has no fault, or the check ends
unfoldable pub checked_or_end : Option (List ℕ) → Result Header End
checked_or_end held = file_or_end held >>= sound_or_refusal

-- the line of a file without fault
unfoldable pub sound_line : Header → List ℕ
sound_line header =
    codes "ok CDF-" ++ decimal header.version
    ++ codes " dims " ++ decimal (length header.dims)
    ++ codes " vars " ++ decimal (length header.vars)
    ++ codes " records " ++ decimal header.numrecs ++ codes "\n"

-- How a check ended and what was written: the line of a sound file, or a front of it where the sink failed; else the
-- line of what was found.
abbrev pub EndsCheck : List ℕ → Result Header End → End → SinkShown → SinkShown → Type 0
EndsCheck path (Ok header) Done sink sink' = WritesLine (sound_line header) sink sink'
EndsCheck path (Ok header) SinkFault sink sink' = CutsLine (sound_line header) sink sink'
EndsCheck path (Ok header) end sink sink' = ⊥
EndsCheck path (Err found) end sink sink' = (end ≡ found) × Reports found path sink sink'

-- A file was checked up to this end: the check found a header or an end, as defined where the content is known. The
-- files are blamed where their call failed.
pub record ChecksFile (path : List ℕ) (end : End) (files files' : FilesShown) (sink sink' : SinkShown) : Type 0 where
  pub checked : Result Header End
  pub found : IfSome files.held (λ held. Gives (λ header. header) checked (checked_or_end (held path)))
  pub at_file : IfErr checked IsEndAtFile
  pub ends : EndsCheck path checked end sink sink'
  pub held : files'.held ≡ files.held
  pub file_faults : files'.faults ≡ file_faults_after files.faults end

-- An end at the bytes of a file is an end at the file, and no fault of the files.
use Rattle.std.proofs.Common.{◌≡◌, ℕ, refl, ◌∙◌, Result, Ok, Err, IfErr}
use Rattle.srv_alone.specs.declared.end.End.{End}
use Rattle.srv_alone.specs.declared.end.End.TheVariants.{Refused, NoMemory}
use Rattle.srv_alone.specs.Reading.{BlamesFiles, file_faults_after, IsEndAtBytes, IsEndAtFile}

pub IsEndAtFile-bytes : {X : Type 0} (result : Result X End) → IfErr result IsEndAtBytes → IfErr result IsEndAtFile
IsEndAtFile-bytes (Ok x) ends = tt
IsEndAtFile-bytes (Err NoMemory) ends = tt
IsEndAtFile-bytes (Err (Refused code)) ends = tt
IsEndAtFile-bytes (Err end) ends = absurd ends

file_faults_after-bytes : (count : ℕ) (end : End) → IsEndAtBytes end → count ≡ file_faults_after count end
file_faults_after-bytes count NoMemory ends = refl
file_faults_after-bytes count (Refused code) ends = refl
file_faults_after-bytes count end ends = absurd ends

pub BlamesFiles-bytes : {X : Type 0} (before now : ℕ) (result : Result X End) → now ≡ before
    → IfErr result IsEndAtBytes → BlamesFiles before now result
BlamesFiles-bytes before now (Ok x) same ends = same
BlamesFiles-bytes before now (Err end) same ends = same ∙ file_faults_after-bytes before end ends

pub ruleset bytes = (IsEndAtFile-bytes, BlamesFiles-bytes)

-- The outcome of reading a file at a path, and of its bytes: a prototype, or a file of the collection.
use Rattle.std.specs.Prelude.{◌≡◌, ⊤, ℕ, ◌==◌, List, Option, Some, None, Result, Ok, Err, MatchResult}
use Rattle.std.specs.List.{after_last}
use Rattle.fm_base.specs.Chain.{fault_as}
use Rattle.fm_model.specs.declared.full.Full.{Full as TooMany}
use Rattle.fm_model.specs.declared.loaded.Loaded.{Loaded}
use Rattle.fm_model.specs.declared.proto.Proto.{Proto}
use Rattle.fm_model.specs.declared.site.Site.{Site}
use Rattle.fm_model.specs.Code.{load_code, proto_code}
use Rattle.fm_model.specs.Load.{load_of}
use Rattle.fm_model.specs.Prototype.{proto_of}
use Rattle.dev_traits.specs.declared.files.Found.{Found}
use Rattle.dev_traits.specs.declared.files.Found.TheVariants.{Content, Absent, TooLong as TooLongFound}
use Rattle.dev_traits.specs.Cause.{one_more}
use Rattle.dev_traits.specs.Files.{found_of}
use Rattle.srv_alone.specs.declared.end.End.{End}
use Rattle.srv_alone.specs.declared.end.End.TheVariants.{Refused, NoMemory, FileFault, NoFile, TooLong}

-- the bytes that were found, or the end of the run
abbrev pub content_or_end : Found → Result (List ℕ) End
content_or_end (Content bytes) = Ok bytes
content_or_end Absent = Err NoFile
content_or_end (TooLongFound len) = Err (TooLong len)

-- the file at a path is read whole, or ends the run: it has at most 512 MiB
unfoldable pub file_or_end : Option (List ℕ) → Result (List ℕ) End
file_or_end held = content_or_end (found_of 536_870_912 held)

-- the prototype that bytes are, or the refusal by their first fault
unfoldable pub proto_or_end : Site → List ℕ → Result Proto End
proto_or_end site bytes = fault_as (λ fault. Refused (proto_code fault)) (proto_of bytes site)

-- the name of a file: what follows the last `/` of its path
abbrev pub file_name : List ℕ → List ℕ
file_name path = after_last (λ byte. byte == 47) path

-- the file of the collection that bytes are, or the refusal by their first fault
unfoldable pub loaded_or_end : Proto → List ℕ → List ℕ → Result Loaded End
loaded_or_end proto path bytes =
    fault_as (λ fault. Refused (load_code fault)) (load_of (file_name path) bytes proto)

-- the value, unless there is something too many of
abbrev pub unless_no_room : {A : Type 0} → Option TooMany → A → Result A End
unless_no_room None value = Ok value
unless_no_room (Some full) value = Err (Refused 61)

-- A run that ended so ended as defined, unless memory ran out or a device failed.
abbrev pub IsEndOf : {Y : Type 0} → End → Result Y End → Type 0
IsEndOf NoMemory defined = ⊤
IsEndOf FileFault defined = ⊤
IsEndOf end defined = defined ≡ Err end

-- A step returns the defined value, or ends the run as defined, unless memory ran out or a device failed.
abbrev pub Gives : {X Y : Type 0} → (X → Y) → Result X End → Result Y End → Type 0
Gives view result defined = MatchResult result (λ x. defined ≡ Ok (view x)) (λ end. IsEndOf end defined)

-- A run may end so at a file.
abbrev pub IsEndAtFile : End → Type 0
IsEndAtFile NoMemory = ⊤
IsEndAtFile (Refused code) = ⊤
IsEndAtFile FileFault = ⊤
IsEndAtFile NoFile = ⊤
IsEndAtFile (TooLong len) = ⊤
IsEndAtFile end = ⊥

-- A run may end so at the bytes of a file.
abbrev pub IsEndAtBytes : End → Type 0
IsEndAtBytes NoMemory = ⊤
IsEndAtBytes (Refused code) = ⊤
IsEndAtBytes end = ⊥

-- how many calls of the files have failed after a run that ended so
abbrev pub file_faults_after : ℕ → End → ℕ
file_faults_after count FileFault = one_more count
file_faults_after count end = count

-- No call of the files failed in a step that went on, and where the step ended the run, only the one that is blamed.
abbrev pub BlamesFiles : {X : Type 0} → ℕ → ℕ → Result X End → Type 0
BlamesFiles before now result = MatchResult result (λ _. now ≡ before) (λ end. now ≡ file_faults_after before end)

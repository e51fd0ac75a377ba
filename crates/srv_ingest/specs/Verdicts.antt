-- Verdicts on names that arrived, and the cutoff at a moment.
use Rattle.std.specs.Prelude.{◌≡◌, ◌⊎◌, ℕ, ℤ, ◌-◌, neg_ℤ, List, length, take, drop, if◌then◌else◌, Option, Some, None, codes, Result, Ok, Err, ◌-ℤ◌, pos}
use Rattle.std.specs.Int.{int_max, int_min}
use Rattle.std.specs.Str.{bytes_eq}
use Rattle.fm_model.specs.declared.limit.TheConstants.{MAX_FILE_BYTES, MAX_INSTANT}
use Rattle.fm_model.specs.declared.loaded.Loaded.{Loaded}
use Rattle.fm_model.specs.declared.loaded.LoadFault.{LoadFault}
use Rattle.fm_model.specs.declared.op.Op.{Op}
use Rattle.fm_model.specs.declared.proto.Proto.{Proto}
use Rattle.fm_model.specs.Code.{load_code}
use Rattle.fm_model.specs.Load.{load_of}
use Rattle.dev_traits.specs.declared.files.Found.{Found}
use Rattle.dev_traits.specs.declared.files.Found.TheVariants as found
use Rattle.dev_traits.specs.Files.{found_of}
use Rattle.dev_traits.specs.declared.inbox.Verdict.{Verdict}
use Rattle.dev_traits.specs.declared.inbox.Verdict.TheVariants as verdicts
use Rattle.srv_verdict.specs.Verdicts.{IsVerdictOnFile, IsVerdictOnRetraction}
use Rattle.srv_ingest.specs.declared.file.Refusal.{Refusal}
use Rattle.srv_ingest.specs.declared.file.Refusal.TheVariants as refusals

-- the name of the file that is taken back, where a name ends in `.retract`
unfoldable pub taken_back : List ℕ → Option (List ℕ)
taken_back name =
    if bytes_eq (drop (length name - 8) name) (codes ".retract") then Some (take (length name - 8) name) else None

-- the file that was loaded, or why there is none
abbrev pub unless_faulty : Result Loaded LoadFault → Result Loaded Refusal
unless_faulty (Ok file) = Ok file
unless_faulty (Err fault) = Err (refusals.Fault fault)

-- the file under a name, or why there is none
unfoldable pub file_or_refusal : Proto → List ℕ → Found → Result Loaded Refusal
file_or_refusal proto name found.Absent = Err refusals.Absent
file_or_refusal proto name (found.TooLong len) = Err refusals.TooLong
file_or_refusal proto name (found.Content bytes) = unless_faulty (load_of name bytes proto)

-- the verdict where there is no file
abbrev pub verdict_of : Refusal → Verdict
verdict_of refusals.Absent = verdicts.Gone
verdict_of refusals.TooLong = verdicts.Refused 62
verdict_of (refusals.Fault fault) = verdicts.Refused (load_code fault)

-- the file, or the verdict where there is none
abbrev pub unless_refused : Result Loaded Refusal → Result Loaded Verdict
unless_refused (Ok file) = Ok file
unless_refused (Err refusal) = Err (verdict_of refusal)

-- the file under a name, or the verdict where there is none
abbrev pub file_or_verdict : Proto → List ℕ → Found → Result Loaded Verdict
file_or_verdict proto name it = unless_refused (file_or_refusal proto name it)

-- the verdict on a name by its content; memory may run out at any name
unfoldable pub IsVerdict : Proto → List Op → (List ℕ → Option (List ℕ)) → List ℕ → Option (List ℕ) → Verdict → Type 0
IsVerdict proto ops content name (Some back) verdict =
    (verdict ≡ verdicts.Short) ⊎ IsVerdictOnRetraction ops back verdict
IsVerdict proto ops content name None verdict = (verdict ≡ verdicts.Short)
    ⊎ IsVerdictOnFile ops (file_or_verdict proto name (found_of MAX_FILE_BYTES (content name))) verdict

-- the cutoff at a moment, from the collection's epoch: runs older than `keep` seconds go
abbrev pub cutoff_at : ℤ → ℕ → ℤ → ℤ
cutoff_at moment keep epoch = int_max (neg_ℤ MAX_INSTANT) (int_min MAX_INSTANT (moment -ℤ pos keep -ℤ epoch))

-- The lines that verdicts are told in.
use Rattle.std.specs.Prelude.{ℕ, ℤ, ◌+ℤ◌, pos, neg_ℤ, int_le, Bool, ◌&&◌, if◌then◌else◌, List, [], ◌∷◌, take, codes, Option, Some, None, Result, Ok, Err}
use Rattle.std.specs.Fmt.{decimal}
use Rattle.std.specs.List.{flat_map}
use Rattle.nc_model.specs.Instant.{instant_text_of}
use Rattle.fm_model.specs.declared.full.Tally.{Tally}
use Rattle.fm_model.specs.declared.limit.TheConstants.{MAX_FILE_BYTES}
use Rattle.fm_model.specs.declared.loaded.Loaded.{Loaded}
use Rattle.fm_model.specs.declared.op.Op.{Op}
use Rattle.fm_model.specs.declared.proto.Proto.{Proto}
use Rattle.fm_model.specs.Code.{load_code}
use Rattle.fm_model.specs.Collection.{coll, tally}
use Rattle.dev_traits.specs.declared.clock.Expiry.{Expiry}
use Rattle.dev_traits.specs.declared.clock.Expiry.TheVariants as expiries
use Rattle.dev_traits.specs.declared.inbox.Verdict.{Verdict}
use Rattle.dev_traits.specs.declared.inbox.Verdict.TheVariants as verdicts
use Rattle.dev_traits.specs.Files.{found_of}
use Rattle.srv_reason.specs.Reason.{plain, reason_of}
use Rattle.srv_ingest.specs.declared.file.Refusal.{Refusal}
use Rattle.srv_ingest.specs.declared.file.Refusal.TheVariants as refusals
use Rattle.srv_ingest.specs.Verdicts.{cutoff_at, file_or_refusal}

-- parts, one after the other
abbrev pub joined : List (List ℕ) → List ℕ
joined parts = flat_map (λ part. part) parts

unfoldable pub published_line : List ℕ → ℕ → Tally → List ℕ
published_line name number held = joined (codes "published " ∷ name ∷ codes " revision " ∷ decimal number
    ∷ codes " held " ∷ decimal held.files ∷ codes " rows " ∷ decimal held.rows ∷ [])

-- a line with a number of operations at its end
unfoldable pub numbered_line : List ℕ → List ℕ → ℕ → List ℕ
numbered_line word name number = joined (word ∷ name ∷ codes " revision " ∷ decimal number ∷ [])

unfoldable pub later_line : List ℕ → List ℕ
later_line name = joined (codes "later " ∷ name ∷ codes " no memory" ∷ [])

-- the parts of the line of a refusal, with the digits of its code
abbrev pub refusal_parts : List ℕ → List ℕ → List (List ℕ) → List (List ℕ)
refusal_parts name digits reason =
    codes "refused " ∷ name ∷ codes " code " ∷ digits ∷ codes " " ∷ reason

unfoldable pub refused_line : List ℕ → ℕ → List (List ℕ) → List ℕ
refused_line name code reason = joined (refusal_parts name (decimal code) reason)

-- the line of a verdict on a file that is one of the collection
unfoldable pub put_lines : List ℕ → Tally → Verdict → List (List ℕ)
put_lines name held (verdicts.Published number) = published_line name number held ∷ []
put_lines name held (verdicts.Full count) = numbered_line (codes "full ") name count ∷ []
put_lines name held verdicts.Short = later_line name ∷ []
put_lines name held verdict = []

-- the line of a verdict on a name that takes a file back
unfoldable pub back_lines : List ℕ → List ℕ → Verdict → List (List ℕ)
back_lines name back (verdicts.Published number) = numbered_line (codes "retracted ") back number ∷ []
back_lines name back (verdicts.NotHeld count) = numbered_line (codes "not held ") back count ∷ []
back_lines name back verdicts.Short = later_line name ∷ []
back_lines name back verdict = []

-- the line of a refusal; none where there is no file any more
unfoldable pub refusal_lines : List ℕ → Refusal → List (List ℕ)
refusal_lines name refusals.Absent = []
refusal_lines name refusals.TooLong = refused_line name 62 (plain (codes "over 536870912 bytes")) ∷ []
refusal_lines name (refusals.Fault fault) = refused_line name (load_code fault) (reason_of fault) ∷ []

-- how much was held after the operation that a name became
abbrev pub held_after : List Op → Verdict → Tally
held_after ops (verdicts.Published number) = tally (coll (take number ops))
held_after ops verdict = tally []

-- the line of a verdict on a file, or on a name without one; memory may run out at any name
unfoldable pub file_lines : List Op → List ℕ → Result Loaded Refusal → Verdict → List (List ℕ)
file_lines ops name (Ok file) verdict = put_lines name (held_after ops verdict) verdict
file_lines ops name (Err refusal) verdicts.Short = later_line name ∷ []
file_lines ops name (Err refusal) verdict = refusal_lines name refusal

-- the line of a verdict on a name by its content, if it has one
abbrev pub lines_of : Proto → List Op → (List ℕ → Option (List ℕ)) → List ℕ → Option (List ℕ) → Verdict
    → List (List ℕ)
lines_of proto ops content name (Some back) verdict = back_lines name back verdict
lines_of proto ops content name None verdict =
    file_lines ops name (file_or_refusal proto name (found_of MAX_FILE_BYTES (content name))) verdict

-- whether the year of an instant has four digits
unfoldable pub has_four_digits : ℤ → Bool
has_four_digits t = int_le (neg_ℤ (pos 62_167_219_200)) t && int_le t (pos 253_402_300_799)

-- an instant, where its year has four digits
unfoldable pub shown_instant : ℤ → List ℕ
shown_instant t = if has_four_digits t then instant_text_of t else codes "a year without four digits"

unfoldable pub expired_line : List ℕ → ℕ → List ℕ
expired_line instant number =
    joined (codes "expired before " ∷ instant ∷ codes " revision " ∷ decimal number ∷ [])

-- the line of a verdict on a moment with this cutoff, if it has one
unfoldable pub expiry_lines : List ℕ → Expiry → List (List ℕ)
expiry_lines instant (expiries.Expired number) = expired_line instant number ∷ []
expiry_lines instant (expiries.Idle count) = []
expiry_lines instant expiries.Short = codes "expired nothing, no memory" ∷ []

-- the same, by the moment
abbrev pub moment_lines : ℕ → ℤ → ℤ → Expiry → List (List ℕ)
moment_lines keep epoch moment verdict = expiry_lines (shown_instant (cutoff_at moment keep epoch +ℤ epoch)) verdict

-- The files that a collection holds after operations, how much it holds, and when it is full (THREDDS Data Server,
-- Forecast Model Run Collections).
use Rattle.std.specs.Prelude.{◌≡◌, ◌≢◌, ◌<◌, ◌≤◌, ℕ, List, [], ◌∷◌, ◌++◌, length, filter, sum_by, fold, not, Bool, nat_lt, if◌then◌else◌, Option, Some, None, ℤ, int_le, int_lt}
use Rattle.std.specs.List.{list_any}
use Rattle.std.specs.Str.{bytes_eq}
use Rattle.fm_model.specs.declared.limit.TheConstants.{MAX_FILES, MAX_ROWS, MAX_BYTES}
use Rattle.fm_model.specs.declared.full.Full.{Full as TooMany}
use Rattle.fm_model.specs.declared.full.Tally.{Tally}
use Rattle.fm_model.specs.declared.full.Which.{Which}
use Rattle.fm_model.specs.declared.full.Which.TheVariants.{Files, Rows, Size}
use Rattle.fm_model.specs.declared.loaded.Loaded.{Loaded}
use Rattle.fm_model.specs.declared.op.Op.{Op}
use Rattle.fm_model.specs.declared.op.Op.TheVariants.{Put, Expire, Retract}

-- the files without those of a name
unfoldable pub without : List ℕ → List Loaded → List Loaded
without name files = filter (λ (f : Loaded). not (bytes_eq f.name name)) files

-- the files whose run isn't older than a cutoff
unfoldable pub kept_from : ℤ → List Loaded → List Loaded
kept_from cutoff files = filter (λ (f : Loaded). int_le cutoff f.run) files

-- the files after an operation: a put takes out the file of its name and adds its own as the last, an expire keeps the
-- files whose run is the cutoff or later, a retraction takes out the file of its name
unfoldable pub after_op : List Loaded → Op → List Loaded
after_op files (Put file) = without file.name files ++ file ∷ []
after_op files (Expire cutoff) = kept_from cutoff files
after_op files (Retract name) = without name files

-- the collection after some operations, which is empty at the start
unfoldable pub coll : List Op → List Loaded
coll ops = fold after_op [] ops

-- whether a held file has a name
unfoldable pub holds : List Loaded → List ℕ → Bool
holds files name = list_any (λ (f : Loaded). bytes_eq f.name name) files

-- whether a held file is of a run before a cutoff
unfoldable pub holds_older : List Loaded → ℤ → Bool
holds_older files cutoff = list_any (λ (f : Loaded). int_lt f.run cutoff) files

-- the number of files, of times of all files, and of bytes of all files
unfoldable pub tally : List Loaded → Tally
tally files = record {
  files = length files;
  rows = sum_by (λ (f : Loaded). length f.times) files;
  size = sum_by
      (λ (f : Loaded). length f.content) files;
}

-- what passes its limit first, in the order files, rows, bytes
unfoldable pub full_of : Tally → Option TooMany
full_of held =
    if nat_lt MAX_FILES held.files then Some (record { which = Files; held = held.files; limit = MAX_FILES }) else (
    if nat_lt MAX_ROWS held.rows then Some (record { which = Rows; held = held.rows; limit = MAX_ROWS }) else (
    if nat_lt MAX_BYTES held.size then Some (record { which = Size; held = held.size; limit = MAX_BYTES }) else None))

-- why an operation isn't taken: what the collection after it would hold too much of
unfoldable pub full_at : List Loaded → Op → Option TooMany
full_at files op = full_of (tally (after_op files op))

-- a count and its limit
abbrev pub number_of : Which → Tally → ℕ
number_of Files held = held.files
number_of Rows held = held.rows
number_of Size held = held.size

abbrev pub limit_of : Which → ℕ
limit_of Files = MAX_FILES
limit_of Rows = MAX_ROWS
limit_of Size = MAX_BYTES

-- the order in which limits are looked at
abbrev pub order_of : Which → ℕ
order_of Files = 0
order_of Rows = 1
order_of Size = 2

-- every number is within its limit
abbrev pub IsWithin : Tally → Type 0
IsWithin held = (which : Which) → number_of which held ≤ limit_of which

-- a number passes its limit, and none that is looked at before does
pub record IsFirstPassed (held : Tally) (full : TooMany) : Type 0 where
  pub held_is : full.held ≡ number_of full.which held
  pub limit_is : full.limit ≡ limit_of full.which
  pub passed : full.limit < full.held
  pub first : (which : Which) → order_of which < order_of full.which → number_of which held ≤ limit_of which

-- two files have different names
abbrev pub DifferInName : Loaded → Loaded → Type 0
DifferInName file other = file.name ≢ other.name

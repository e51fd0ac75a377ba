-- Files that a collection accepts, and their verdicts.
use Rattle.std.specs.Prelude.{◌≡◌, ℕ, ◌≤◌, List, length, take, Option, None, IsSome, Ok}
use Rattle.dev_traits.specs.declared.inbox.Verdict.{Verdict}
use Rattle.dev_traits.specs.declared.inbox.Verdict.TheVariants as kinds
use Rattle.fm_model.specs.declared.limit.TheConstants.{MAX_FILE_BYTES}
use Rattle.fm_model.specs.declared.loaded.Loaded.{Loaded}
use Rattle.fm_model.specs.declared.op.Op.{Op}
use Rattle.fm_model.specs.declared.op.Op.TheVariants.{Put}
use Rattle.fm_model.specs.declared.proto.Proto.{Proto}
use Rattle.fm_model.specs.Collection.{coll, full_at}
use Rattle.fm_model.specs.Load.{load_of}
use Rattle.dev_traits.specs.declared.files.Found.TheVariants as found
use Rattle.dev_traits.specs.Files.{found_of}
use Rattle.srv_verdict.specs.Verdicts.{IsNumbered}
use Rattle.srv_ingest.specs.Verdicts.{taken_back}

-- the content of a name is accepted as this file
pub record IsAccepted (proto : Proto) (content : List ℕ → Option (List ℕ)) (name : List ℕ) (file : Loaded)
    : Type 0 where
  pub no_retraction : taken_back name ≡ None
  pub bytes : List ℕ
  pub is_found : found_of MAX_FILE_BYTES (content name) ≡ found.Content bytes
  pub loads : load_of name bytes proto ≡ Ok file

-- a file is the operation of a number, or there was no room for it after `count` operations, or memory ran out
abbrev pub IsPublishedOrFull : List Op → Loaded → Verdict → Type 0
IsPublishedOrFull ops file (kinds.Published number) = IsNumbered ops number (Put file)
IsPublishedOrFull ops file (kinds.Full count) =
    (count ≤ length ops) × IsSome (full_at (coll (take count ops)) (Put file))
IsPublishedOrFull ops file kinds.Short = Unit {0}
IsPublishedOrFull ops file verdict = ⊥

-- Where the data of each part lies among that of all parts.
use Rattle.std.specs.Prelude.{◌≡◌, ◌⊎◌, ℕ, ◌+◌, ◌<◌, ◌^◌, All, List, [], ◌∷◌, ◌++◌, length, take, slice_get, nat_le, true, false, Option, Some, None}
use Rattle.std.specs.List.Sorted.{IsPartitionPoint}
use Rattle.dap_model.specs.declared.projection.Sent.{Sent}
use Rattle.fm_dataset.specs.Values.{Shown}
use Rattle.dap_xdr.specs.Content.{data_of}
use Rattle.dap_xdr.specs.Datasets.{content_of}
use Rattle.dap_xdr.specs.Marks.{AreMarksOf}
use Rattle.dap_plan.specs.declared.laid.Laid.{Laid}
use Rattle.dap_plan.specs.declared.laid.Position.{Position}
use Rattle.dap_plan.specs.declared.laid.TextMarks.{TextMarks}

-- the data of the part at an index begins at this offset among all data, where that fits in 64 bits
abbrev pub IsBegin : Shown → List Sent → ℕ → ℕ → Type 0
IsBegin shown sent index begin =
    length (data_of (content_of shown) (take index sent)) < 2 ^ 64
    → begin ≡ length (data_of (content_of shown) (take index sent))

-- the data of some of the first parts begins at these offsets
abbrev pub AreBegins : Shown → List Sent → List ℕ → Type 0
AreBegins shown sent begins = (index begin : ℕ) → slice_get begins index ≡ Some begin → IsBegin shown sent index begin

-- the marks are in the texts of the part at their index
abbrev pub IsMarkedAt : Shown → List Sent → TextMarks → Type 0
IsMarkedAt shown sent one =
    (part : Sent) → slice_get sent one.index ≡ Some part → AreMarksOf shown part one.offsets

-- all of these are
abbrev pub AreMarked : Shown → List Sent → List TextMarks → Type 0
AreMarked shown sent marks = All (IsMarkedAt shown sent) marks

-- the marks of a part are added to those of others, or it has none
abbrev pub IsKept : List TextMarks → ℕ → List ℕ → List TextMarks → Type 0
IsKept old index offsets new = (new ≡ old) ⊎ (new ≡ old ++ record { index = index; offsets = offsets } ∷ [])

-- where the data of each part begins, and marks in some of them
pub record AreLaid (shown : Shown) (sent : List Sent) (laid : Laid) : Type 0 where
  pub count : length laid.begins ≡ length sent
  pub begins_are : AreBegins shown sent laid.begins
  pub marks_are : AreMarked shown sent laid.marks

-- the parts of a plan are laid, where it has data
abbrev pub AreLaidOf : Option Shown → List Sent → Laid → Type 0
AreLaidOf None sent laid = Unit {0}
AreLaidOf (Some shown) sent laid = AreLaid shown sent laid

-- an offset lies `left` bytes behind the begin of the part at an index, or there is no part
abbrev pub StandsAt : List ℕ → ℕ → Position → Type 0
StandsAt begins from at =
    ((at.index ≡ 0) × (at.left ≡ from))
    ⊎ ((begin : ℕ) × (slice_get begins at.index ≡ Some begin) × (at.left + begin ≡ from))

-- the parts up to a number of them begin at or before an offset, and those behind them after it
abbrev pub AreBegun : List ℕ → ℕ → ℕ → Type 0
AreBegun begins from begun = IsPartitionPoint (λ (begin : ℕ). nat_le begin from ≡ true)
    (λ (begin : ℕ). nat_le begin from ≡ false) begins begun

-- all parts behind the one at an index begin after an offset
abbrev pub IsLastBegun : List ℕ → ℕ → ℕ → Type 0
IsLastBegun begins from index =
    (later begin : ℕ) → index < later → slice_get begins later ≡ Some begin → from < begin

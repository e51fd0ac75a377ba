-- What a link holds.
use Rattle.std.specs.Prelude.{⊤, ◌≡◌, ◌<◌, ◌≤◌, ℕ, List, [], ◌++◌, length, take, drop, Option, Some, None}
use Rattle.dev_traits.specs.declared.link.Taken.{Taken}
use Rattle.dev_traits.specs.declared.link.Taken.TheVariants as takes
use Rattle.dev_traits.specs.declared.link.Sent.{Sent}
use Rattle.dev_traits.specs.declared.link.Sent.TheVariants as sends

-- what a link in memory holds
pub record Wire : Type 0 where
  -- the bytes that were taken
  pub taken : List ℕ
  -- the bytes that are left to come
  pub left : List ℕ
  -- all the bytes that were sent
  pub put : List ℕ

-- a link with this input, before its first call
abbrev pub fresh_wire : List ℕ → Wire
fresh_wire input = record { taken = []; left = input; put = [] }

-- a link of whose input the first n bytes were taken, and on which these bytes were sent
abbrev pub wire_at : List ℕ → ℕ → List ℕ → Wire
wire_at input count put = record { taken = take count input; left = drop count input; put = put }

-- the link after its next n bytes were taken
abbrev pub after_take : ℕ → Option Wire → Option Wire
after_take count None = None
after_take count (Some wire) = Some (record {
  taken = wire.taken ++ take count wire.left;
  left = drop count wire.left;
  put = wire.put;
})

-- the link after these bytes were sent
abbrev pub after_put : List ℕ → Option Wire → Option Wire
after_put bytes None = None
after_put bytes (Some wire) = Some (record { taken = wire.taken; left = wire.left; put = wire.put ++ bytes })

-- how many bytes a take gave
abbrev pub taken_count : Taken → ℕ
taken_count (takes.Bytes count) = count
taken_count takes.End = 0
taken_count takes.Later = 0

-- how many bytes a put sent
abbrev pub sent_count : Sent → ℕ
sent_count (sends.Bytes count) = count
sent_count sends.Later = 0

-- The bytes that a take gave are at least one and at most `room`.
abbrev pub TakesWithin : ℕ → Taken → Type 0
TakesWithin room (takes.Bytes count) = (0 < count) × (count ≤ room)
TakesWithin room takes.End = ⊤
TakesWithin room takes.Later = ⊤

-- The bytes that a put sent are at least one and at most `len`.
abbrev pub SendsWithin : ℕ → Sent → Type 0
SendsWithin len (sends.Bytes count) = (0 < count) × (count ≤ len)
SendsWithin len sends.Later = ⊤

-- The bytes that a take gave are the next ones, and the end comes only where none are left.
abbrev pub GivesNext : Wire → List ℕ → Taken → Type 0
GivesNext wire buf (takes.Bytes count) = (count ≤ length wire.left) × (take count buf ≡ take count wire.left)
GivesNext wire buf takes.End = wire.left ≡ []
GivesNext wire buf takes.Later = ⊤

-- A take gave bytes or the end.
abbrev pub TakesNow : Taken → Type 0
TakesNow (takes.Bytes count) = ⊤
TakesNow takes.End = ⊤
TakesNow takes.Later = ⊥

-- A put sent bytes.
abbrev pub SendsNow : Sent → Type 0
SendsNow (sends.Bytes count) = ⊤
SendsNow sends.Later = ⊥

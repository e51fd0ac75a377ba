-- The digits of a size, one after the other.
use Rattle.std.proofs.Common.{◌≡◌, ℕ, ◌+◌, ◌/◌, ◌≤◌, true, false, List, [], ◌∷◌, length, drop, slice_get, Some, None, Err, refl, ap, ◌∙◌, arith}
use Rattle.std.proofs.Math.Nat.{div-le_self}
use Rattle.std.proofs.lemmas.Option.{none-some, same_Some}
use Rattle.fm_base.specs.Input.{Input}
use Rattle.fm_base.proofs.Exact.{input}
use Rattle.dap_client.specs.Reading.{bracket_at, is_next_digit, size_from, with_digit}

-- a digit that goes on
pub size-more : (limit value next byte : ℕ) (i : Input) → slice_get i.rest 0 ≡ Some byte
    → is_next_digit limit value byte ≡ true → next ≡ with_digit value byte
    → size_from limit value i.at i.rest ≡ size_from limit next (i.at + 1) (drop 1 i.rest)
unfolding size_from
size-more limit value next byte i there passes is = by_rest i.at i.rest there
  where
    first_is : (at first : ℕ) (rest : List ℕ) → first ≡ byte
        → size_from limit value at (first ∷ rest) ≡ size_from limit next (at + 1) rest
    first_is at first rest same =
        rw (same, passes, is) refl

    by_rest : (at : ℕ) (rest : List ℕ) → slice_get rest 0 ≡ Some byte
        → size_from limit value at rest ≡ size_from limit next (at + 1) (drop 1 rest)
    by_rest at [] e = absurd (none-some byte e)
    by_rest at (first ∷ rest) e = first_is at first rest (same_Some first byte e)

-- a byte that doesn't
pub size-stopped : (limit value byte : ℕ) (i : Input) → slice_get i.rest 0 ≡ Some byte
    → is_next_digit limit value byte ≡ false
    → size_from limit value i.at i.rest ≡ bracket_at value i
unfolding size_from
size-stopped limit value byte i there stops = by_rest i.at i.rest there
  where
    first_is : (at first : ℕ) (rest : List ℕ) → first ≡ byte
        → size_from limit value at (first ∷ rest) ≡ bracket_at value (input at (first ∷ rest))
    first_is at first rest same = let e : is_next_digit limit value first ≡ false =
        ap (is_next_digit limit value) same ∙ stops in rw e refl

    by_rest : (at : ℕ) (rest : List ℕ) → slice_get rest 0 ≡ Some byte
        → size_from limit value at rest ≡ bracket_at value (input at rest)
    by_rest at [] e = absurd (none-some byte e)
    by_rest at (first ∷ rest) e = first_is at first rest (same_Some first byte e)

-- the end
pub size-none : (limit value : ℕ) (i : Input) → slice_get i.rest 0 ≡ None
    → size_from limit value i.at i.rest ≡ bracket_at value i
unfolding size_from
size-none limit value i none = by_rest i.at i.rest none
  where
    by_rest : (at : ℕ) (rest : List ℕ) → slice_get rest 0 ≡ None
        → size_from limit value at rest ≡ bracket_at value (input at rest)
    by_rest at [] e = refl
    by_rest at (first ∷ rest) e = absurd cc

pub ruleset sizes = (size-more, size-stopped, size-none)

-- no byte is left
pub size_ended : (limit value : ℕ) (i : Input) → length i.rest ≤ 0 → size_from limit value i.at i.rest ≡ Err i.at
unfolding size_from bracket_at
size_ended limit value i none = by_rest i.at i.rest none
  where
    by_rest : (at : ℕ) (rest : List ℕ) → length rest ≤ 0 → size_from limit value at rest ≡ Err at
    by_rest at [] e = refl
    by_rest at (first ∷ rest) e = absurd (omega arith)

-- the room after a dimension is no greater
pub room_after : (room size : ℕ) → room / size ≤ room
room_after room size = div-le_self room size

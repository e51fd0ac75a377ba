-- What the next byte stands for.
use Rattle.std.proofs.Common.{◌≡◌, ℕ, slice_get, option_and_then, Option, Some, None, Ok, Err, ap, ◌∙◌}
use Rattle.std.specs.Option.{option_map_or}
use Rattle.fm_base.specs.Input.{Input}
use Rattle.fm_base.specs.Parser.{Outcome}
use Rattle.nc_model.specs.UnitsReading.{past}
use Rattle.dap_client.specs.Reading.{byte_as}

-- the outcome by what stands there
abbrev by_option : {A : Type 0} → Input → Option A → Outcome A ℕ
by_option {A} i o = option_map_or (λ (a : A). Ok (a, past 1 i)) o (Err i.at)

pub byte-meant : {A : Type 0} (meaning : ℕ → Option A) (i : Input) (byte : ℕ) (a : A) → slice_get i.rest 0 ≡ Some byte
    → meaning byte ≡ Some a → byte_as meaning i ≡ Ok (a, past 1 i)
unfolding byte_as
byte-meant meaning i byte a there is =
    ap (λ (o : Option ℕ). by_option i (option_and_then meaning o)) there ∙ ap (by_option i) is

pub byte-unmeant : {A : Type 0} (meaning : ℕ → Option A) (i : Input) (byte : ℕ) → slice_get i.rest 0 ≡ Some byte
    → meaning byte ≡ None → byte_as meaning i ≡ Err i.at
unfolding byte_as
byte-unmeant meaning i byte there is =
    ap (λ (o : Option ℕ). by_option i (option_and_then meaning o)) there ∙ ap (by_option i) is

pub byte-none : {A : Type 0} (meaning : ℕ → Option A) (i : Input) → slice_get i.rest 0 ≡ None
    → byte_as meaning i ≡ Err i.at
unfolding byte_as
byte-none meaning i none = ap (λ (o : Option ℕ). by_option i (option_and_then meaning o)) none

pub ruleset meanings = (byte-meant, byte-unmeant, byte-none)

-- What the reading calls of a column may count on.
use Rattle.std.proofs.Common.{◌≡◌, ℕ, ◌<◌, Bool, true, false, List, length, Option, Some, None}
use Rattle.std.specs.Prelude.{slice_get, IfSome, nat_lt, not}
use Rattle.std.specs.Option.{option_map_or}
use Rattle.std.proofs.lemmas.Bool.{and_parts, ltb-true, not-true}
use Rattle.std.proofs.lemmas.Option.{slice_get_within}
use Rattle.fm_model.specs.declared.proto.ProtoVar.{ProtoVar}
use Rattle.fm_model.specs.Site.{IsPrototype}
use Rattle.fm_model.proofs.ProtoLemmas.{IsSound-given}
use Rattle.fm_dataset.specs.Columns.{IsFound}
use Rattle.fm_dataset.specs.Declarations.{is_axis_of}
use Rattle.fm_dataset.specs.Kept.{HasBits, HasCharacters, HasElement}
use Rattle.fm_dataset.specs.Rows.{AreRows}
use Rattle.fm_dataset.specs.Values.{is_stored, var_of_part, HasNumber, HasStored, HasText, Shown}
use Rattle.fm_dataset.proofs.ReadLemmas.{has_bits, has_characters, has_element}

-- a part whose numbers stand in files or in the prototype is that of a variable that isn't the axis
record IsOfVar (shown : Shown) (decl part : ℕ) : Type 0 where
  below : decl < length shown.proto.vars
  other : option_map_or (is_axis_of shown.proto) (var_of_part shown.proto decl part) false ≡ false

of_var : (shown : Shown) (decl part : ℕ) → is_stored shown decl part ≡ true → IsOfVar shown decl part
unfolding is_stored
of_var shown decl part e =
    let parts = and_parts (nat_lt decl (length shown.proto.vars))
    (not (option_map_or (is_axis_of shown.proto) (var_of_part shown.proto decl part) false)) e in
    record { below = ltb-true decl (length shown.proto.vars) parts.0; other = not-true _ parts.1 }

pub has_stored : (shown : Shown) (decl part : ℕ) (index : List ℕ) → is_stored shown decl part ≡ true
    → HasNumber shown decl part index → HasStored shown decl part index
has_stored shown decl part index stored has =
    let is = of_var shown decl part stored in
    record { has = has; of_variable = is.below; other = by_var (var_of_part shown.proto decl part) is.other }
  where
    by_var : (o : Option ProtoVar) → option_map_or (is_axis_of shown.proto) o false ≡ false
        → IfSome o (λ var. is_axis_of shown.proto var ≡ false)
    by_var None other = tt
    by_var (Some var) other = other

module _ (shown : Shown) (given : IsPrototype shown.proto) (rows_are : AreRows shown.proto shown.rows)
    {decl part number slot : ℕ} {stored : Bool} (found : IsFound shown decl part number slot stored) (var : ProtoVar)
    (there : slice_get shown.proto.vars number ≡ Some var) (index : List ℕ) where
  -- the variable that was found has the number that is asked for
  pub column_bits : decl < length shown.proto.vars → HasNumber shown decl part index
      → HasBits shown.proto shown.rows var slot index
  column_bits below has =
      has_bits shown (IsSound-given shown.proto given) rows_are decl part index number var found.number_is there slot
      (found.slot_is (slice_get_within shown.proto.vars number var there)) below has

  -- or the text
  pub column_text : HasText shown decl part index → HasCharacters shown.proto shown.rows var slot index
  column_text has =
      has_characters shown (IsSound-given shown.proto given) rows_are decl part index number var found.number_is there
      slot (found.slot_is (slice_get_within shown.proto.vars number var there)) has

  -- or the element that stands in a file
  pub column_element : HasStored shown decl part index → HasElement shown.proto shown.rows var slot index
  column_element has =
      has_element shown (IsSound-given shown.proto given) rows_are decl part index number var found.number_is there
      slot (found.slot_is (slice_get_within shown.proto.vars number var there)) has

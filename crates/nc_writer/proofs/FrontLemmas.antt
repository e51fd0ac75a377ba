-- A header is as long wherever the data of its variables begins.
use Rattle.std.proofs.Common.{◌≡◌, ℕ, ◌+◌, Bool, true, false, cond, List, [], ◌∷◌, length, refl, sym, ap, ap₂, ◌∙◌}
use Rattle.std.specs.Prelude.{◌==◌}
use Rattle.std.specs.Int.{w32, w64, to_be_bytes}
use Rattle.std.specs.List.{flat_map}
use Rattle.std.proofs.lemmas.List.{length-append}
use Rattle.nc_model.specs.declared.header.Dim.{Dim}
use Rattle.nc_model.specs.Format.{ATTRIBUTE_TAG}
use Rattle.fm_gen.specs.Fields.{var_front}
use Rattle.fm_dataset.specs.Values.{Shown}
use Rattle.nc_writer.specs.declared.variable.Variable.{Variable}
use Rattle.nc_writer.specs.Attributes.{attributes_of}
use Rattle.nc_writer.specs.Data.{data_len}
use Rattle.nc_writer.specs.Header.{attr_bytes, before_vars, begin_bytes, front_from, front_of, header_bytes, ids_of, list_bytes, placed_at, placed_bytes, placed_from, var_of}
use Rattle.nc_writer.proofs.HeaderLemmas.{length-placed_from}
use Rattle.nc_writer.proofs.SpellLemmas.{length-placed}

begin-long : (version a b : ℕ) → length (begin_bytes version a) ≡ length (begin_bytes version b)
unfolding begin_bytes
begin-long version a b = by_version (version == 1)
  where
    by_version : (one : Bool) → length (cond one (to_be_bytes w32 a) (to_be_bytes w64 a))
        ≡ length (cond one (to_be_bytes w32 b) (to_be_bytes w64 b))
    by_version true = refl
    by_version false = refl

module _ (shown : Shown) (version : ℕ) (dims : List Dim) where
  placed-long : (variable : Variable) (a b : ℕ) → length (placed_bytes version (placed_at shown dims a variable))
      ≡ length (placed_bytes version (placed_at shown dims b variable))
  unfolding placed_at var_of
  placed-long variable a b =
      length-placed version (placed_at shown dims a variable)
      ∙ ap (λ (n : ℕ). length (var_front variable.name (ids_of dims variable.dims))
      + (length (list_bytes ATTRIBUTE_TAG attr_bytes (attributes_of shown variable.name)) + (8 + n)))
      (begin-long version a b)
      ∙ sym (length-placed version (placed_at shown dims b variable))

  all-long : (variables : List Variable) (a b : ℕ)
      → length (flat_map (placed_bytes version) (placed_from shown dims a variables))
      ≡ length (flat_map (placed_bytes version) (placed_from shown dims b variables))
  unfolding placed_from
  all-long [] a b = refl
  all-long (variable ∷ variables) a b =
      length-append (placed_bytes version (placed_at shown dims a variable))
      (flat_map (placed_bytes version) (placed_from shown dims (a + data_len variable) variables))
      ∙ ap₂ (λ (m n : ℕ). m + n) (placed-long variable a b)
      (all-long variables (a + data_len variable) (b + data_len variable))
      ∙ sym (length-append (placed_bytes version (placed_at shown dims b variable))
      (flat_map (placed_bytes version) (placed_from shown dims (b + data_len variable) variables)))

  front-long : (variables : List Variable) (a b : ℕ) → length (front_from shown version dims variables a)
      ≡ length (front_from shown version dims variables b)
  unfolding front_from header_bytes
  front-long variables a b =
      let attrs = shown.proto.attrs in
      length-append (before_vars version dims attrs (length (placed_from shown dims a variables)))
      (flat_map (placed_bytes version) (placed_from shown dims a variables))
      ∙ ap₂ (λ (m n : ℕ). m + n)
      (ap (λ (n : ℕ). length (before_vars version dims attrs n))
      (length-placed_from shown dims a variables ∙ sym (length-placed_from shown dims b variables)))
      (all-long variables a b)
      ∙ sym (length-append (before_vars version dims attrs (length (placed_from shown dims b variables)))
      (flat_map (placed_bytes version) (placed_from shown dims b variables)))

  -- the data begins behind the header
  pub begin-is : (variables : List Variable)
      → length (front_from shown version dims variables 0) ≡ length (front_of shown version dims variables)
  unfolding front_of
  begin-is variables = front-long variables 0 (length (front_from shown version dims variables 0))

-- Index lists of arrays as index lists within a row.
use Rattle.std.proofs.Common.{◌≡◌, ℕ, ◌<◌, Bool, true, false, List, [], ◌∷◌, length, map, drop, Option, Some, None, refl, sym, ap, subst, ◌∙◌, arith}
use Rattle.std.specs.Prelude.{slice_get, slice_index, unwrap_or}
use Rattle.std.specs.Option.{option_map_or}
use Rattle.nc_model.specs.declared.header.Dim.{Dim}
use Rattle.nc_model.specs.Layout.{IsIndex}
use Rattle.fm_model.specs.declared.proto.Proto.{Proto}
use Rattle.fm_model.specs.declared.proto.ProtoVar.{ProtoVar}
use Rattle.fm_model.specs.Prototype.{lengths_of}
use Rattle.fm_dataset.specs.Declarations.{array_dims, array_of, dim_at, dims_in}
use Rattle.fm_dataset.specs.Values.{shape_of_array}

-- the lengths of the dimensions of these numbers
pub lengths_are : (proto : Proto) (ids : List ℕ)
    → map (λ (dim : Dim). dim.size) (map (dim_at proto) ids) ≡ lengths_of proto ids
unfolding dim_at
lengths_are proto [] = refl
lengths_are proto (id ∷ ids) = by_case (slice_get proto.dims id) (lengths_are proto ids)
  where
    by_case : (o : Option Dim) → map (λ (dim : Dim). dim.size) (map (dim_at proto) ids) ≡ lengths_of proto ids
        → (unwrap_or o (record { name = []; size = 0 })).size ∷ map (λ (dim : Dim). dim.size) (map (dim_at proto) ids)
        ≡ option_map_or (λ (dim : Dim). dim.size) o 0 ∷ lengths_of proto ids
    by_case None rest = ap (λ ns. 0 ∷ ns) rest
    by_case (Some dim) rest = ap (λ ns. dim.size ∷ ns) rest

-- an index list of a variable's array: its first index picks a row where the variable lies along the axis, and the
-- others are along the other dimensions of the array
pub record IsRowIndex (proto : Proto) (count : ℕ) (var : ProtoVar) (index : List ℕ) : Type 0 where
  pub some : var.timed ≡ true → 0 < length index
  pub row_there : var.timed ≡ true → slice_index index 0 < count
  pub within : var.timed ≡ true → IsIndex (lengths_of proto (drop 1 (array_dims var))) (drop 1 index)
  pub whole : var.timed ≡ false → IsIndex (lengths_of proto (array_dims var)) index

pub row_index_of : (proto : Proto) (count : ℕ) (var : ProtoVar) (index : List ℕ)
    → IsIndex (shape_of_array (array_of proto count var)) index → IsRowIndex proto count var index
unfolding array_of dims_in array_dims
row_index_of proto count var index is = by_case var.timed refl index is
  where
    by_case : (b : Bool) → var.timed ≡ b → (index : List ℕ)
        → IsIndex (shape_of_array (array_of proto count var)) index → IsRowIndex proto count var index
    by_case true timed [] is = let none : ⊥ = rw timed at is in absurd none
    by_case true timed (i ∷ rest) is =
        let parts : (i < count)
        × IsIndex (map (λ (dim : Dim). dim.size) (map (dim_at proto) (drop 1 (array_dims var)))) rest =
        rw timed at is in
        record {
          some = λ _. omega arith;
          row_there = λ _. parts.0;
          within = λ _. subst (λ (shape : List ℕ). IsIndex shape rest) (lengths_are proto (drop 1 (array_dims var)))
              parts.1;
          whole = λ other. let no : true ≡ false = sym timed ∙ other in absurd cc;
        }
    by_case false untimed index is =
        let parts : IsIndex (map (λ (dim : Dim). dim.size) (map (dim_at proto) (array_dims var))) index =
        rw untimed at is in
        record {
          some = λ other. let no : false ≡ true = sym untimed ∙ other in absurd cc;
          row_there = λ other. let no : false ≡ true = sym untimed ∙ other in absurd cc;
          within = λ other. let no : false ≡ true = sym untimed ∙ other in absurd cc;
          whole = λ _. subst (λ (shape : List ℕ). IsIndex shape index) (lengths_are proto (array_dims var)) parts;
        }

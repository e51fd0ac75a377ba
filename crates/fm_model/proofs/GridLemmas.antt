-- A file that was taken lies on the prototype's grid.
use Rattle.std.proofs.Common.{◌≡◌, ℕ, suc, ◌+◌, ◌≤◌, Bool, true, false, cond, not, List, [], ◌∷◌, length, take, Ok, refl, sym, ap, ◌∙◌, arith}
use Rattle.std.specs.Prelude.{slice_index, nat_eq, nat_lt}
use Rattle.std.specs.List.{common_prefix_len}
use Rattle.std.proofs.lemmas.Bool.{and_parts, eqb-true, ltb-false, not-false}
use Rattle.std.proofs.lemmas.Option.{same_Some}
use Rattle.std.proofs.lemmas.Slice.Eq.{bytes_eq-Decides}
use Rattle.nc_model.specs.declared.header.Header.{Header as FileHeader}
use Rattle.nc_model.specs.declared.header.NcVar.{NcVar}
use Rattle.nc_model.specs.declared.kind.Kind.{Kind}
use Rattle.nc_model.specs.Kind.{code_of}
use Rattle.nc_model.specs.Layout.{elements_of, shape_of}
use Rattle.nc_model.specs.Reading.{kind_of}
use Rattle.fm_model.specs.declared.loaded.LoadFault.TheVariants.{VariableDiffers, GridDiffers}
use Rattle.fm_model.specs.declared.proto.Proto.{Proto}
use Rattle.fm_model.specs.declared.proto.ProtoVar.{ProtoVar}
use Rattle.fm_base.specs.Chain.{◌>>◌, refuse_if}
use Rattle.fm_model.specs.LoadAxis.{file_var}
use Rattle.fm_model.specs.LoadVars.{lengths_of, is_like_fixed, same_bytes, same_grid}
use Rattle.fm_model.specs.Variable.{are_same, is_same_kind}
use Rattle.fm_base.proofs.ChainLemmas.{step_ok, refuse_if_ok, passed_if}
use Rattle.nc_model.proofs.Fields.{kind_of-code_of}

pub same_kind : (kind other : Kind) → is_same_kind kind other ≡ true → other ≡ kind
same_kind kind other e = same_Some other kind
    (sym (kind_of-code_of other) ∙ ap kind_of (sym (eqb-true (code_of kind) (code_of other) e)) ∙ kind_of-code_of kind)

-- the first difference of two lists of bytes lies past the first list, so the second begins with it
begins_with : (proto file : List ℕ) → length proto ≤ common_prefix_len nat_eq proto file
    → take (length proto) file ≡ proto
begins_with [] file le = refl
begins_with (a ∷ proto) [] le = absurd (omega arith)
begins_with (a ∷ proto) (b ∷ file) le = by_first (nat_eq a b) refl le (begins_with proto file)
  where
    by_first : (same : Bool) → nat_eq a b ≡ same
        → suc (length proto) ≤ cond same (1 + common_prefix_len nat_eq proto file) 0
        → (length proto ≤ common_prefix_len nat_eq proto file → take (length proto) file ≡ proto)
        → take (suc (length proto)) (b ∷ file) ≡ a ∷ proto
    by_first true is le more = let first : a ≡ b = eqb-true a b is in let others = more (omega arith) in cc
        (first, others)
    by_first false is le more = absurd (omega arith)

begins-same_bytes : (name proto file : List ℕ) → same_bytes name proto file ≡ Ok tt → take (length proto) file ≡ proto
unfolding same_bytes
begins-same_bytes name proto file e =
    let index : ℕ = common_prefix_len nat_eq proto file in
    begins_with proto file
    (ltb-false index (length proto)
    (passed_if (nat_lt index (length proto))
    (GridDiffers name index (slice_index proto index) (slice_index file index)) e))

-- the file's variable of the name of a prototype's coordinate variable is of the same kind and length, and its elements
-- begin with the prototype's
pub record IsGridBegun (proto : Proto) (bytes : List ℕ) (header : FileHeader) (wanted : ProtoVar) : Type 0 where
  pub var : NcVar
  pub named : file_var header wanted.name ≡ Ok var
  pub kind_is : var.kind ≡ wanted.kind
  pub lengths : shape_of header var ≡ lengths_of proto wanted.dims
  pub elements : take (length wanted.fixed) (elements_of bytes header var) ≡ wanted.fixed

pub IsGridBegun-same_grid : (proto : Proto) (bytes : List ℕ) (header : FileHeader) (wanted : ProtoVar)
    → same_grid proto bytes header wanted ≡ Ok tt → IsGridBegun proto bytes header wanted
unfolding same_grid is_like_fixed
IsGridBegun-same_grid proto bytes header wanted e =
    let var = step_ok (file_var header wanted.name)
    (λ v. refuse_if (not (is_like_fixed proto header wanted v))
    (VariableDiffers wanted.name) >> same_bytes wanted.name wanted.fixed (elements_of bytes header v)) tt e in
    let passed = refuse_if_ok (not (is_like_fixed proto header wanted var.0)) (VariableDiffers wanted.name)
    (same_bytes wanted.name wanted.fixed (elements_of bytes header var.0)) tt var.2 in
    let like = and_parts (is_same_kind wanted.kind var.0.kind)
    (are_same (lengths_of proto wanted.dims) (shape_of header var.0)) (not-false _ passed.0) in
    record {
      var = var.0;
      named = var.1;
      kind_is = same_kind wanted.kind var.0.kind like.0;
      lengths = sym ((bytes_eq-Decides (lengths_of proto wanted.dims) (shape_of header var.0)).0 like.1);
      elements = begins-same_bytes wanted.name wanted.fixed (elements_of bytes header var.0) passed.1;
    }

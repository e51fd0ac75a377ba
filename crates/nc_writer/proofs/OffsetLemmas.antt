-- The data of each variable stands at the offset that the header gives it.
use Rattle.std.proofs.Common.{◌≡◌, ℕ, false, ◌+◌, ◌*◌, ◌<◌, ◌≤◌, List, [], ◌∷◌, ◌++◌, length, take, drop, sym, ap, ◌∙◌, append_assoc, arith}
use Rattle.std.specs.List.{flat_map, AllZip}
use Rattle.std.proofs.Math.Seq.{drop-append_seam, take-append_seam}
use Rattle.std.proofs.lemmas.List.{length-append, length-drop}
use Rattle.nc_model.specs.declared.header.Header.{Header}
use Rattle.nc_model.specs.declared.header.NcVar.{NcVar}
use Rattle.nc_model.specs.Kind.{size_of}
use Rattle.nc_model.specs.Layout.{element, elements_of, indices_of, is_record_var, offset_of, product, rank_in, shape_of}
use Rattle.nc_layout.proofs.OrderLemmas.{flat_map_all}
use Rattle.nc_array.proofs.PartLemmas.{elements_at}
use Rattle.nc_model.specs.declared.header.Dim.{Dim}
use Rattle.fm_dataset.specs.Values.{Shown}
use Rattle.dap_model.specs.Xdr.{zeros_after}
use Rattle.dap_xdr.specs.Content.{Content}
use Rattle.dap_xdr.specs.Datasets.{content_of}
use Rattle.nc_writer.specs.declared.variable.Variable.{Variable}
use Rattle.nc_writer.specs.Data.{data_bytes, data_len, values_len, values_of}
use Rattle.nc_writer.specs.File.{all_data}
use Rattle.nc_writer.specs.Header.{placed_at, placed_from, var_of, Placed}
use Rattle.nc_writer.proofs.LenLemmas.{length-data}
use Rattle.nc_writer.proofs.ValueLemmas.{length-values_of}

-- the data of a variable stands at its offset
pub record Stands (bytes : List ℕ) (content : Content) (variable : Variable) (placed : Placed) : Type 0 where
  pub rest : List ℕ
  pub at : drop placed.var.begin bytes ≡ data_bytes content variable ++ rest

pub all-stand : (shown : Shown) (dims : List Dim) (begin : ℕ) (bytes before : List ℕ) (variables : List Variable)
    → begin ≡ length before → bytes ≡ before ++ all_data shown variables
    → AllZip (Stands bytes (content_of shown)) variables (placed_from shown dims begin variables)
unfolding placed_from placed_at var_of all_data
all-stand shown dims begin bytes before [] long whole = tt
all-stand shown dims begin bytes before (variable ∷ variables) long whole =
    let content = content_of shown in
    let first = data_bytes content variable in
    let rest = all_data shown variables in (
      record {
        rest = rest;
        at = ap (drop begin) whole ∙ ap (λ (n : ℕ). drop n (before ++ (first ++ rest))) long
            ∙ drop-append_seam before (first ++ rest);
      },
      all-stand shown dims (begin + data_len variable) bytes (before ++ first) variables
          (omega (arith, long, length-append before first, length-data content variable))
          (whole ∙ sym (append_assoc before first rest)),
    )

-- the elements of a variable without records lie one after the other
pub elements-lie : (bytes : List ℕ) (header : Header) (var : NcVar) (shape : List ℕ)
    → is_record_var header var ≡ false → shape_of header var ≡ shape
    → elements_of bytes header var ≡ take (size_of var.kind * product shape) (drop var.begin bytes)
unfolding element elements_of offset_of
elements-lie bytes header var shape fixed is =
    flat_map_all _ _ (λ index. ap (λ (n : ℕ). take (size_of var.kind) (drop n bytes)) (placed index))
    (indices_of (shape_of header var))
    ∙ ap (λ (s : List ℕ). flat_map
    (λ index. take (size_of var.kind) (drop (var.begin + size_of var.kind * rank_in shape index) bytes)) (indices_of s))
    is
    ∙ elements_at bytes var.begin (size_of var.kind) shape
  where
    placed : (index : List ℕ) → offset_of header var index ≡ var.begin + size_of var.kind * rank_in shape index
    placed index = rw fixed (ap (λ (s : List ℕ). var.begin + size_of var.kind * rank_in s index) is)

-- the elements of a variable are its values
pub elements-are : (bytes : List ℕ) (header : Header) (content : Content) (variable : Variable) (placed : Placed)
    (shape : List ℕ) → Stands bytes content variable placed → is_record_var header placed.var ≡ false
    → shape_of header placed.var ≡ shape → size_of placed.var.kind * product shape ≡ values_len variable
    → elements_of bytes header placed.var ≡ values_of content variable
unfolding data_bytes
elements-are bytes header content variable placed shape stands fixed is size =
    let values = values_of content variable in
    let zeros = zeros_after (values_len variable) in
    let long : size_of placed.var.kind * product shape ≡ length values =
    size ∙ sym (length-values_of content variable) in
    elements-lie bytes header placed.var shape fixed is
    ∙ ap (take (size_of placed.var.kind * product shape)) (stands.at ∙ append_assoc values zeros stands.rest)
    ∙ ap (λ (n : ℕ). take n (values ++ (zeros ++ stands.rest))) long
    ∙ take-append_seam values (zeros ++ stands.rest)

-- the data of a variable ends within the file
pub ends-within : (bytes : List ℕ) (content : Content) (variable : Variable) (placed : Placed)
    → Stands bytes content variable placed → 0 < data_len variable
    → placed.var.begin + data_len variable ≤ length bytes
ends-within bytes content variable placed stands some = omega (
  arith,
  some,
  ap length stands.at,
  length-append (data_bytes content variable) stands.rest,
  length-data content variable,
  length-drop placed.var.begin bytes,
)

-- The header of a file of a view is sound, and its layout has no fault.
use Rattle.std.proofs.Common.{◌≡◌, ℕ, zero, suc, ◌+◌, ◌-◌, ◌*◌, ◌^◌, ◌<◌, ◌≤◌, Bool, true, false, cond, List, [], ◌∷◌, length, map, drop, Option, None, refl, sym, ap, ap₂, subst, ◌∙◌, arith}
use Rattle.std.specs.Prelude.{count_by, nat_lt}
use Rattle.std.specs.List.{AllByRecursion, AllZip}
use Rattle.std.specs.Option.{option_or}
use Rattle.std.proofs.lemmas.Bool.{cond-false, le-ltb, ne_eqb}
use Rattle.std.proofs.lemmas.List.Sums.{sum_by-cons}
use Rattle.nc_model.specs.declared.header.Attr.{Attr}
use Rattle.nc_model.specs.declared.header.Dim.{Dim}
use Rattle.nc_model.specs.declared.header.Header.{Header}
use Rattle.nc_model.specs.declared.header.NcVar.{NcVar}
use Rattle.nc_model.specs.declared.fault.LayoutFault.{LayoutFault}
use Rattle.nc_model.specs.Format.{is_record_dim}
use Rattle.nc_model.specs.Kind.{size_of}
use Rattle.nc_model.specs.Layout.{end_of, first_outside, first_too_large, has_elements, is_outside, is_record_var, is_too_large, layout_fault, offset_of, product, rank_in, shape_of, vsize}
use Rattle.nc_model.specs.Spelling.{AreDistinct, IsSound, IsSoundVar, NamesNoRecord}
use Rattle.nc_model.proofs.EndLaws.{rank_in-last}
use Rattle.dap_xdr.specs.Content.{Content}
use Rattle.nc_writer.specs.declared.variable.Variable.{Variable}
use Rattle.nc_writer.specs.Data.{values_len}
use Rattle.nc_writer.specs.Header.{Placed}
use Rattle.nc_writer.proofs.LenLemmas.{values-least}
use Rattle.nc_writer.proofs.OffsetLemmas.{ends-within, Stands}
use Rattle.nc_writer.proofs.ShapeLemmas.{sizes_of, HasSize}
use Rattle.nc_writer.proofs.SpellLemmas.{header_with, IsWritableVar}

-- a dimension with a size isn't the record dimension
sized : (dim : Dim) → HasSize dim → is_record_dim dim ≡ false
sized dim some = ne_eqb dim.size 0 (λ z. absurd (omega (arith, some, z)))

no-record-at : (dims : List Dim) (id : ℕ) → AllByRecursion HasSize dims → NamesNoRecord dims id
no-record-at [] id sizes = tt
no-record-at (dim ∷ dims) zero sizes = sized dim sizes.0
no-record-at (dim ∷ dims) (suc id) sizes = no-record-at dims id sizes.1

no-records-in : (dims : List Dim) (ids : List ℕ) → AllByRecursion HasSize dims
    → AllByRecursion (NamesNoRecord dims) ids
no-records-in dims [] sizes = tt
no-records-in dims (id ∷ ids) sizes = (no-record-at dims id sizes, no-records-in dims ids sizes)

no-record-dims : (dims : List Dim) → AllByRecursion HasSize dims → count_by is_record_dim dims ≡ 0
no-record-dims [] sizes = refl
no-record-dims (dim ∷ dims) sizes =
    sum_by-cons (λ (d : Dim). cond (is_record_dim d) 1 0) dim dims
    ∙ ap₂ (λ (b : Bool) (n : ℕ). cond b 1 0 + n) (sized dim sizes.0) (no-record-dims dims sizes.1)

pub no-record-each : (dims : List Dim) → AllByRecursion HasSize dims
    → AllByRecursion (λ (dim : Dim). is_record_dim dim ≡ false) dims
no-record-each [] sizes = tt
no-record-each (dim ∷ dims) sizes = (sized dim sizes.0, no-record-each dims sizes.1)

-- a variable that can be written is sound, where its attributes have different names
pub record IsApart (count : ℕ) (var : NcVar) : Type 0 where
  pub can : IsWritableVar count var
  pub attrs : AreDistinct (map (λ (a : Attr). a.name) var.attrs)

sound-vars : (dims : List Dim) (placed : List Placed) → AllByRecursion HasSize dims
    → AllByRecursion (λ (p : Placed). IsApart (length dims) p.var) placed
    → AllByRecursion (IsSoundVar dims) (map (λ (p : Placed). p.var) placed)
sound-vars dims [] sizes all = tt
sound-vars dims (p ∷ placed) sizes all = (
  record {
    rank = all.0.can.rank;
    named = all.0.can.ids;
    record_first = no-records-in dims (drop 1 p.var.dims) sizes;
    attrs = all.0.attrs;
  },
  sound-vars dims placed sizes all.1,
)

pub sound-header : (version : ℕ) (dims : List Dim) (attrs : List Attr) (placed : List Placed)
    → AreDistinct (map (λ (d : Dim). d.name) dims) → AllByRecursion HasSize dims
    → AreDistinct (map (λ (a : Attr). a.name) attrs)
    → AreDistinct (map (λ (v : NcVar). v.name) (map (λ (p : Placed). p.var) placed))
    → AllByRecursion (λ (p : Placed). IsApart (length dims) p.var) placed
    → IsSound (header_with version dims attrs placed)
sound-header version dims attrs placed dim_names sizes attr_names var_names all = record {
  dims = dim_names;
  one_record = let none = no-record-dims dims sizes in omega (arith, none);
  attrs = attr_names;
  vars = var_names;
  each = sound-vars dims placed sizes all;
}

-- ---- the layout

-- a variable of a header is that of a variable that is written, and its data stands in the bytes
pub record IsLaid (bytes : List ℕ) (header : Header) (content : Content) (variable : Variable) (placed : Placed)
    : Type 0 where
  pub stands : Stands bytes content variable placed
  pub fixed : is_record_var header placed.var ≡ false
  pub shape : shape_of header placed.var ≡ sizes_of variable.dims
  pub size : size_of placed.var.kind * product (sizes_of variable.dims) ≡ values_len variable
  pub some : 0 < product (sizes_of variable.dims)
  pub bytes_some : 0 < values_len variable

vsize-is : (bytes : List ℕ) (header : Header) (content : Content) (variable : Variable) (placed : Placed)
    → IsLaid bytes header content variable placed → vsize header placed.var ≡ values_len variable
unfolding vsize
vsize-is bytes header content variable placed laid =
    rw laid.fixed (ap (λ (s : List ℕ). size_of placed.var.kind * product s) laid.shape ∙ laid.size)

-- the last element ends where the values end
end-is : (bytes : List ℕ) (header : Header) (content : Content) (variable : Variable) (placed : Placed)
    → IsLaid bytes header content variable placed
    → end_of header placed.var ≡ placed.var.begin + values_len variable
unfolding offset_of
end-is bytes header content variable placed laid =
    let var = placed.var in
    let shape = sizes_of variable.dims in
    let size = size_of var.kind in
    let last = map (λ n. n - 1) shape in
    let last_begin : offset_of header var (map (λ n. n - 1) (shape_of header var))
    ≡ var.begin + size * rank_in shape last =
    rw laid.fixed (ap (λ (s : List ℕ). var.begin + size * rank_in s (map (λ n. n - 1) s)) laid.shape) in
    let rank : rank_in shape last + 1 ≡ product shape = rank_in-last shape laid.some in
    let whole : size * rank_in shape last + size ≡ size * product shape =
    omega arith ∙ ap (λ (n : ℕ). size * n) rank in
    omega (arith, last_begin, whole, laid.size)

-- no variable is too large, and none ends past the file
pub record IsWithin (header : Header) (len : ℕ) (var : NcVar) : Type 0 where
  pub large : is_too_large header var ≡ false
  pub outside : is_outside header len var ≡ false

within-of : (bytes : List ℕ) (header : Header) (content : Content) (variable : Variable) (placed : Placed)
    → length bytes ≤ 2 ^ 40 → IsLaid bytes header content variable placed
    → IsWithin header (length bytes) placed.var
within-of bytes header content variable placed few laid =
    let least = values-least variable in
    let some = laid.bytes_some in
    let ends = ends-within bytes content variable placed laid.stands (omega (arith, some, least)) in
    let size = vsize-is bytes header content variable placed laid in
    let end = end-is bytes header content variable placed laid in
    let past : nat_lt (length bytes) (end_of header placed.var) ≡ false =
    le-ltb (length bytes) (end_of header placed.var) (omega (arith, end, ends, least)) in
    record {
      large = le-ltb (2 ^ 40) (vsize header placed.var) (omega (arith, size, ends, least, few));
      outside = inside past (has_elements header placed.var);
    }
  where
    inside : nat_lt (length bytes) (end_of header placed.var) ≡ false → (b : Bool)
        → cond b (nat_lt (length bytes) (end_of header placed.var)) false ≡ false
    inside past true = past
    inside past false = refl

none-large : (header : Header) (len n : ℕ) (vars : List NcVar) → AllByRecursion (IsWithin header len) vars
    → first_too_large header n vars ≡ None
unfolding first_too_large
none-large header len n [] all = refl
none-large header len n (var ∷ vars) all = cond-false _ _ _ all.0.large ∙ none-large header len (n + 1) vars all.1

none-outside : (header : Header) (len n : ℕ) (vars : List NcVar) → AllByRecursion (IsWithin header len) vars
    → first_outside header len n vars ≡ None
unfolding first_outside
none-outside header len n [] all = refl
none-outside header len n (var ∷ vars) all =
    cond-false _ _ _ all.0.outside ∙ none-outside header len (n + 1) vars all.1

all-within : (bytes : List ℕ) (header : Header) (content : Content) (variables : List Variable)
    (placed : List Placed) → length bytes ≤ 2 ^ 40
    → AllZip (IsLaid bytes header content) variables placed
    → AllByRecursion (IsWithin header (length bytes)) (map (λ (p : Placed). p.var) placed)
all-within bytes header content [] [] few all = tt
all-within bytes header content [] (p ∷ placed) few all = absurd all
all-within bytes header content (variable ∷ variables) [] few all = absurd all
all-within bytes header content (variable ∷ variables) (p ∷ placed) few all = (
  within-of bytes header content variable p few all.0,
  all-within bytes header content variables placed few all.1,
)

pub layout-none : (bytes : List ℕ) (header : Header) (content : Content) (variables : List Variable)
    (placed : List Placed) → length bytes ≤ 2 ^ 40 → header.vars ≡ map (λ (p : Placed). p.var) placed
    → AllZip (IsLaid bytes header content) variables placed
    → layout_fault header (length bytes) ≡ None
unfolding layout_fault
layout-none bytes header content variables placed few is all =
    let within = subst (AllByRecursion (IsWithin header (length bytes))) (sym is)
    (all-within bytes header content variables placed few all) in
    ap₂ (λ (a b : Option LayoutFault). option_or a b)
    (none-large header (length bytes) 0 header.vars within)
    (none-outside header (length bytes) 0 header.vars within)

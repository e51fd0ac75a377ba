-- The shapes of a header's variables, and that no fixed dimension of a sound header has the length 0.
use Rattle.std.proofs.Common.{◌≡◌, ℕ, ◌+◌, ◌*◌, ◌<◌, ◌≤◌, length, All, arith, inl, inr, Bool, true, false, List, [], ◌∷◌, map, Option, Some, None, refl, sym, ap, ap₂, subst, ◌∙◌, cond, drop}
use Rattle.std.specs.List.{slice_get, slice_index, AllByRecursion}
use Rattle.std.specs.Option.{option_map_or, IfSome}
use Rattle.std.proofs.lemmas.Option.{slice_get_cases}
use Rattle.std.proofs.lemmas.Bool.{eqb-false}
use Rattle.std.proofs.lemmas.List.{drop-map}
use Rattle.std.proofs.lemmas.List.Elements.{All-nil, All-cons, All-weaker, All-from_recursion}
use Rattle.nc_model.specs.declared.header.Dim.{Dim}
use Rattle.nc_model.specs.declared.header.Header.{Header}
use Rattle.nc_model.specs.declared.header.NcVar.{NcVar}
use Rattle.nc_model.specs.Format.{is_record_dim}
use Rattle.nc_model.specs.Kind.{size_of}
use Rattle.nc_model.specs.Layout.{size_in, size_at, is_record_var, shape_of, fixed_shape, record_size, rank_in, offset_of, IsIndex}
use Rattle.nc_model.specs.Reading.{names_record_dim}
use Rattle.nc_model.specs.Spelling.{IsSoundVar, NamesNoRecord}
use Rattle.nc_layout.specs.Faults.{CanLayOut}
use Rattle.nc_layout.specs.Kept.{HasLengths, part_of, index_in_part}
use Rattle.nc_layout.specs.LaidOut.{part_begin, part_count}

-- the record dimension is as long as there are records
size_at-record : (header : Header) (id : ℕ) → names_record_dim header.dims id ≡ true → size_at header id
    ≡ header.numrecs
unfolding names_record_dim
size_at-record header id named = at (slice_get header.dims id) named
  where
    at : (o : Option Dim) → option_map_or is_record_dim o false ≡ true → option_map_or (size_in header) o 0
        ≡ header.numrecs
    at None e = absurd cc
    at (Some dim) e = rw e refl

-- the lengths of a variable's dimensions, without records
pub shape_of-fixed : (header : Header) (var : NcVar) → is_record_var header var ≡ false
    → shape_of header var ≡ fixed_shape header var
shape_of-fixed header var is = rw is refl

-- and with records
pub shape_of-record : (header : Header) (var : NcVar) → is_record_var header var ≡ true
    → shape_of header var ≡ header.numrecs ∷ fixed_shape header var
shape_of-record header var is = at var.dims refl
  where
    at : (ids : List ℕ) → var.dims ≡ ids → shape_of header var ≡ header.numrecs ∷ fixed_shape header var
    at [] none = let not : is_record_var header var ≡ false = rw none refl in absurd cc
    at (id ∷ ids) some =
        let named : names_record_dim header.dims id ≡ true = rw some at is in
        rw is (rw some (ap (λ n. n ∷ map (size_at header) ids) (size_at-record header id named)))

-- an element lies in its part, at the number of its index list there
pub offset_of-part : (header : Header) (var : NcVar) (index : List ℕ) → offset_of header var index
    ≡ part_begin header var (part_of header var index)
    + size_of var.kind * rank_in (fixed_shape header var) (index_in_part header var index)
unfolding offset_of
offset_of-part header var index = by_case (is_record_var header var)
  where
    begin : ℕ
    begin = var.begin

    offset : List ℕ → ℕ
    offset rest = size_of var.kind * rank_in (fixed_shape header var) rest

    by_case : (b : Bool)
        → cond b (begin + slice_index index 0 * record_size header + offset (drop 1 index)) (begin + offset index)
        ≡ begin + cond b (slice_index index 0) 0 * record_size header + offset (cond b (drop 1 index) index)
    by_case true = refl
    by_case false = omega arith

-- an index list of a variable names a part of it, and an element of that part
pub index-part : (header : Header) (var : NcVar) (index : List ℕ) → IsIndex (shape_of header var) index
    → (part_of header var index < part_count header var)
    × IsIndex (fixed_shape header var) (index_in_part header var index)
index-part header var index is = by_case (is_record_var header var) refl index is
  where
    by_case : (b : Bool) → is_record_var header var ≡ b → (index : List ℕ) → IsIndex (shape_of header var) index
        → (cond b (slice_index index 0) 0 < cond b header.numrecs 1)
        × IsIndex (fixed_shape header var) (cond b (drop 1 index) index)
    by_case false none index is =
        (omega arith, subst (λ shape. IsIndex shape index) (shape_of-fixed header var none) is)
    by_case true some [] is = absurd (subst (λ shape. IsIndex shape []) (shape_of-record header var some) is)
    by_case true some (i ∷ index) is = subst (λ shape. IsIndex shape (i ∷ index)) (shape_of-record header var some) is

-- and no other index list does
pub same_part : (header : Header) (var : NcVar) (index other : List ℕ) → IsIndex (shape_of header var) index
    → IsIndex (shape_of header var) other
    → part_of header var index ≡ part_of header var other
    → index_in_part header var index ≡ index_in_part header var other → index ≡ other
same_part header var index other is also = by_case (is_record_var header var) refl index other is also
  where
    by_case : (b : Bool) → is_record_var header var ≡ b → (index other : List ℕ) → IsIndex (shape_of header var) index
        → IsIndex (shape_of header var) other
        → cond b (slice_index index 0) 0 ≡ cond b (slice_index other 0) 0
        → cond b (drop 1 index) index ≡ cond b (drop 1 other) other → index ≡ other
    by_case false none index other is also part rest = rest
    by_case true some [] other is also part rest =
        absurd (subst (λ shape. IsIndex shape []) (shape_of-record header var some) is)
    by_case true some (i ∷ index) [] is also part rest =
        absurd (subst (λ shape. IsIndex shape []) (shape_of-record header var some) also)
    by_case true some (i ∷ index) (j ∷ other) is also part rest = ap₂ (λ k ks. k ∷ ks) part rest

-- the lengths of the dimensions but for the record dimension
pub fixed_shape-record : (header : Header) (var : NcVar) → is_record_var header var ≡ true
    → map (size_at header) (drop 1 var.dims) ≡ fixed_shape header var
fixed_shape-record header var is = rw is (sym (drop-map (size_at header) 1 var.dims))

pub fixed_shape-fixed : (header : Header) (var : NcVar) → is_record_var header var ≡ false
    → map (size_at header) var.dims ≡ fixed_shape header var
fixed_shape-fixed header var is = rw is refl

-- a record variable has a dimension
pub some_dim : (header : Header) (var : NcVar) → is_record_var header var ≡ true → 0 < length var.dims
some_dim header var is = at var.dims refl
  where
    at : (ids : List ℕ) → var.dims ≡ ids → 0 < length var.dims
    at [] none = let not : is_record_var header var ≡ false = rw none refl in absurd cc
    at (id ∷ ids) some = rw some (omega arith)

pub ruleset shapes = (fixed_shape-record, fixed_shape-fixed, some_dim)

-- a dimension that isn't the record dimension has no length 0
size_at-pos : (header : Header) (id : ℕ) → id < length header.dims → names_record_dim header.dims id ≡ false
    → 1 ≤ size_at header id
unfolding names_record_dim
size_at-pos header id below other = at (slice_get header.dims id) refl other
  where
    at : (o : Option Dim) → slice_get header.dims id ≡ o → option_map_or is_record_dim o false ≡ false
        → 1 ≤ option_map_or (size_in header) o 0
    at None none e = elim (slice_get_cases header.dims id).1 [ inl some ↦ absurd cc | inr past ↦ absurd (omega arith) ]
    at (Some dim) some e = let size = eqb-false dim.size 0 e in rw e (omega arith)

sizes-pos : (header : Header) (ids : List ℕ) → AllByRecursion (λ id. id < length header.dims) ids
    → AllByRecursion (λ id. names_record_dim header.dims id ≡ false) ids → All (λ n. 1 ≤ n) (map (size_at header) ids)
sizes-pos header [] there other = All-nil (λ n. 1 ≤ n)
sizes-pos header (id ∷ ids) there other =
    All-cons (λ n. 1 ≤ n) (size_at header id) (map (size_at header) ids) (size_at-pos header id there.0 other.0)
    (sizes-pos header ids there.1 other.1)

-- the dimensions after the first don't have the records
names_no_record : (dims : List Dim) (ids : List ℕ) → AllByRecursion (NamesNoRecord dims) ids
    → AllByRecursion (λ id. names_record_dim dims id ≡ false) ids
unfolding names_record_dim
names_no_record dims [] all = tt
names_no_record dims (id ∷ ids) all = (at (slice_get dims id) all.0, names_no_record dims ids all.1)
  where
    at : (o : Option Dim) → IfSome o (λ dim. is_record_dim dim ≡ false) → option_map_or is_record_dim o false ≡ false
    at None other = refl
    at (Some dim) other = other

fixed-pos : (header : Header) (ids : List ℕ) (b : Bool)
    → option_map_or (names_record_dim header.dims) (slice_get ids 0) false ≡ b
    → AllByRecursion (λ id. id < length header.dims) ids
    → AllByRecursion (λ id. names_record_dim header.dims id ≡ false) (drop 1 ids)
    → All (λ n. 1 ≤ n) (cond b (drop 1 (map (size_at header) ids)) (map (size_at header) ids))
fixed-pos header [] true first there other = All-nil (λ n. 1 ≤ n)
fixed-pos header [] false first there other = All-nil (λ n. 1 ≤ n)
fixed-pos header (id ∷ ids) true first there other = sizes-pos header ids there.1 other
fixed-pos header (id ∷ ids) false first there other = sizes-pos header (id ∷ ids) there (first, other)

-- the lengths of all variables of a header that can be laid out
pub All-lengths : (header : Header) → CanLayOut header → All (HasLengths header) header.vars
All-lengths header can =
    All-weaker (IsSoundVar header.dims) (HasLengths header) lengths_of header.vars
    (All-from_recursion (IsSoundVar header.dims) header.vars can.sound.each)
  where
    lengths_of : (var : NcVar) → IsSoundVar header.dims var → HasLengths header var
    lengths_of var sound =
        fixed-pos header var.dims (is_record_var header var) refl sound.named
        (names_no_record header.dims (drop 1 var.dims) sound.record_first)

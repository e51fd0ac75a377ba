-- What is written as a header is a spelling of it: its variables, and the whole.
use Rattle.std.proofs.Common.{◌≡◌, ◌⊎◌, ℕ, ◌+◌, ◌*◌, ◌^◌, ◌<◌, ◌≤◌, List, [], ◌∷◌, ◌++◌, length, map, inl, inr, refl, sym, ap, ◌∙◌, append_assoc, arith}
use Rattle.std.specs.Prelude.{IsTrue, codes}
use Rattle.std.specs.List.{flat_map, AllByRecursion}
use Rattle.std.proofs.lemmas.List.{length-append, length-map}
use Rattle.nc_model.specs.declared.header.Attr.{Attr}
use Rattle.nc_model.specs.declared.header.Dim.{Dim}
use Rattle.nc_model.specs.declared.header.Header.{Header}
use Rattle.nc_model.specs.declared.header.NcVar.{NcVar}
use Rattle.nc_model.specs.Format.{is_name_text, ATTRIBUTE_TAG, DIMENSION_TAG, VARIABLE_TAG}
use Rattle.nc_model.specs.Kind.{code_of}
use Rattle.nc_model.specs.Spelling.{Spelled, SpellsBegin, SpellsHeader, SpellsList, SpellsVar, SpellsWord}
use Rattle.fm_gen.specs.Fields.{counted, shape_text, tagged, var_front, word}
use Rattle.nc_writer.specs.Header.{attr_bytes, before_vars, begin_bytes, dim_bytes, header_bytes, list_bytes, list_front, placed_bytes, Placed}
use Rattle.nc_writer.proofs.FieldLemmas.{dim-some, few-items, front-some, length-word, spells-attrs, spells-count, spells-dims, spells-name, spells-word, IsWritableAttr, IsWritableDim}

-- ---- variables

-- the numbers of dimensions
spells-ids : (ids : List ℕ) → AllByRecursion (λ id. id < 2 ^ 31) ids → Spelled SpellsWord (shape_text ids) ids
unfolding shape_text
spells-ids [] small = refl
spells-ids (id ∷ ids) small =
    let first = small.0 in
    (word id, shape_text ids, spells-word id (omega (arith, first)), spells-ids ids small.1, refl)

length-ids : (ids : List ℕ) → length (shape_text ids) ≡ 4 * length ids
unfolding shape_text
length-ids [] = refl
length-ids (id ∷ ids) =
    omega (arith, length-append (word id) (shape_text ids), length-word id, length-ids ids)

-- a variable can be written: its name is one, it has few dimensions, which are there, its attributes can be written,
-- and its data begins within four bytes
pub record IsWritableVar (count : ℕ) (var : NcVar) : Type 0 where
  pub named : IsTrue (is_name_text var.name)
  pub rank : length var.dims ≤ 1024
  pub ids : AllByRecursion (λ id. id < count) var.dims
  pub attrs : AllByRecursion IsWritableAttr var.attrs
  pub begin : var.begin < 2 ^ 32

small-ids : (count : ℕ) (ids : List ℕ) → count ≤ 2 ^ 31 → AllByRecursion (λ id. id < count) ids
    → AllByRecursion (λ id. id < 2 ^ 31) ids
small-ids count [] few all = tt
small-ids count (id ∷ ids) few all = let first = all.0 in (omega (arith, first, few), small-ids count ids few all.1)

spells-begin : (version begin : ℕ) → (version ≡ 1) ⊎ (version ≡ 2) → begin < 2 ^ 32
    → SpellsBegin version (begin_bytes version begin) begin
unfolding begin_bytes
spells-begin version begin (inl one) small = inl (one, small, rw one refl)
spells-begin version begin (inr two) small = inr (two, omega (arith, small), rw two refl)

length-front : (name ids : List ℕ) → length (var_front name ids) ≡ length (counted name) + 4 + 4 * length ids
unfolding var_front
length-front name ids = omega (
  arith,
  length-append (counted name ++ word (length ids)) (shape_text ids),
  length-append (counted name) (word (length ids)),
  length-word (length ids),
  length-ids ids,
)

-- the parts of a variable's text
module _ (version : ℕ) (placed : Placed) where
  abbrev var : NcVar
  var = placed.var

  abbrev attrs_text : List ℕ
  attrs_text = list_bytes ATTRIBUTE_TAG attr_bytes var.attrs

  pub length-placed : length (placed_bytes version placed) ≡ length (var_front var.name var.dims)
      + (length attrs_text + (8 + length (begin_bytes version var.begin)))
  unfolding placed_bytes
  length-placed = omega (
    arith,
    length-append (var_front var.name var.dims ++ attrs_text ++ word (code_of var.kind) ++ word placed.size)
        (begin_bytes version var.begin),
    length-append (var_front var.name var.dims ++ attrs_text ++ word (code_of var.kind)) (word placed.size),
    length-append (var_front var.name var.dims ++ attrs_text) (word (code_of var.kind)),
    length-append (var_front var.name var.dims) attrs_text,
    length-word (code_of var.kind),
    length-word placed.size,
  )

  pub spells-placed : (count : ℕ) → (version ≡ 1) ⊎ (version ≡ 2) → count ≤ 2 ^ 31 → IsWritableVar count var
      → length (placed_bytes version placed) < 2 ^ 31 → SpellsVar version (placed_bytes version placed) var
  unfolding placed_bytes var_front word
  spells-placed count is few can small =
      let long = length-placed in
      let front = length-front var.name var.dims in
      let listed = length-append (list_front ATTRIBUTE_TAG (length var.attrs)) (flat_map attr_bytes var.attrs) in
      let name = counted var.name in
      let rank = word (length var.dims) in
      let ids = shape_text var.dims in
      record {
        name_text = name;
        rank_text = rank;
        dims_text = ids;
        attrs_text = attrs_text;
        kind_text = word (code_of var.kind);
        size_text = word placed.size;
        begin_text = begin_bytes version var.begin;
        name = spells-name var.name can.named (omega (arith, long, front, small));
        rank = spells-count (length var.dims) (omega (arith, can.rank));
        dims = spells-ids var.dims (small-ids count var.dims few can.ids);
        attrs = spells-attrs var.attrs can.attrs (omega (arith, long, listed, small));
        kind = refl;
        size = refl;
        begin = spells-begin version var.begin is can.begin;
        text_is = refl;
      }

placed-some : (version : ℕ) (placed : Placed) → 1 ≤ length (placed_bytes version placed)
placed-some version placed = omega (arith, length-placed version placed)

-- ---- the header

-- the variables of a header, each of which can be written
spelled-vars : (version count : ℕ) → (version ≡ 1) ⊎ (version ≡ 2) → count ≤ 2 ^ 31 → (placed : List Placed)
    → AllByRecursion (λ (p : Placed). IsWritableVar count p.var) placed
    → length (flat_map (placed_bytes version) placed) < 2 ^ 31
    → Spelled (SpellsVar version) (flat_map (placed_bytes version) placed) (map (λ (p : Placed). p.var) placed)
spelled-vars version count is few [] all small = refl
spelled-vars version count is few (p ∷ placed) all small =
    let whole = length-append (placed_bytes version p) (flat_map (placed_bytes version) placed) in (
      placed_bytes version p,
      flat_map (placed_bytes version) placed,
      spells-placed version p count is few all.0 (omega (arith, whole, small)),
      spelled-vars version count is few placed all.1 (omega (arith, whole, small)),
      refl,
    )

spells-vars : (version count : ℕ) → (version ≡ 1) ⊎ (version ≡ 2) → count ≤ 2 ^ 31 → (placed : List Placed)
    → AllByRecursion (λ (p : Placed). IsWritableVar count p.var) placed
    → length (flat_map (placed_bytes version) placed) < 2 ^ 31
    → SpellsList VARIABLE_TAG (SpellsVar version)
    (list_front VARIABLE_TAG (length placed) ++ flat_map (placed_bytes version) placed)
    (map (λ (p : Placed). p.var) placed)
unfolding list_front word
spells-vars version count is few [] all small = inl (record { none = refl; text_is = refl })
spells-vars version count is few (p ∷ placed) all small =
    let vars = map (λ (q : Placed). q.var) (p ∷ placed) in
    let many : length vars ≡ length (p ∷ placed) = length-map (p ∷ placed) (λ (q : Placed). q.var) in
    inr (record {
      count_text = word (length vars);
      items_text = flat_map (placed_bytes version) (p ∷ placed);
      count = spells-count (length vars)
          (omega (arith, few-items (placed_bytes version) (placed-some version) (p ∷ placed), small, many));
      each = spelled-vars version count is few (p ∷ placed) all small;
      text_is = ap (λ (l : List ℕ). l ++ flat_map (placed_bytes version) (p ∷ placed))
          (front-some VARIABLE_TAG (length placed))
          ∙ ap (λ (n : ℕ). tagged VARIABLE_TAG n ++ flat_map (placed_bytes version) (p ∷ placed)) (sym many);
    })

-- a header can be written
pub record IsWritable (version : ℕ) (dims : List Dim) (attrs : List Attr) (placed : List Placed) : Type 0 where
  pub version_is : (version ≡ 1) ⊎ (version ≡ 2)
  pub dims_can : AllByRecursion IsWritableDim dims
  pub attrs_can : AllByRecursion IsWritableAttr attrs
  pub vars_can : AllByRecursion (λ (p : Placed). IsWritableVar (length dims) p.var) placed
  pub small : length (header_bytes version dims attrs placed) < 2 ^ 31

-- a header of these parts
abbrev pub header_with : ℕ → List Dim → List Attr → List Placed → Header
header_with version dims attrs placed = record {
  version = version;
  numrecs = 0;
  dims = dims;
  attrs = attrs;
  vars = map (λ (p : Placed). p.var) placed;
}

pub spells-header : (version : ℕ) (dims : List Dim) (attrs : List Attr) (placed : List Placed)
    → IsWritable version dims attrs placed
    → SpellsHeader (header_bytes version dims attrs placed) (header_with version dims attrs placed)
unfolding header_bytes before_vars
spells-header version dims attrs placed can =
    let magic = codes "CDF" ++ version ∷ [] ++ word 0 in
    let dims_text = list_bytes DIMENSION_TAG dim_bytes dims in
    let file_text = list_bytes ATTRIBUTE_TAG attr_bytes attrs in
    let count_text = list_front VARIABLE_TAG (length placed) in
    let items_text = flat_map (placed_bytes version) placed in
    let small = can.small in
    let whole = length-append (magic ++ dims_text ++ file_text ++ count_text) items_text in
    let before = length-append (magic ++ dims_text ++ file_text) count_text in
    let file = length-append (magic ++ dims_text) file_text in
    let first = length-append magic dims_text in
    let dims_long = length-append (list_front DIMENSION_TAG (length dims)) (flat_map dim_bytes dims) in
    let file_long = length-append (list_front ATTRIBUTE_TAG (length attrs)) (flat_map attr_bytes attrs) in
    let many = few-items dim_bytes dim-some dims in
    record {
      numrecs_text = word 0;
      dims_text = dims_text;
      attrs_text = file_text;
      vars_text = count_text ++ items_text;
      version = can.version_is;
      numrecs = spells-count 0 (omega arith);
      dims = spells-dims dims can.dims_can (omega (arith, whole, before, file, first, dims_long, small));
      attrs = spells-attrs attrs can.attrs_can (omega (arith, whole, before, file, file_long, small));
      vars = spells-vars version (length dims) can.version_is
          (omega (arith, whole, before, file, first, dims_long, many, small)) placed can.vars_can
          (omega (arith, whole, small));
      text_is = append_assoc (magic ++ dims_text ++ file_text) count_text items_text;
    }

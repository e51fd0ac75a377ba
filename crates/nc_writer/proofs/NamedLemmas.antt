-- What holds of the names and of the attributes of a header that was read, whatever the bytes.
use Rattle.std.proofs.Common.{◌≡◌, ℕ, ◌+◌, ◌*◌, Bool, true, false, cond, List, [], length, map, take, drop, Ok, Err, refl, sym, ap, subst, ◌∙◌, arith}
use Rattle.std.specs.Prelude.{nat_lt, IsTrue}
use Rattle.std.specs.List.{AllByRecursion}
use Rattle.std.proofs.lemmas.Bool.{ltb-false}
use Rattle.std.proofs.lemmas.List.{length-take-le}
use Rattle.nc_model.specs.declared.fault.HeaderFault.TheVariants.{Truncated}
use Rattle.nc_model.specs.declared.header.Attr.{Attr}
use Rattle.nc_model.specs.declared.header.Dim.{Dim}
use Rattle.nc_model.specs.declared.header.Header.{Header}
use Rattle.nc_model.specs.declared.header.NcVar.{NcVar}
use Rattle.nc_model.specs.Format.{ATTRIBUTE_TAG, DIMENSION_TAG, VARIABLE_TAG, is_name_text, padded_len}
use Rattle.nc_model.specs.Kind.{size_of}
use Rattle.fm_base.specs.Input.{Input}
use Rattle.nc_model.specs.Reading.{count, field, padded, name_at, kind_at, attr_at, list_at, dim_at, var_at, header_or_fault}
use Rattle.nc_model.specs.Spelling.{AreDistinct}
use Rattle.nc_model.proofs.Distinct.{AllByRecursion-from_each, AreDistinct-from_fresh, EachFrom-parts, IsFresh}
use Rattle.nc_model.proofs.Parts.{name_of_attr}
use Rattle.nc_model.proofs.ReadFacts.{Gives, HasEach, dim_parts, gives_pure, gives_then, header_parts, list_each, list_found, new_name, var_parts}

field_long : (n : ℕ) (i : Input) (x : List ℕ × Input) → field n i ≡ Ok x → length x.0 ≡ n
field_long n i x e = by_test (nat_lt (length i.rest) n) refl e
  where
    by_test : (b : Bool) → nat_lt (length i.rest) n ≡ b
        → cond b (Err (Truncated i.at)) (Ok (take n i.rest, record { at = i.at + n; rest = drop n i.rest })) ≡ Ok x
        → length x.0 ≡ n
    by_test true is d = absurd cc
    by_test false is d =
        let same : take n i.rest ≡ x.0 = cc in
        ap length (sym same) ∙ length-take-le n i.rest (ltb-false (length i.rest) n is)

-- as many bytes as were asked for
padded_long : (len : ℕ) (bytes : List ℕ) → Gives (padded len) bytes → length bytes ≡ len
unfolding padded
padded_long len bytes g =
    let text = gives_then (field (padded_len len)) _ g in
    let long = field_long (padded_len len) text.1.from (text.0, text.1.left) text.1.is in
    ap length (sym (gives_pure text.2)) ∙ length-take-le len text.0 (omega (arith, long))

-- ---- dimensions, attributes and variables

-- the bytes of an attribute are whole values
abbrev pub HasWhole : Attr → Type 0
HasWhole attr = (n : ℕ) × (length attr.values ≡ n * size_of attr.kind)

-- an attribute that was read has a name and whole values
abbrev pub IsReadAttr : Attr → Type 0
IsReadAttr attr = IsTrue (is_name_text attr.name) × HasWhole attr

read_attr : HasEach (λ found attr. IsFresh name_of_attr found attr × IsReadAttr attr) attr_at
unfolding attr_at
read_attr found attr g =
    let name = gives_then (name_at (map name_of_attr found)) _ g in
    let kind = gives_then kind_at _ name.2 in
    let number = gives_then count _ kind.2 in
    let values = gives_then (padded (number.0 * size_of kind.0)) _ number.2 in
    let new = new_name (map name_of_attr found) name.0 name.1 in
    let long = padded_long (number.0 * size_of kind.0) values.0 values.1 in
    subst (λ (a : Attr). IsFresh name_of_attr found a × IsReadAttr a) (gives_pure values.2)
    (new.1, (new.0, (number.0, long)))

-- attributes that were read: their names differ, and each was read
pub record AreReadAttrs (attrs : List Attr) : Type 0 where
  pub distinct : AreDistinct (map name_of_attr attrs)
  pub each : AllByRecursion IsReadAttr attrs

read_attrs : (attrs : List Attr) → Gives (list_at ATTRIBUTE_TAG attr_at) attrs → AreReadAttrs attrs
read_attrs attrs g =
    let all = list_found (λ found attr. IsFresh name_of_attr found attr × IsReadAttr attr) ATTRIBUTE_TAG attr_at
    read_attr attrs g in
    let parts = EachFrom-parts (IsFresh name_of_attr) (λ found attr. IsReadAttr attr) [] attrs all in
    record {
      distinct = AreDistinct-from_fresh name_of_attr attrs parts.0;
      each = AllByRecursion-from_each IsReadAttr [] attrs parts.1;
    }

named_dim : HasEach (λ found dim. IsTrue (is_name_text dim.name)) dim_at
named_dim found dim g = (new_name _ dim.name (dim_parts found dim g).name).0

-- a variable that was read has a name, and its attributes were read
pub record IsReadVar (var : NcVar) : Type 0 where
  pub named : IsTrue (is_name_text var.name)
  pub attrs : AreReadAttrs var.attrs

read_var : (version : ℕ) (dims : List Dim) → HasEach (λ found var. IsReadVar var) (var_at version dims)
read_var version dims found var g =
    let parts = var_parts version dims found var g in
    record { named = (new_name _ var.name parts.name).0; attrs = read_attrs var.attrs parts.attrs }

-- what is known of a header that was read
pub record IsReadHeader (header : Header) : Type 0 where
  pub dims : AllByRecursion (λ (d : Dim). IsTrue (is_name_text d.name)) header.dims
  pub attrs : AreReadAttrs header.attrs
  pub vars : AllByRecursion IsReadVar header.vars

pub IsReadHeader-from_read : (bytes : List ℕ) (header : Header) → header_or_fault bytes ≡ Ok header
    → IsReadHeader header
IsReadHeader-from_read bytes header e =
    let parts = header_parts bytes header e in
    record {
      dims = list_each (λ (d : Dim). IsTrue (is_name_text d.name)) DIMENSION_TAG dim_at named_dim header.dims
          parts.dims;
      attrs = read_attrs header.attrs parts.attrs;
      vars = list_each IsReadVar VARIABLE_TAG (var_at header.version header.dims)
          (read_var header.version header.dims) header.vars parts.vars;
    }

-- What the columns of a dataset show.
use Rattle.std.proofs.Common.{◌≡◌, ◌≢◌, ℕ, ◌^◌, ◌<◌, min, true, false, List, [], ◌∷◌, ◌++◌, length, map, take, drop, Option, Some, refl, sym, ap, ap₂, subst, ◌∙◌, arith}
use Rattle.std.specs.Prelude.{IsSomeAnd, nat_lt}
use Rattle.std.specs.Int.{w8, w16, w32, w64, from_be_bytes}
use Rattle.std.specs.List.{flat_map}
use Rattle.std.proofs.lemmas.Bool.{lt-ltb}
use Rattle.std.proofs.lemmas.List.Elements.{All-cons, All-drop, All-nil, All-take}
use Rattle.std.proofs.lemmas.Option.{same_Some}
use Rattle.std.proofs.lemmas.Nat.{be_bytes_2, be_bytes_4, be_bytes_8}
use Rattle.nc_model.specs.declared.kind.Kind.{Kind}
use Rattle.nc_model.specs.declared.kind.Kind.TheVariants as kinds
use Rattle.nc_model.specs.Format.{IsBytes}
use Rattle.nc_model.specs.Kind.{size_of}
use Rattle.nc_model.specs.Layout.{indices_of, rank_in, IsIndex}
use Rattle.nc_model.specs.Pattern.{width_of}
use Rattle.nc_model.proofs.Steps.{IsOfParts-bytes}
use Rattle.nc_layout.proofs.OrderLemmas.{All-indices_of}
use Rattle.fm_model.specs.declared.proto.ProtoVar.{ProtoVar}
use Rattle.fm_model.specs.Attribute.{is_char}
use Rattle.fm_model.specs.Site.{IsPrototype}
use Rattle.fm_model.proofs.Members.{Each, Each-weaker, each_from_All}
use Rattle.fm_model.proofs.ProtoLemmas.{IsSound-given}
use Rattle.dap_model.specs.declared.declaration.Array.{Array}
use Rattle.dap_model.specs.declared.declaration.DapKind.{DapKind}
use Rattle.dap_model.specs.declared.declaration.DapKind.TheVariants as daps
use Rattle.dap_model.specs.Xdr.{bits_in, AreBitsOf}
use Rattle.fm_dataset.specs.Declarations.{array_of, dap_kind_of, decls_of, is_axis_of, kind_in}
use Rattle.fm_dataset.specs.Rows.{AreRows}
use Rattle.fm_dataset.specs.Values.{array_at, bits_of, element_of, left_in_row, raw_of, shape_of_array, text_of_part, var_bits, var_of_part, var_raw, HasNumber, HasNumberAt, HasStored, HasText, HasTextAt, IsSmall, Shown}
use Rattle.fm_dataset.proofs.ElementLemmas.{stored_len}
use Rattle.fm_dataset.proofs.OrderLemmas.{follow_in_array}
use Rattle.fm_dataset.proofs.PartLemmas.{part_is}
use Rattle.fm_dataset.proofs.ReadLemmas.{numeric, some_of}
use Rattle.fm_dataset.proofs.TextLemmas.{short_texts, small_arrays}
use Rattle.dap_xdr.specs.Content.{array_in}
use Rattle.dap_xdr.specs.Stretch.{stored_bytes, AreBytesOf, AreStored}

-- the array of a part of a dataset
pub same_array : (shown : Shown) (decl part : ℕ)
    → array_in (decls_of shown.proto (length shown.rows)) decl part ≡ array_at shown decl part
unfolding array_in array_at
same_array shown decl part = refl

-- an index list of numbers or texts
pub has_number : (shown : Shown) (decl part : ℕ) (index : List ℕ)
    → IsSomeAnd (array_in (decls_of shown.proto (length shown.rows)) decl part) (HasNumberAt index)
    → HasNumber shown decl part index
has_number shown decl part index has =
    subst (λ (o : Option Array). IsSomeAnd o (HasNumberAt index)) (same_array shown decl part) has

pub has_text : (shown : Shown) (decl part : ℕ) (index : List ℕ)
    → IsSomeAnd (array_in (decls_of shown.proto (length shown.rows)) decl part) (HasTextAt index)
    → HasText shown decl part index
has_text shown decl part index has =
    subst (λ (o : Option Array). IsSomeAnd o (HasTextAt index)) (same_array shown decl part) has

-- each array is small, and each text is short
pub small : (shown : Shown) → IsPrototype shown.proto → AreRows shown.proto shown.rows → (decl part : ℕ)
    (array : Array) → array_in (decls_of shown.proto (length shown.rows)) decl part ≡ Some array → IsSmall array
small shown given rows_are decl part array e =
    small_arrays shown decl part array given rows_are (sym (same_array shown decl part) ∙ e)

pub short : (shown : Shown) (decl part : ℕ) (index : List ℕ) → IsPrototype shown.proto
    → AreRows shown.proto shown.rows → HasText shown decl part index
    → length (text_of_part shown decl part index) < 2 ^ 32
short shown decl part index given rows_are has =
    let is = short_texts shown decl part index given rows_are has in omega (arith, is)

-- a number of a kind by its bytes, the most significant first
record IsNumber (kind : Kind) (text : List ℕ) : Type 0 where
  text_is : text ≡ stored_bytes (dap_kind_of kind) (from_be_bytes (width_of kind) text)
  fits : AreBitsOf (dap_kind_of kind) (from_be_bytes (width_of kind) text)

read_number : (kind : Kind) (text : List ℕ) → is_char kind ≡ false → length text ≡ size_of kind → IsBytes text
    → IsNumber kind text
unfolding stored_bytes bits_in
read_number kinds.Byte [] number long bytes = absurd (omega (arith, long))
read_number kinds.Byte (byte ∷ []) number long bytes =
    let same : byte ≡ from_be_bytes w8 (byte ∷ []) = omega arith in
    record { text_is = ap (λ (b : ℕ). b ∷ []) same; fits = omega (arith, same, bytes 0) }
read_number kinds.Byte (byte ∷ other ∷ more) number long bytes = absurd (omega (arith, long))
read_number kinds.Char text number long bytes = absurd (let no : true ≡ false = number in cc)
read_number kinds.Short text number long bytes = record {
  text_is = sym (be_bytes_2 text (from_be_bytes w16 text) long bytes refl);
  fits = omega (arith, bytes 0, bytes 1);
}
read_number kinds.Int text number long bytes = record {
  text_is = sym (be_bytes_4 text (from_be_bytes w32 text) long bytes refl);
  fits = omega (arith, bytes 0, bytes 1, bytes 2, bytes 3);
}
read_number kinds.Float text number long bytes = record {
  text_is = sym (be_bytes_4 text (from_be_bytes w32 text) long bytes refl);
  fits = omega (arith, bytes 0, bytes 1, bytes 2, bytes 3);
}
read_number kinds.Double text number long bytes = record {
  text_is = sym (be_bytes_8 text (from_be_bytes w64 text) long bytes refl);
  fits = omega (arith, bytes 0, bytes 1, bytes 2, bytes 3, bytes 4, bytes 5, bytes 6, bytes 7);
}

-- elements one after the other are the bytes of their numbers
read_numbers : (kind : Kind) (element : List ℕ → List ℕ) (bits : List ℕ → ℕ) (xs : List (List ℕ))
    → is_char kind ≡ false → ((x : List ℕ) → bits x ≡ from_be_bytes (width_of kind) (element x))
    → Each (λ x. length (element x) ≡ size_of kind) xs → IsBytes (flat_map element xs)
    → AreBytesOf (dap_kind_of kind) (map bits xs) (flat_map element xs)
read_numbers kind element bits [] number same each bytes =
    record { fit = All-nil (AreBitsOf (dap_kind_of kind)); bytes_are = refl }
read_numbers kind element bits (x ∷ xs) number same each bytes =
    let first = read_number kind (element x) number each.0
    (IsOfParts-bytes.front (element x) (flat_map element xs) bytes) in
    let rest = read_numbers kind element bits xs number same each.1
    (IsOfParts-bytes.back (element x) (flat_map element xs) bytes) in
    record {
      fit = All-cons (AreBitsOf (dap_kind_of kind)) (bits x) (map bits xs)
          (subst (AreBitsOf (dap_kind_of kind)) (sym (same x)) first.fits) rest.fit;
      bytes_are = ap₂ (λ (l r : List ℕ). l ++ r)
          (first.text_is ∙ ap (stored_bytes (dap_kind_of kind)) (sym (same x))) rest.bytes_are;
    }

-- the bits of a number that stands in a file are those of its element
stored_bits : (shown : Shown) (decl part : ℕ) (var : ProtoVar) (index : List ℕ) → decl < length shown.proto.vars
    → var_of_part shown.proto decl part ≡ Some var → is_axis_of shown.proto var ≡ false
    → bits_of shown decl part index
    ≡ from_be_bytes (width_of var.kind) (element_of shown.proto shown.rows var index)
unfolding bits_of var_bits
stored_bits shown decl part var index below is other =
    let small : nat_lt decl (length shown.proto.vars) ≡ true = lt-ltb decl (length shown.proto.vars) below in
    rw (small, is, other) refl

-- what is lent of a part are the stored bytes of its numbers
pub stored : (shown : Shown) (decl part : ℕ) (index : List ℕ) (most : ℕ) (bytes : List ℕ) (array : Array)
    → IsPrototype shown.proto → AreRows shown.proto shown.rows → HasStored shown decl part index
    → bytes ≡ raw_of shown decl part index most → IsBytes bytes → array_at shown decl part ≡ Some array
    → AreStored array (bits_of shown decl part) index most bytes
unfolding raw_of var_raw array_of kind_in
stored shown decl part index most bytes array given rows_are has raw are_bytes e =
    let proto = shown.proto in
    let count = length shown.rows in
    let is = part_is shown decl part array has.of_variable e in
    let var = is.var in
    let other : is_axis_of proto var ≡ false = rw is.var_is at has.other in
    let found = some_of (array_at shown decl part) (HasNumberAt index) has.has in
    let same : found.0 ≡ array = same_Some found.0 array (sym found.1 ∙ e) in
    let at : HasNumberAt index (array_of proto count var) =
    subst (HasNumberAt index) (same ∙ is.array_is) found.2 in
    let number = numeric proto var at.number other in
    let shape : List ℕ = shape_of_array (array_of proto count var) in
    let few : ℕ = min most (left_in_row proto var index) in
    let xs : List (List ℕ) = take few (drop (rank_in shape index) (indices_of shape)) in
    let lent : bytes ≡ flat_map (element_of proto shown.rows var) xs =
    raw ∙ rw is.var_is (ap (flat_map (element_of proto shown.rows var))
    (follow_in_array proto count var index most number at.index_is)) in
    let indices = each_from_All (IsIndex shape) xs (All-take (IsIndex shape) few _
    (All-drop (IsIndex shape) (rank_in shape index) (indices_of shape) (All-indices_of shape))) in
    let long = Each-weaker (IsIndex shape) (λ x. length (element_of proto shown.rows var x) ≡ size_of var.kind)
    (λ x index_is. stored_len shown decl part x var (IsSound-given proto given) rows_are
    (moved shown decl part index x array has (rw is.array_is index_is) e) is.var_is) xs indices in
    let all = read_numbers var.kind (element_of proto shown.rows var) (bits_of shown decl part) xs number
    (λ x. stored_bits shown decl part var x has.of_variable is.var_is other) long (subst IsBytes lent are_bytes) in
    let kind : dap_kind_of var.kind ≡ array.kind =
    sym (ap (λ (a : Array). a.kind) is.array_is ∙ rw other refl) in
    record {
      count = few;
      few = omega arith;
      bytes_are = subst (λ (a : Array). AreBytesOf array.kind (map (bits_of shown decl part)
          (take few (drop (rank_in (shape_of_array a) index) (indices_of (shape_of_array a))))) bytes)
          (sym is.array_is)
          (subst (λ (k : DapKind). AreBytesOf k (map (bits_of shown decl part) xs) bytes) kind
          (subst (AreBytesOf (dap_kind_of var.kind) (map (bits_of shown decl part) xs)) (sym lent) all));
    }
  where
    -- another index list of the same array
    moved : (shown : Shown) (decl part : ℕ) (index x : List ℕ) (array : Array) → HasStored shown decl part index
        → IsIndex (shape_of_array array) x → array_at shown decl part ≡ Some array → HasStored shown decl part x
    moved shown decl part index x array has index_is e = record {
      has =
          let found = some_of (array_at shown decl part) (HasNumberAt index) has.has in
          let same : found.0 ≡ array = same_Some found.0 array (sym found.1 ∙ e) in
          subst (λ (o : Option Array). IsSomeAnd o (HasNumberAt x)) (sym e)
          (record { number = subst (λ (a : Array). a.kind ≢ daps.Text) same found.2.number; index_is = index_is });
      of_variable = has.of_variable;
      other = has.other;
    }

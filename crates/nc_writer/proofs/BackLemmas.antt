-- A file that is written is read back.
use Rattle.std.proofs.Common.{◌≡◌, ◌⊎◌, ℕ, ◌+◌, ◌^◌, ◌<◌, ◌≤◌, Bool, true, false, cond, List, [], ◌∷◌, length, All, Ok, Err, refl, sym, ap, subst, arith}
use Rattle.std.specs.Prelude.{nat_lt}
use Rattle.std.specs.List.{sum_by, AllByRecursion, IsDistinct}
use Rattle.std.proofs.lemmas.Bool.{ltb-false}
use Rattle.std.proofs.lemmas.List.{length-append}
use Rattle.std.proofs.lemmas.List.Sums.{sum_by-cons}
use Rattle.fm_base.proofs.ChainLemmas.{check_ok, same_Ok, step_ok}
use Rattle.nc_model.specs.declared.header.Dim.{Dim}
use Rattle.nc_model.specs.declared.header.Header.{Header}
use Rattle.nc_model.specs.Spelling.{AreDistinct, HeaderOf, IsSound, SpellsHeader}
use Rattle.fm_model.specs.declared.limit.TheConstants.{MAX_FILE_BYTES}
use Rattle.fm_model.specs.Site.{IsPrototype}
use Rattle.fm_dataset.specs.Rows.{AreRows}
use Rattle.fm_dataset.specs.Values.{Shown}
use Rattle.dap_model.specs.declared.projection.Sent.{Sent}
use Rattle.dap_xdr.specs.Datasets.{content_of}
use Rattle.nc_writer.specs.declared.fault.WriteFault.{WriteFault}
use Rattle.nc_writer.specs.declared.fault.WriteFault.TheVariants.{FileTooLong}
use Rattle.nc_writer.specs.declared.variable.Variable.{Variable}
use Rattle.nc_writer.specs.Data.{data_len}
use Rattle.nc_writer.specs.Dims.{dims_from, names_free}
use Rattle.nc_writer.specs.Facts.{CanBeWritten, IsVariableOf}
use Rattle.nc_writer.specs.File.{all_data, bytes_of, file_of, netcdf_of, within_limit, File}
use Rattle.nc_writer.specs.Header.{front_from, front_of, header_bytes, header_of, placed_from, Placed}
use Rattle.nc_writer.specs.ReadBack.{ReadsBack}
use Rattle.nc_writer.specs.Variables.{variables_from}
use Rattle.nc_writer.proofs.ApartLemmas.{apart-from, AreApart}
use Rattle.nc_writer.proofs.CoverLemmas.{added-vars, CoversAll}
use Rattle.nc_writer.proofs.DistinctLemmas.{dim_name, good-from, AreGood}
use Rattle.nc_writer.proofs.FactLemmas.{named-variables, sizes-within, IsNamedVariable}
use Rattle.nc_writer.proofs.FrontLemmas.{begin-is}
use Rattle.nc_writer.proofs.LenLemmas.{length-all, values-least}
use Rattle.nc_writer.proofs.OffsetLemmas.{all-stand}
use Rattle.nc_writer.proofs.ProtoLemmas.{named-proto, IsNamedDim, IsNamedProto}
use Rattle.nc_writer.proofs.ShapeLemmas.{HasSize}
use Rattle.nc_writer.proofs.ShownLemmas.{writable-attrs}
use Rattle.nc_writer.proofs.SoundLemmas.{layout-none, no-record-each, sound-header, IsApart}
use Rattle.nc_writer.proofs.FieldLemmas.{IsWritableDim}
use Rattle.nc_writer.proofs.SpellLemmas.{header_with, spells-header, IsWritableVar}
use Rattle.nc_writer.proofs.VarLemmas.{apart-vars, laid-vars, placed-names, read-vars}
use Rattle.nc_writer.proofs.VariableLemmas.{variables-are}

-- ---- the dimensions of a file

-- a dimension can be written, and isn't empty
record IsFine (dim : Dim) : Type 0 where
  named : IsNamedDim dim
  some : HasSize dim
  few : dim.size < 2 ^ 31

fine-dims : (dims : List Dim) → AllByRecursion IsNamedDim dims → AllByRecursion HasSize dims
    → AllByRecursion (λ (dim : Dim). dim.size ≤ MAX_FILE_BYTES) dims → AllByRecursion IsFine dims
fine-dims [] named sizes few = tt
fine-dims (dim ∷ dims) named sizes few =
    let most = few.0 in (
      record { named = named.0; some = sizes.0; few = omega (arith, most) },
      fine-dims dims named.1 sizes.1 few.1,
    )

fine-all : (variables : List Variable) → AllByRecursion IsNamedVariable variables
    → sum_by data_len variables ≤ MAX_FILE_BYTES
    → AllByRecursion (λ (variable : Variable). AllByRecursion IsFine variable.dims) variables
fine-all [] facts few = tt
fine-all (variable ∷ variables) facts few =
    let sum = sum_by-cons data_len variable variables in
    let least = values-least variable in (
      fine-dims variable.dims facts.0.dims facts.0.sizes
          (sizes-within variable MAX_FILE_BYTES facts.0 (omega (arith, sum, least, few))),
      fine-all variables facts.1 (omega (arith, sum, few)),
    )

writable-dims : (dims : List Dim) → AllByRecursion IsFine dims → AllByRecursion IsWritableDim dims
writable-dims [] fine = tt
writable-dims (dim ∷ dims) fine =
    (record { named = fine.0.named; small = fine.0.few }, writable-dims dims fine.1)

sized-dims : (dims : List Dim) → AllByRecursion IsFine dims → AllByRecursion HasSize dims
sized-dims [] fine = tt
sized-dims (dim ∷ dims) fine = (fine.0.some, sized-dims dims fine.1)

writable-vars : (count : ℕ) (placed : List Placed)
    → AllByRecursion (λ (p : Placed). IsApart count p.var) placed
    → AllByRecursion (λ (p : Placed). IsWritableVar count p.var) placed
writable-vars count [] apart = tt
writable-vars count (p ∷ placed) apart = (apart.0.can, writable-vars count placed apart.1)

-- ---- a file of variables with these dimensions

record IsMade (shown : Shown) (version : ℕ) (dims : List Dim) (variables : List Variable) : Type 0 where
  version_is : (version ≡ 1) ⊎ (version ≡ 2)
  given : IsPrototype shown.proto
  each : All (IsVariableOf shown) variables
  apart : AreApart variables
  dims_are : dims_from [] variables ≡ Ok dims
  few : length (bytes_of (file_of shown version dims variables)) ≤ MAX_FILE_BYTES

module _ (shown : Shown) (version : ℕ) (dims : List Dim) (variables : List Variable)
    (made : IsMade shown version dims variables) where
  abbrev front : List ℕ
  front = front_of shown version dims variables

  abbrev placed : List Placed
  placed = placed_from shown dims (length front) variables

  abbrev header : Header
  header = header_with version dims shown.proto.attrs placed

  named : IsNamedProto shown.proto
  named = named-proto shown.proto made.given

  facts : AllByRecursion IsNamedVariable variables
  facts = named-variables shown variables made.given made.each

  covers : CoversAll dims variables
  covers = (added-vars [] dims variables made.dims_are).covers

  whole : length front + sum_by data_len variables ≤ MAX_FILE_BYTES
  unfolding bytes_of
  whole =
      let few = made.few in
      let joined = length-append front (all_data shown variables) in
      let long = length-all shown variables in
      omega (arith, few, joined, long)

  good : AreGood dim_name IsFine dims
  unfolding IsDistinct
  good =
      let all = whole in
      good-from IsFine [] dims variables (record { distinct = tt; each = tt })
      (fine-all variables facts (omega (arith, all))) made.dims_are

  apart : AllByRecursion (λ (p : Placed). IsApart (length dims) p.var) placed
  apart = let all = whole in apart-vars shown dims named (length front) variables facts covers (omega (arith, all))

  -- the header is that of variables whose data begins behind it
  front-is : front ≡ header_bytes version dims shown.proto.attrs placed
  unfolding front_of front_from
  front-is = ap (λ (n : ℕ). header_bytes version dims shown.proto.attrs (placed_from shown dims n variables))
      (begin-is shown version dims variables)

  sound : IsSound header
  sound = sound-header version dims shown.proto.attrs placed good.distinct (sized-dims dims good.each)
      named.attrs.distinct (subst AreDistinct (sym (placed-names shown dims (length front) variables)) made.apart) apart

  header-of : HeaderOf (bytes_of (file_of shown version dims variables)) header
  unfolding bytes_of
  header-of = record {
    text = front;
    rest = all_data shown variables;
    spelled = subst (λ (l : List ℕ). SpellsHeader l header) (sym front-is)
        (spells-header version dims shown.proto.attrs placed (record {
          version_is = made.version_is;
          dims_can = writable-dims dims good.each;
          attrs_can = writable-attrs shown.proto.attrs named.attrs.each;
          vars_can = writable-vars (length dims) placed apart;
          small =
              let all = whole in
              let same = ap length front-is in
              omega (arith, all, same);
        }));
    sound = sound;
    split = refl;
  }

  reads-back : ReadsBack version (file_of shown version dims variables)
  unfolding bytes_of header_of
  reads-back =
      let bytes = bytes_of (file_of shown version dims variables) in
      let stand = all-stand shown dims (length front) bytes front variables refl refl in
      let laid = laid-vars shown header (length front) bytes variables refl facts covers stand in
      let few = made.few in
      record {
        header = header;
        header_is = refl;
        read = header-of;
        layout = layout-none bytes header (content_of shown) variables placed (omega (arith, few)) refl laid;
        dims_are = made.dims_are;
        no_records = no-record-each dims (sized-dims dims good.each);
        attrs_are = refl;
        vars = read-vars (file_of shown version dims variables) header (length front) variables covers laid;
      }

-- ---- what netcdf_of gives

record Kept (file kept : File) : Type 0 where
  same : file ≡ kept
  few : length (bytes_of file) ≤ MAX_FILE_BYTES

kept-of : (file kept : File) → within_limit file ≡ Ok kept → Kept file kept
unfolding within_limit
kept-of file kept is = by_len (nat_lt MAX_FILE_BYTES (length (bytes_of file))) refl is
  where
    by_len : (b : Bool) → nat_lt MAX_FILE_BYTES (length (bytes_of file)) ≡ b
        → cond b (Err (FileTooLong (length (bytes_of file)) MAX_FILE_BYTES)) (Ok file) ≡ Ok kept → Kept file kept
    by_len true long e = absurd cc
    by_len false short e = record {
      same = same_Ok {E = WriteFault} file kept e;
      few = ltb-false MAX_FILE_BYTES (length (bytes_of file)) short;
    }

none-apart : AreApart []
unfolding IsDistinct
none-apart = tt

pub written-reads-back : (shown : Shown) (sent : List Sent) (version : ℕ) (file : File) → IsPrototype shown.proto
    → AreRows shown.proto shown.rows → CanBeWritten shown sent → (version ≡ 1) ⊎ (version ≡ 2)
    → netcdf_of shown sent version ≡ Ok file → ReadsBack version file
unfolding netcdf_of
written-reads-back shown sent version file given rows_are can version_is e =
    let content = content_of shown in
    let variables = step_ok (variables_from content [] sent) _ file e in
    let dims = step_ok (dims_from [] variables.0) _ file variables.2 in
    let free = check_ok (names_free variables.0 variables.0) _ file dims.2 in
    let kept = kept-of (file_of shown version dims.0 variables.0) file free.1 in
    subst (ReadsBack version) kept.same (reads-back shown version dims.0 variables.0 (record {
      version_is = version_is;
      given = given;
      each = variables-are shown sent variables.0 given rows_are can variables.1;
      apart = apart-from content [] variables.0 sent none-apart variables.1;
      dims_are = dims.1;
      few = kept.few;
    }))

-- What a reader finds of each variable of a file.
use Rattle.std.proofs.Common.{◌≡◌, ℕ, ◌+◌, ◌^◌, ◌<◌, List, [], ◌∷◌, length, map, refl, ap, arith}
use Rattle.std.specs.List.{sum_by, AllByRecursion, AllZip}
use Rattle.std.proofs.lemmas.List.Sums.{sum_by-cons}
use Rattle.std.proofs.lemmas.Option.{slice_get_within}
use Rattle.nc_model.specs.declared.header.Dim.{Dim}
use Rattle.nc_model.specs.declared.header.Header.{Header}
use Rattle.nc_model.specs.declared.header.NcVar.{NcVar}
use Rattle.fm_dataset.specs.Values.{Shown}
use Rattle.dap_xdr.specs.Datasets.{content_of}
use Rattle.nc_writer.specs.declared.variable.Variable.{Variable}
use Rattle.nc_writer.specs.Attributes.{attributes_of}
use Rattle.nc_writer.specs.Data.{data_len}
use Rattle.nc_writer.specs.Dims.{dim_number}
use Rattle.nc_writer.specs.File.{bytes_of, File}
use Rattle.nc_writer.specs.Header.{ids_of, placed_at, placed_from, var_of, Placed}
use Rattle.nc_writer.specs.ReadBack.{IsDimOf, IsRead}
use Rattle.nc_writer.proofs.CoverLemmas.{Covers, CoversAll}
use Rattle.nc_writer.proofs.DistinctLemmas.{variable_name}
use Rattle.nc_writer.proofs.FactLemmas.{values-some, IsNamedVariable}
use Rattle.nc_writer.proofs.HeaderLemmas.{length-ids_of}
use Rattle.nc_writer.proofs.OffsetLemmas.{elements-are, Stands}
use Rattle.nc_writer.proofs.ProtoLemmas.{IsNamedProto}
use Rattle.nc_writer.proofs.ShapeLemmas.{no-records, shape-is, sizes_of}
use Rattle.nc_writer.proofs.ShownLemmas.{attributes-read, writable-attrs}
use Rattle.nc_writer.proofs.SizeLemmas.{product-some}
use Rattle.nc_writer.proofs.SoundLemmas.{IsApart, IsLaid}

-- the numbers of dimensions are there
ids-there : (dims own : List Dim) → AllByRecursion (Covers dims) own
    → AllByRecursion (λ id. id < length dims) (ids_of dims own)
unfolding ids_of
ids-there dims [] covers = tt
ids-there dims (dim ∷ own) covers =
    (slice_get_within dims (dim_number dims dim.name) dim covers.0, ids-there dims own covers.1)

dims-there : (header : Header) (own : List Dim) → AllByRecursion (Covers header.dims) own
    → AllZip (IsDimOf header) own (ids_of header.dims own)
unfolding ids_of
dims-there header [] covers = tt
dims-there header (dim ∷ own) covers = (covers.0, dims-there header own covers.1)

-- ---- each variable can be written, and has different attributes

module _ (shown : Shown) (dims : List Dim) (named : IsNamedProto shown.proto) where
  apart-var : (begin : ℕ) (variable : Variable) → IsNamedVariable variable
      → AllByRecursion (Covers dims) variable.dims → begin < 2 ^ 32
      → IsApart (length dims) (var_of shown dims variable begin)
  unfolding var_of
  apart-var begin variable is covers small =
      let read = attributes-read shown variable.name named in
      record {
        can = record {
          named = is.named;
          rank = omega (arith, length-ids_of dims variable.dims, is.rank);
          ids = ids-there dims variable.dims covers;
          attrs = writable-attrs (attributes_of shown variable.name) read.each;
          begin = small;
        };
        attrs = read.distinct;
      }

  pub apart-vars : (begin : ℕ) (variables : List Variable) → AllByRecursion IsNamedVariable variables
      → CoversAll dims variables → begin + sum_by data_len variables < 2 ^ 32
      → AllByRecursion (λ (p : Placed). IsApart (length dims) p.var) (placed_from shown dims begin variables)
  unfolding placed_from placed_at
  apart-vars begin [] facts covers small = tt
  apart-vars begin (variable ∷ variables) facts covers small =
      let sum = sum_by-cons data_len variable variables in (
        apart-var begin variable facts.0 covers.0 (omega (arith, sum, small)),
        apart-vars (begin + data_len variable) variables facts.1 covers.1 (omega (arith, sum, small)),
      )

-- the names of the variables of a header
pub placed-names : (shown : Shown) (dims : List Dim) (begin : ℕ) (variables : List Variable)
    → map (λ (v : NcVar). v.name) (map (λ (p : Placed). p.var) (placed_from shown dims begin variables))
    ≡ map variable_name variables
unfolding placed_from placed_at var_of
placed-names shown dims begin [] = refl
placed-names shown dims begin (variable ∷ variables) =
    ap (λ (names : List (List ℕ)). variable.name ∷ names)
    (placed-names shown dims (begin + data_len variable) variables)

-- ---- the data of each variable stands at its offset

pub laid-vars : (shown : Shown) (header : Header) (begin : ℕ) (bytes : List ℕ) (variables : List Variable)
    → header.numrecs ≡ 0 → AllByRecursion IsNamedVariable variables → CoversAll header.dims variables
    → AllZip (Stands bytes (content_of shown)) variables (placed_from shown header.dims begin variables)
    → AllZip (IsLaid bytes header (content_of shown)) variables (placed_from shown header.dims begin variables)
unfolding placed_from placed_at var_of
laid-vars shown header begin bytes [] none facts covers stand = tt
laid-vars shown header begin bytes (variable ∷ variables) none facts covers stand =
    let var = var_of shown header.dims variable begin in (
      record {
        stands = stand.0;
        fixed = no-records header var variable.dims refl covers.0 facts.0.sizes;
        shape = shape-is header var variable.dims none refl covers.0;
        size = facts.0.size;
        some = product-some variable.dims facts.0.sizes;
        bytes_some = values-some variable facts.0;
      },
      laid-vars shown header (begin + data_len variable) bytes variables none facts.1 covers.1 stand.1,
    )

-- a reader finds the variables that were written
pub read-vars : (file : File) (header : Header) (begin : ℕ) (variables : List Variable)
    → CoversAll header.dims variables
    → AllZip (IsLaid (bytes_of file) header (content_of file.shown)) variables
    (placed_from file.shown header.dims begin variables)
    → AllZip (IsRead file header) variables
    (map (λ (p : Placed). p.var) (placed_from file.shown header.dims begin variables))
unfolding placed_from placed_at var_of
read-vars file header begin [] covers laid = tt
read-vars file header begin (variable ∷ variables) covers laid = (
  record {
    name_is = refl;
    attrs_are = refl;
    kind_is = refl;
    dims_are = dims-there header variable.dims covers.0;
    elements_are = elements-are (bytes_of file) header (content_of file.shown) variable
        (placed_at file.shown header.dims begin variable) (sizes_of variable.dims) laid.0.stands laid.0.fixed
        laid.0.shape laid.0.size;
  },
  read-vars file header (begin + data_len variable) variables covers.1 laid.1,
)

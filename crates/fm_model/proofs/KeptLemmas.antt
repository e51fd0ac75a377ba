-- Names and lengths that a prototype keeps are those of its header.
use Rattle.std.proofs.Common.{◌≡◌, ◌≢◌, ℕ, ◌<◌, ◌*◌, Bool, true, false, not, ◌||◌, List, [], ◌∷◌, codes, map, Option, Some, None, cond, length, refl, sym, ap, ap₂, subst, ◌∙◌, inl, inr}
use Rattle.std.specs.Prelude.{All, filter, slice_get}
use Rattle.std.specs.List.{AllByRecursion, IsDistinct}
use Rattle.std.specs.Option.{option_map, option_map_or}
use Rattle.std.specs.Str.{bytes_eq}
use Rattle.std.proofs.lemmas.Bool.{both_ways}
use Rattle.std.proofs.lemmas.Option.{slice_get-map}
use Rattle.std.proofs.lemmas.Slice.Eq.{bytes_eq-Decides}
use Rattle.nc_model.specs.declared.header.Dim.{Dim}
use Rattle.nc_model.specs.declared.header.Header.{Header as FileHeader}
use Rattle.nc_model.specs.declared.header.NcVar.{NcVar}
use Rattle.nc_model.specs.Kind.{size_of}
use Rattle.nc_model.specs.Layout.{product, size_at, size_in}
use Rattle.nc_model.specs.Spelling.{AreDistinct}
use Rattle.fm_model.specs.declared.proto.ProtoVar.{ProtoVar}
use Rattle.fm_model.specs.declared.site.Site.{Site}
use Rattle.fm_model.specs.Attribute.{has_text, text_of}
use Rattle.fm_model.specs.Prototype.{is_bounds, is_char_per_time, is_kept, is_reference, kept_vars, proto_var, with_length, proto_with, lengths_of, HasElements}
use Rattle.nc_model.proofs.EndLaws.{EndsWithin, length-elements_of}
use Rattle.fm_model.proofs.Members.{In, Each-from_in, All-from_each, in_filter}

-- lengths change no name
pub dim_names : (header : FileHeader) (dims : List Dim)
    → map (λ (d : Dim). d.name) (map (with_length header) dims) ≡ map (λ (d : Dim). d.name) dims
dim_names header [] = refl
dim_names header (dim ∷ dims) = ap (λ l. dim.name ∷ l) (dim_names header dims)

pub var_names : (bytes : List ℕ) (header : FileHeader) (axis : NcVar) (vars : List NcVar)
    → map (λ (v : ProtoVar). v.name) (map (proto_var bytes header axis) vars) ≡ map (λ (v : NcVar). v.name) vars
unfolding proto_var
var_names bytes header axis [] = refl
var_names bytes header axis (var ∷ vars) = ap (λ l. var.name ∷ l) (var_names bytes header axis vars)

-- names of variables that are kept differ where all do
all_kept : (P : List ℕ → Type 0) (keep : NcVar → Bool) (vars : List NcVar)
    → AllByRecursion P (map (λ (v : NcVar). v.name) vars)
    → AllByRecursion P (map (λ (v : NcVar). v.name) (filter keep vars))
all_kept P keep [] all = tt
all_kept P keep (var ∷ vars) all = by_test (keep var) (all_kept P keep vars all.1)
  where
    by_test : (b : Bool) → AllByRecursion P (map (λ (v : NcVar). v.name) (filter keep vars))
        → AllByRecursion P (map (λ (v : NcVar). v.name) (cond b (var ∷ filter keep vars) (filter keep vars)))
    by_test true more = (all.0, more)
    by_test false more = more

distinct_kept : (keep : NcVar → Bool) (vars : List NcVar) → AreDistinct (map (λ (v : NcVar). v.name) vars)
    → AreDistinct (map (λ (v : NcVar). v.name) (filter keep vars))
unfolding IsDistinct
distinct_kept keep [] apart = tt
distinct_kept keep (var ∷ vars) apart = by_test (keep var) (all_kept _ keep vars apart.0)
    (distinct_kept keep vars apart.1)
  where
    by_test : (b : Bool)
        → AllByRecursion (λ n. bytes_eq var.name n ≡ false) (map (λ (v : NcVar). v.name) (filter keep vars))
        → AreDistinct (map (λ (v : NcVar). v.name) (filter keep vars))
        → AreDistinct (map (λ (v : NcVar). v.name) (cond b (var ∷ filter keep vars) (filter keep vars)))
    by_test true all more = (all, more)
    by_test false all more = more

pub kept_names : (header : FileHeader) (axis : NcVar) → AreDistinct (map (λ (v : NcVar). v.name) header.vars)
    → AreDistinct (map (λ (v : NcVar). v.name) (kept_vars header axis))
unfolding kept_vars
kept_names header axis apart = distinct_kept _ header.vars apart

pub each_by_recursion : {A : Type 0} (P : A → Type 0) (items : List A) → AllByRecursion P items → (item : A)
    → In item items
    → P item
each_by_recursion P [] all item h = absurd h
each_by_recursion P (first ∷ items) all item (inl same) = subst P same all.0
each_by_recursion P (first ∷ items) all item (inr later) = each_by_recursion P items all.1 item later

pub dims_in : (header : FileHeader) (dims : List Dim) → length dims ≡ length header.dims → (var : NcVar)
    → AllByRecursion (λ id. id < length header.dims) var.dims
    → All (λ id. id < length dims) var.dims
dims_in header dims same var all = All-from_each (λ id. id < length dims) var.dims (Each-from_in _ var.dims (λ id h.
    subst (λ n. id < n) (sym same) (each_by_recursion (λ i. i < length header.dims) var.dims all id h)))

-- the lengths that a prototype keeps are those of the header
lengths_kept : (bytes : List ℕ) (site : Site) (header : FileHeader) (axis : NcVar) (ids : List ℕ)
    → lengths_of (proto_with bytes site header axis) ids ≡ map (size_at header) ids
unfolding proto_with
lengths_kept bytes site header axis [] = refl
lengths_kept bytes site header axis (id ∷ ids) = ap₂ (λ (n : ℕ) (l : List ℕ). n ∷ l)
    (ap (λ (o : Option Dim). option_map_or (λ (dim : Dim). dim.size) o 0)
    (slice_get-map (with_length header) header.dims id) ∙ same (slice_get header.dims id))
    (lengths_kept bytes site header axis ids)
  where
    same : (o : Option Dim)
        → option_map_or (λ (dim : Dim). dim.size) (option_map (with_length header) o) 0 ≡ option_map_or
        (size_in header) o 0
    same None = refl
    same (Some dim) = refl

-- a variable that ends within its file has its elements in the prototype
pub has_elements : (bytes : List ℕ) (site : Site) (header : FileHeader) (axis : NcVar) (var : NcVar)
    → EndsWithin header (length bytes) var
    → HasElements (proto_with bytes site header axis) (proto_var bytes header axis var)
unfolding proto_var
has_elements bytes site header axis var ends untimed = rw untimed (length-elements_of bytes header var ends
    ∙ ap (λ (l : List ℕ). size_of var.kind * product l) (sym (lengths_kept bytes site header axis var.dims)))

-- a variable of bounds isn't kept, unless it is the axis
not_kept : (header : FileHeader) (axis var : NcVar) → is_bounds axis var ≡ true → bytes_eq var.name axis.name ≡ false
    → is_kept header axis var ≡ false
not_kept header axis var bounds other =
    rw (other, bounds) (none (is_reference header var) (is_char_per_time axis var))
  where
    none : (a b : Bool) → (false || not (a || b || true)) ≡ false
    none true b = refl
    none false true = refl
    none false false = refl

named_out : (header : FileHeader) (axis : NcVar) (name : List ℕ)
    → ((var : NcVar) → var.name ≡ name → is_bounds axis var ≡ true) → name ≢ axis.name
    → All (λ (var : NcVar). var.name ≢ name) (kept_vars header axis)
unfolding kept_vars
named_out header axis name bounds other =
    All-from_each (λ (var : NcVar). var.name ≢ name) (kept_vars header axis)
    (Each-from_in (λ (var : NcVar). var.name ≢ name) (kept_vars header axis) (λ var held same.
    both_ways (is_kept header axis var)
    (not_kept header axis var (bounds var same) (apart (bytes_eq var.name axis.name) (λ is.
    other (sym same ∙ (bytes_eq-Decides var.name axis.name).0 is))))
    (in_filter (is_kept header axis) var header.vars held).1))
  where
    apart : (b : Bool) → (b ≡ true → ⊥) → b ≡ false
    apart true differs = absurd (differs refl)
    apart false differs = refl

text_there : (name other : List ℕ) (found : Option (List ℕ)) → found ≡ Some name → other ≡ name
    → option_map_or (bytes_eq other) found false ≡ true
text_there name other found is same =
    ap (λ o. option_map_or (bytes_eq other) o false) is ∙ (bytes_eq-Decides other name).1 same

-- the views leave out what the axis names as its bounds
pub bounds_left_out : (header : FileHeader) (axis : NcVar) (name : List ℕ)
    → text_of axis.attrs (codes "bounds") ≡ Some name → name ≢ axis.name
    → All (λ (var : NcVar). var.name ≢ name) (kept_vars header axis)
unfolding is_bounds has_text
bounds_left_out header axis name said other = named_out header axis name (λ var same.
    ap (λ b. b || has_text axis.attrs (codes "climatology") var.name)
    (text_there name var.name (text_of axis.attrs (codes "bounds")) said same)) other

-- and as its climatology
pub climatology_left_out : (header : FileHeader) (axis : NcVar) (name : List ℕ)
    → text_of axis.attrs (codes "climatology") ≡ Some name → name ≢ axis.name
    → All (λ (var : NcVar). var.name ≢ name) (kept_vars header axis)
unfolding is_bounds has_text
climatology_left_out header axis name said other = named_out header axis name (λ var same.
    ap (λ b. has_text axis.attrs (codes "bounds") var.name || b)
    (text_there name var.name (text_of axis.attrs (codes "climatology")) said same)
    ∙ or_true (has_text axis.attrs (codes "bounds") var.name)) other
  where
    or_true : (b : Bool) → (b || true) ≡ true
    or_true true = refl
    or_true false = refl

-- A file that was taken: the data of each slot at each time lies in the content, and its grid is the prototype's.
use Rattle.std.proofs.Common.{◌≡◌, ◌≢◌, ℕ, zero, suc, ◌+◌, ◌-◌, ◌*◌, ◌<◌, ◌≤◌, Bool, true, false, not, ◌&&◌, List, [], ◌∷◌, drop, length, map, take, All, Option, Some, None, Ok, refl, sym, ap, ap₂, subst, ◌∙◌, inl, inr, arith}
use Rattle.std.specs.Prelude.{IsTrue, slice_get, ◌==◌}
use Rattle.std.specs.List.{AllByRecursion, AllZip, IsDistinct, list_any}
use Rattle.std.specs.Option.{option_map_or}
use Rattle.std.specs.Str.{bytes_eq}
use Rattle.std.proofs.lemmas.Bool.{and_parts, both_ways, eq-eqb, eqb-true, false≢true, or_parts, not-true}
use Rattle.std.proofs.lemmas.List.{take_all}
use Rattle.std.proofs.lemmas.Nat.{mul-le}
use Rattle.std.proofs.lemmas.Option.{none-some, same_Some}
use Rattle.std.proofs.lemmas.Slice.Eq.{bytes_eq-Decides}
use Rattle.nc_model.specs.declared.header.Dim.{Dim}
use Rattle.nc_model.specs.declared.header.Header.{Header as FileHeader}
use Rattle.nc_model.specs.declared.header.NcVar.{NcVar}
use Rattle.nc_model.specs.Kind.{size_of}
use Rattle.nc_model.specs.Layout.{elements_of, end_of, offset_of, product, rank_in, shape_of, size_at}
use Rattle.nc_model.specs.Spelling.{AreDistinct}
use Rattle.nc_model.proofs.EndLaws.{EndsWithin, ends_within, length-elements_of, rank_in-last}
use Rattle.fm_base.proofs.ChainLemmas.{ok_or_ok}
use Rattle.fm_model.specs.declared.loaded.Loaded.{Loaded}
use Rattle.fm_model.specs.declared.loaded.LoadFault.TheVariants.{MissingVariable}
use Rattle.fm_model.specs.declared.loaded.Slot.{Slot}
use Rattle.fm_model.specs.declared.proto.Proto.{Proto}
use Rattle.fm_model.specs.declared.proto.ProtoVar.{ProtoVar}
use Rattle.fm_model.specs.Load.{Fits}
use Rattle.fm_model.specs.LoadAxis.{file_axis, file_header, file_var}
use Rattle.fm_model.specs.LoadVars.{lengths_of, slot_in, slotted_vars, bytes_per_time, LiesWithin, IsSlotOf, IsSameGrid}
use Rattle.fm_model.specs.Prototype.{HasElements, HasDims, LiesFirst, IsSound}
use Rattle.fm_model.specs.Variable.{dim_of_axis, is_coordinate, is_named, lies_along, stands_first_alone, var_named}
use Rattle.fm_model.proofs.CellLemmas.{in_from_slice_get}
use Rattle.fm_model.proofs.FindLemmas.{in_find}
use Rattle.fm_model.proofs.GridLemmas.{IsGridBegun}
use Rattle.fm_model.proofs.HeaderLemmas.{file_has_data}
use Rattle.fm_model.proofs.LoadLemmas.{IsTaken, IsTaken-load_of}
use Rattle.fm_model.proofs.Members.{In, Each, Each-in, Each-from_in, All-from_each, each_from_All, in_filter}
use Rattle.fm_model.proofs.OffsetLemmas.{offset_of-slot}
use Rattle.fm_model.proofs.SlotLemmas.{begun_grids, slots_each}
use Rattle.fm_model.proofs.TimeLemmas.{times_count}

-- the file's variable of a name is one of its variables
held_var : (header : FileHeader) (name : List ℕ) (var : NcVar) → file_var header name ≡ Ok var → In var header.vars
unfolding file_var var_named
held_var header name var e =
    (in_find (λ (v : NcVar). bytes_eq v.name name) header.vars var
    (ok_or_ok (var_named header name) (MissingVariable name) var e)).0

-- in a file that was taken, each variable with an element ends within the content
ends_in_content : (bytes : List ℕ) (header : FileHeader) (var : NcVar) → file_header bytes ≡ Ok header
    → In var header.vars
    → EndsWithin header (length bytes) var
ends_in_content bytes header var e held =
    let has = file_has_data bytes header e in
    Each-in (EndsWithin header (length bytes)) var header.vars
    (each_from_All (EndsWithin header (length bytes)) header.vars (ends_within header (length bytes) has.1)) held

-- the arithmetic of a slot: what lies at the k-th of n times ends where the last ends, or before
slot_end : (begin step size whole rank k n end len : ℕ) → k < n → begin + (n - 1) * step + size * rank + size ≡ end
    → rank + 1 ≡ whole → end ≤ len
    → begin + k * step + size * whole ≤ len
slot_end begin step size whole rank k n end len below is last within =
    let earlier : k * step ≤ (n - 1) * step = mul-le k step (n - 1) step (omega arith) (omega arith) in
    let turned : size * whole ≡ size * rank + size = ap (λ m. size * m) (sym last) ∙ omega arith in
    omega (arith, earlier, turned, is, within)

positive_product : (m n : ℕ) → 0 < m → 0 < n → 0 < m * n
positive_product m n some other = let least = mul-le 1 1 m n some other in omega (arith, least)

-- what lies at one time of a variable along the axis
within_slot : (bytes : List ℕ) (header : FileHeader) (axis var : NcVar) (first : ℕ) (others : List ℕ) (k : ℕ)
    → EndsWithin header (length bytes) var
    → var.dims ≡ first ∷ others → IsTrue (stands_first_alone (dim_of_axis axis) var.dims) → k < size_at header first
    → 0 < product (map (size_at header) others)
    → (slot_in header axis var).begin + k * (slot_in header axis var).step + size_of var.kind * product
    (map (size_at header) others) ≤ length bytes
unfolding product
within_slot bytes header axis var first others k ends dims alone below some =
    let shape : shape_of header var ≡ size_at header first ∷ map
    (size_at header) others = ap (map (size_at header)) dims in
    let elements : 0 < product (shape_of header var) =
    subst (λ (l : List ℕ). 0 < product l) (sym shape)
    (positive_product (size_at header first) (product (map (size_at header) others)) (omega arith) some) in
    let last : List ℕ = map (λ n. n - 1) (map (size_at header) others) in
    let offset = offset_of-slot header axis var (size_at header first - 1) last alone in
    let end : end_of header var ≡ offset_of header var ((size_at header first - 1) ∷ last) + size_of var.kind =
    ap (λ (l : List ℕ). offset_of header var (map (λ n. n - 1) l) + size_of var.kind) shape in
    let begin : ℕ = (slot_in header axis var).begin in
    let step : ℕ = (slot_in header axis var).step in
    let rank = ap (λ (l : List ℕ). begin + (size_at header first - 1) * step + size_of var.kind * rank_in
    (drop 1 l) last) shape in
    slot_end begin step (size_of var.kind) (product (map (size_at header) others))
    (rank_in (map (size_at header) others) last) k
    (size_at header first) (end_of header var) (length bytes) below
    (sym (end ∙ ap (λ n. n + size_of var.kind) (offset ∙ rank)))
    (rank_in-last (map (size_at header) others) some) (ends elements)

each_name : (P : List ℕ → Type 0) (dims : List Dim) (index : ℕ) (dim : Dim)
    → AllByRecursion P (map (λ (d : Dim). d.name) dims)
    → slice_get dims index ≡ Some dim → P dim.name
each_name P [] index dim all e = absurd (none-some dim e)
each_name P (first ∷ dims) zero dim all e = subst (λ (d : Dim). P d.name) (same_Some first dim e) all.0
each_name P (first ∷ dims) (suc index) dim all e = each_name P dims index dim all.1 e

-- where names differ, one name is at one index
one_index : (dims : List Dim) (i j : ℕ) (a b : Dim) → AreDistinct (map (λ (d : Dim). d.name) dims)
    → slice_get dims i ≡ Some a → slice_get dims j ≡ Some b
    → a.name ≡ b.name → i ≡ j
unfolding IsDistinct
one_index [] i j a b apart e d same = absurd (none-some a e)
one_index (first ∷ dims) zero zero a b apart e d same = refl
one_index (first ∷ dims) zero (suc j) a b apart e d same =
    let differs = each_name (λ n. bytes_eq first.name n ≡ false) dims j b apart.0 d in
    let name : first.name ≡ b.name = ap (λ (x : Dim). x.name) (same_Some first a e) ∙ same in
    absurd (both_ways (bytes_eq first.name b.name) differs ((bytes_eq-Decides first.name b.name).1 name))
one_index (first ∷ dims) (suc i) zero a b apart e d same =
    let differs = each_name (λ n. bytes_eq first.name n ≡ false) dims i a apart.0 e in
    let name : first.name ≡ a.name = ap (λ (x : Dim). x.name) (same_Some first b d) ∙ sym same in
    absurd (both_ways (bytes_eq first.name a.name) differs ((bytes_eq-Decides first.name a.name).1 name))
one_index (first ∷ dims) (suc i) (suc j) a b apart e d same = ap suc (one_index dims i j a b apart.1 e d same)

dim_there : (dims : List Dim) (index : ℕ) → index < length dims → (dim : Dim) × (slice_get dims index ≡ Some dim)
dim_there [] index below = absurd (omega arith)
dim_there (dim ∷ dims) zero below = (dim, refl)
dim_there (dim ∷ dims) (suc index) below = dim_there dims index (omega arith)

-- the dimension of this name
pub dim_named : (dims : List Dim) (name : List ℕ) (id : ℕ) → IsTrue (is_named dims name id)
    → (dim : Dim) × (slice_get dims id ≡ Some dim) × (dim.name ≡ name)
unfolding is_named
dim_named dims name id e = by_dim (slice_get dims id) refl e
  where
    by_dim : (o : Option Dim) → slice_get dims id ≡ o
        → option_map_or (λ (dim : Dim). bytes_eq dim.name name) o false ≡ true
        → (dim : Dim) × (slice_get dims id ≡ Some dim) × (dim.name ≡ name)
    by_dim None is e = absurd (false≢true e)
    by_dim (Some dim) is e = (dim, is, (bytes_eq-Decides dim.name name).0 e)

-- of a sound prototype, each dimension but the axis's has a length
positive_length : (proto : Proto) (sound : IsSound proto) (id : ℕ) → id < length proto.dims → (sound.id ≡ id → ⊥)
    → 0 < option_map_or (λ (dim : Dim). dim.size) (slice_get proto.dims id) 0
positive_length proto sound id below other =
    let found = dim_there proto.dims id below in
    let axis = dim_named proto.dims proto.axis sound.id sound.named in
    let differs : found.0.name ≢ proto.axis = λ e. other
    (one_index proto.dims sound.id id axis.0 found.0 sound.dim_names axis.1 found.1 (axis.2 ∙ sym e)) in
    let some = Each-in (λ (dim : Dim). dim.name ≢ proto.axis → 0 < dim.size) found.0 proto.dims
    (each_from_All (λ (dim : Dim). dim.name ≢ proto.axis → 0 < dim.size) proto.dims sound.lengths)
    (in_from_slice_get proto.dims id found.0 found.1) differs in
    rw found.1 some

-- a variable that does not lie along a dimension has no dimension of that number
pub not_along : (id : ℕ) (ids : List ℕ) → lies_along id ids ≡ false → Each (λ other. id ≡ other → ⊥) ids
unfolding lies_along
not_along id [] e = tt
not_along id (first ∷ ids) e =
    let parts = or_parts (first == id) (list_any (λ other. other == id) ids) e in
    (λ same. both_ways (first == id) parts.0 (eq-eqb first id (sym same)), not_along id ids parts.1)

positive_all : (f : ℕ → ℕ) (ids : List ℕ) → Each (λ id. 0 < f id) ids → 0 < product (map f ids)
unfolding product
positive_all f [] each = omega arith
positive_all f (id ∷ ids) each = positive_product (f id) (product (map f ids)) each.0 (positive_all f ids each.1)

-- of a sound prototype, a variable along the axis has an element at each time
some_per_time : (proto : Proto) → IsSound proto → (wanted : ProtoVar) → In wanted proto.vars → wanted.timed ≡ true
    → 0 < product (drop 1 (lengths_of proto wanted.dims))
unfolding stands_first_alone
some_per_time proto sound wanted held timed =
    let lies = (Each-in (LiesFirst sound.id) wanted proto.vars
    (each_from_All (LiesFirst sound.id) proto.vars sound.timed) held).0 timed in
    let in_range = each_from_All (λ id. id < length proto.dims) wanted.dims
    (Each-in (HasDims proto) wanted proto.vars (each_from_All (HasDims proto) proto.vars sound.in_range) held) in
    by_dims wanted.dims in_range lies.0
  where
    by_dims : (dims : List ℕ) → Each (λ id. id < length proto.dims) dims → IsTrue (stands_first_alone sound.id dims)
        → 0 < product (drop 1 (lengths_of proto dims))
    by_dims [] in_range alone = absurd (false≢true alone)
    by_dims (first ∷ others) in_range alone =
        let apart = not_along sound.id others
        (not-true (lies_along sound.id others)
        (and_parts (first == sound.id) (not (lies_along sound.id others)) alone).1) in
        positive_all (λ id. option_map_or (λ (dim : Dim). dim.size) (slice_get proto.dims id) 0) others
        (Each-from_in _ others
        (λ id h. positive_length proto sound id (Each-in (λ n. n < length proto.dims) id others in_range.1 h)
        (Each-in (λ o. sound.id ≡ o → ⊥) id others apart h)))

-- what a slot says lies in the content, at each time
slot_within : (proto : Proto) (bytes : List ℕ) (header : FileHeader) (axis : NcVar) (wanted : ProtoVar) (slot : Slot)
    → file_header bytes ≡ Ok header
    → 0 < product (drop 1 (lengths_of proto wanted.dims)) → IsSlotOf proto header axis wanted slot
    → LiesWithin proto (size_at header (dim_of_axis axis)) (length bytes) wanted slot
unfolding stands_first_alone
slot_within proto bytes header axis wanted slot e some is k below = by_dims is.var.dims refl is.along
  where
    by_dims : (dims : List ℕ) → is.var.dims ≡ dims → IsTrue (stands_first_alone (dim_of_axis axis) dims)
        → slot.begin + k * slot.step + bytes_per_time proto wanted ≤ length bytes
    by_dims [] are alone = absurd (false≢true alone)
    by_dims (first ∷ others) are alone =
        let along : first ≡ dim_of_axis axis = eqb-true first (dim_of_axis axis)
        (and_parts (first == dim_of_axis axis) (not (lies_along (dim_of_axis axis) others)) alone).0 in
        let lengths : map (size_at header) others ≡ drop 1
        (lengths_of proto wanted.dims) = ap (λ (l : List ℕ). drop 1 (map (size_at header) l)) (sym are)
        ∙ is.lengths in
        let ends = ends_in_content bytes header is.var e (held_var header wanted.name is.var is.named) in
        let inside = within_slot bytes header axis is.var first others k ends are is.along
        (subst (λ id. k < size_at header id) (sym along) below)
        (subst (λ (l : List ℕ). 0 < product l) (sym lengths) some) in
        let bytes_are : size_of is.var.kind * product (map (size_at header) others) ≡ bytes_per_time proto wanted =
        ap₂ (λ (s p : ℕ). s * p) (ap size_of is.kind_is) (ap product lengths) in
        let begin = ap (λ (s : Slot). s.begin) is.slot_is in
        let step = ap (λ (s : Slot). k * s.step) is.slot_is in
        omega (arith, inside, bytes_are, begin, step)

AllZip-each : {A B : Type 0} (R S : A → B → Type 0) (as' : List A) (bs : List B)
    → ((a : A) (b : B) → In a as' → R a b → S a b) → AllZip R as' bs → AllZip S as' bs
AllZip-each R S [] [] weaker zip = tt
AllZip-each R S [] (b ∷ bs) weaker zip = absurd zip
AllZip-each R S (a ∷ as') [] weaker zip = absurd zip
AllZip-each R S (a ∷ as')
    (b ∷ bs) weaker zip = (weaker a b (inl refl) zip.0, AllZip-each R S as' bs (λ x y h. weaker x y (inr h)) zip.1)

-- the slots of a file that fits lie within its bytes
pub slots_within : (file : Loaded) (proto : Proto) → IsSound proto → Fits file proto
    → AllZip (LiesWithin proto (length file.times) (length file.content)) (slotted_vars proto) file.slots
unfolding slotted_vars
slots_within file proto sound fits =
    let t = IsTaken-load_of file.name file.content proto file fits in
    let count = times_count file proto t.header t.axis fits t.header_is t.axis_is in
    subst (λ n. AllZip (LiesWithin proto n (length file.content)) (slotted_vars proto) file.slots) (sym count)
    (AllZip-each (IsSlotOf proto t.header t.axis)
    (LiesWithin proto (size_at t.header (dim_of_axis t.axis)) (length file.content)) (slotted_vars proto) file.slots
    (λ wanted slot h is.
    let held = in_filter (λ (w : ProtoVar). w.timed && not (bytes_eq w.name proto.axis)) wanted proto.vars h in
    slot_within proto file.content t.header t.axis wanted slot t.header_is
    (some_per_time proto sound wanted held.0
    (and_parts wanted.timed (not (bytes_eq wanted.name proto.axis)) held.1).0) is)
    (slots_each file proto t.header t.axis fits t.header_is t.axis_is))

-- elements that begin with those of a sound prototype are those
same_elements : (proto : Proto) (bytes : List ℕ) (header : FileHeader) (wanted : ProtoVar)
    → file_header bytes ≡ Ok header → HasElements proto wanted → wanted.timed ≡ false
    → IsGridBegun proto bytes header wanted → IsSameGrid proto bytes header wanted
same_elements proto bytes header wanted e has untimed begun =
    let ends = ends_in_content bytes header begun.var e (held_var header wanted.name begun.var begun.named) in
    let file_len = length-elements_of bytes header begun.var ends in
    let sizes : size_of begun.var.kind * product (shape_of header begun.var) ≡ size_of wanted.kind * product
    (lengths_of proto wanted.dims) =
    ap₂ (λ (s p : ℕ). s * p) (ap size_of begun.kind_is) (ap product begun.lengths) in
    let as_many = has untimed in
    record {
      var = begun.var;
      named = begun.named;
      kind_is = begun.kind_is;
      lengths = begun.lengths;
      elements = sym (take_all (length wanted.fixed) (elements_of bytes header begun.var)
          (omega (arith, file_len, sizes, as_many))) ∙ begun.elements;
    }

pub same_grids : (file : Loaded) (proto : Proto) (header : FileHeader) → IsSound proto → Fits file proto
    → file_header file.content ≡ Ok header
    → All (λ (wanted : ProtoVar). wanted.name ≢ proto.axis → wanted.timed ≡ false → IsTrue
    (is_coordinate proto.dims wanted.name wanted.kind wanted.dims)
    → IsSameGrid proto file.content header wanted) proto.vars
same_grids file proto header sound fits e =
    let Begun : ProtoVar → Type 0 = λ (w : ProtoVar). w.name ≢ proto.axis → w.timed ≡ false
    → IsTrue (is_coordinate proto.dims w.name w.kind w.dims)
    → IsGridBegun proto file.content header w in
    let Same : ProtoVar → Type 0 = λ (w : ProtoVar). w.name ≢ proto.axis → w.timed ≡ false
    → IsTrue (is_coordinate proto.dims w.name w.kind w.dims)
    → IsSameGrid proto file.content header w in
    let each = each_from_All Begun proto.vars (begun_grids file proto header fits e) in
    let fixed = each_from_All (HasElements proto) proto.vars sound.fixed in
    All-from_each Same proto.vars (Each-from_in Same proto.vars (λ wanted held other untimed coordinate.
    same_elements proto file.content header wanted e (Each-in (HasElements proto) wanted proto.vars fixed held) untimed
    (Each-in Begun wanted proto.vars each held other untimed coordinate)))

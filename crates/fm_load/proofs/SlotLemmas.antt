-- The step of a slot where the axis is no record dimension: the bytes of the whole variable over the number of times.
use Rattle.std.proofs.Common.{◌≡◌, ℕ, ◌*◌, ◌/◌, ◌<◌, Bool, true, false, not, List, [], ◌∷◌, map, drop, sym, ap, ◌∙◌, arith}
use Rattle.std.specs.Prelude.{◌==◌, ◌&&◌, slice_get, if◌then◌else◌}
use Rattle.std.specs.Option.{option_map_or}
use Rattle.std.proofs.Math.Nat.{mul-div_cancel_left}
use Rattle.std.proofs.lemmas.Bool.{and_parts, eqb-true}
use Rattle.nc_model.specs.declared.header.Header.{Header}
use Rattle.nc_model.specs.declared.header.NcVar.{NcVar}
use Rattle.nc_model.specs.Kind.{size_of}
use Rattle.nc_model.specs.Layout.{product, record_size, shape_of, size_at, vsize}
use Rattle.nc_model.specs.Reading.{names_record_dim}
use Rattle.fm_model.specs.declared.loaded.Slot.{Slot}
use Rattle.fm_model.specs.declared.proto.Proto.{Proto}
use Rattle.fm_model.specs.declared.proto.ProtoVar.{ProtoVar}
use Rattle.fm_model.specs.LoadVars.{is_like_timed, lengths_of, slot_in}
use Rattle.fm_model.specs.Variable.{are_same, dim_of_axis, is_same_kind, lies_along, stands_first_alone}

-- a variable that is like the prototype's lies along the axis
pub like_timed-along : (proto : Proto) (header : Header) (axis : NcVar) (wanted : ProtoVar) (var : NcVar)
    → is_like_timed proto header axis wanted var ≡ true → stands_first_alone (dim_of_axis axis) var.dims ≡ true
unfolding is_like_timed
like_timed-along proto header axis wanted var like =
    (and_parts (is_same_kind wanted.kind var.kind) (stands_first_alone (dim_of_axis axis) var.dims)
    (and_parts (is_same_kind wanted.kind var.kind && stands_first_alone (dim_of_axis axis) var.dims)
    (are_same (drop 1 (lengths_of proto wanted.dims)) (drop 1 (shape_of header var))) like).0).1

over_times : (size n rest : ℕ) → 0 < n → size * (n * rest) / n ≡ size * rest
over_times size n rest some =
    let turned : size * (n * rest) ≡ n * (size * rest) = omega arith in
    ap (λ m. m / n) turned ∙ mul-div_cancel_left (size * rest) some

bytes_of : Bool → ℕ → List ℕ → ℕ
bytes_of b size shape = size * product (if b then drop 1 shape else shape)

size-fixed : (header : Header) (id count size : ℕ) (ids : List ℕ) → names_record_dim header.dims id ≡ false
    → stands_first_alone id ids ≡ true → size_at header id ≡ count → 0 < count
    → bytes_of (option_map_or (names_record_dim header.dims) (slice_get ids 0) false) size
    (map (size_at header) ids) / count
    ≡ size * product (drop 1 (map (size_at header) ids))
unfolding stands_first_alone product bytes_of
size-fixed header id count size [] fixed along is some = absurd cc
size-fixed header id count size (first ∷ others) fixed along is some =
    let same : first ≡ id = eqb-true first id (and_parts (first == id) (not (lies_along id others)) along).0 in
    let rest : ℕ = product (map (size_at header) others) in
    ap (λ b. bytes_of b size (size_at header first ∷ map (size_at header) others) / count)
    (ap (names_record_dim header.dims) same ∙ fixed)
    ∙ ap (λ n. size * (n * rest) / count) (ap (size_at header) same ∙ is)
    ∙ over_times size count rest some

abbrev slot : ℕ → ℕ → Slot
slot begin step = record { begin = begin; step = step }

-- the slot, where the axis is no record dimension
pub slot_in-fixed : (header : Header) (axis var : NcVar) (count bytes : ℕ)
    → names_record_dim header.dims (dim_of_axis axis) ≡ false
    → stands_first_alone (dim_of_axis axis) var.dims ≡ true → size_at header (dim_of_axis axis) ≡ count → 0 < count
    → bytes ≡ vsize header var
    → ◌≡◌ {A = Slot} (record { begin = var.begin; step = bytes / count }) (slot_in header axis var)
unfolding slot_in vsize bytes_of
slot_in-fixed header axis var count bytes fixed along is some whole =
    ap (slot var.begin)
    (ap (λ b. b / count) whole
    ∙ size-fixed header (dim_of_axis axis) count (size_of var.kind) var.dims fixed along is some)
    ∙ ap (λ (b : Bool). slot var.begin
    (if b then record_size header else size_of var.kind * product (drop 1 (shape_of header var)))) (sym fixed)

pub ruleset slots = (like_timed-along, slot_in-fixed)

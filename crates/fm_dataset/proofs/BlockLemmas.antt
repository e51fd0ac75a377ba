-- The elements of a variable along the axis lie where its slot says, and within the content.
use Rattle.std.proofs.Common.{◌≡◌, ℕ, ◌+◌, ◌*◌, ◌<◌, ◌≤◌, true, false, List, ◌∷◌, drop, take, length, Some, refl, sym, ap, ◌∙◌, arith}
use Rattle.std.specs.Prelude.{slice_get, slice_index}
use Rattle.std.proofs.lemmas.List.{drop-map}
use Rattle.std.proofs.lemmas.Option.{slice_get_within}
use Rattle.nc_model.specs.declared.kind.Kind.{Kind}
use Rattle.nc_model.specs.Kind.{size_of}
use Rattle.nc_model.specs.Layout.{element, offset_of, product, rank_in}
use Rattle.fm_model.specs.declared.loaded.Loaded.{Loaded}
use Rattle.fm_model.specs.declared.loaded.Slot.{Slot}
use Rattle.fm_model.specs.declared.proto.Proto.{Proto}
use Rattle.fm_model.specs.declared.proto.ProtoVar.{ProtoVar}
use Rattle.fm_model.specs.declared.row.Row.{Row}
use Rattle.fm_model.specs.Load.{Fits}
use Rattle.fm_model.specs.LoadVars.{slot_in, slotted_vars, IsSlotOf, LiesWithin}
use Rattle.fm_model.specs.Prototype.{lengths_of}
use Rattle.fm_model.proofs.LoadLemmas.{IsTaken-load_of}
use Rattle.fm_model.proofs.OffsetLemmas.{offset_of-slot}
use Rattle.fm_model.proofs.SlotLemmas.{slots_count, slots_each}
use Rattle.fm_model.proofs.WithinLemmas.{slots_within}
use Rattle.fm_dataset.specs.Kept.{slot_offset, HasBlock, HasSlotIn, IsBlock, LiesInFile}
use Rattle.fm_dataset.specs.Values.{element_along, element_fixed, element_in, element_of}
use Rattle.fm_dataset.proofs.ItemLemmas.{zip_at}

-- an element by a slot is that by the file's own layout
pub element-slot : (proto : Proto) (file : Loaded) (var : ProtoVar) (slot : Slot) (n index : ℕ) (rest : List ℕ)
    → Fits file proto → slice_get (slotted_vars proto) n ≡ Some var → slice_get file.slots n ≡ Some slot
    → element_in file var.name (index ∷ rest) ≡ take (size_of var.kind) (drop (slot_offset proto var slot index rest)
    file.content)
unfolding element_in element
element-slot proto file var slot n index rest fits e d =
    let t = IsTaken-load_of file.name file.content proto file fits in
    let is = zip_at (IsSlotOf proto t.header t.axis) (slotted_vars proto) file.slots n var slot
    (slots_each file proto t.header t.axis fits t.header_is t.axis_is) e d in
    let found : Slot = slot_in t.header t.axis is.var in
    let offset_is : offset_of t.header is.var (index ∷ rest) ≡ slot_offset proto var slot index rest =
    offset_of-slot t.header t.axis is.var index rest is.along
    ∙ ap (λ (l : List ℕ). found.begin + index * found.step + size_of is.var.kind * rank_in l rest) is.lengths
    ∙ ap (λ (k : Kind).
    found.begin + index * found.step + size_of k * rank_in (drop 1 (lengths_of proto var.dims)) rest) is.kind_is
    ∙ ap (λ (s : Slot). s.begin + index * s.step + size_of var.kind * rank_in (drop 1 (lengths_of proto var.dims)) rest)
    (sym is.slot_is) in
    rw (t.header_is, is.named, is.kind_is, offset_is) refl

module _ (proto : Proto) (row : Row) (var : ProtoVar) (number : ℕ) (has : HasSlotIn proto row var number) where
  -- the file has the slot
  pub slot_there : number < length row.file.slots
  slot_there =
      let below = slice_get_within (slotted_vars proto) number var has.slotted in
      let count = slots_count row.file proto has.row_is.fits in
      omega arith

  -- what lies at the row's index of a slot lies within the content
  pub row_within : (slot : Slot) → slice_get row.file.slots number ≡ Some slot
      → slot.begin + row.index * slot.step + size_of var.kind * product (drop 1 (lengths_of proto var.dims))
      ≤ length row.file.content
  row_within slot e =
      zip_at (LiesWithin proto (length row.file.times) (length row.file.content)) (slotted_vars proto) row.file.slots
      number var slot (slots_within row.file proto has.sound has.row_is.fits) has.slotted e row.index
      (slice_get_within row.file.times row.index row.valid has.row_is.time_is)

  -- where a slot's data begins at the row's index lie the row's elements
  pub lies_in_file : (slot : Slot) (bytes : List ℕ) (begin : ℕ) → slice_get row.file.slots number ≡ Some slot
      → bytes ≡ row.file.content → begin ≡ slot.begin + row.index * slot.step → LiesInFile proto row var bytes begin
  lies_in_file slot bytes begin e bytes_are begin_is = record {
    within = rw (bytes_are, begin_is) (row_within slot e);
    each = λ rest. rw (bytes_are, begin_is)
        (element-slot proto row.file var slot number row.index rest has.row_is.fits has.slotted e);
  }

-- a block in the file of the row that an index list picks
pub block_along : {proto : Proto} {rows : List Row} {var : ProtoVar} {row : Row} {index bytes : List ℕ} {begin : ℕ}
    → var.timed ≡ true → slice_get rows (slice_index index 0) ≡ Some row → LiesInFile proto row var bytes begin
    → IsBlock proto rows var index bytes begin
unfolding element_of element_along
block_along {var = var} timed there lies = record {
  within = rw (timed, ← drop-map _ 1 var.dims) lies.within;
  each = λ other same. rw (timed, same timed, there, ← drop-map _ 1 var.dims) (lies.each (drop 1 other));
}

-- a block of what the prototype has
pub block_fixed : {proto : Proto} {rows : List Row} {var : ProtoVar} {number : ℕ} {index bytes : List ℕ} {begin : ℕ}
    → HasBlock proto rows var number index → var.timed ≡ false → bytes ≡ var.fixed → begin ≡ 0
    → IsBlock proto rows var index bytes begin
unfolding element_of element_fixed
block_fixed {proto} {var = var} has untimed bytes_are begin_is = record {
  within = rw (untimed, bytes_are, begin_is) (omega (arith, has.elements untimed));
  each = λ other same.
      let from : size_of var.kind * rank_in (lengths_of proto var.dims) other
      ≡ 0 + size_of var.kind * rank_in (lengths_of proto var.dims) other = omega arith in
      rw (untimed, bytes_are, begin_is) (ap (λ n. take (size_of var.kind) (drop n var.fixed)) from);
}

-- One item further in a text of what is sent, and at its end.
use Rattle.std.proofs.Common.{◌≡◌, ℕ, ◌+◌, ◌<◌, ◌≤◌, Bool, List, [], ◌∷◌, ◌++◌, length, map, drop, get_or, slice_get, None, Some, refl, sym, ap, subst, ◌∙◌, append_assoc, arith}
use Rattle.std.proofs.lemmas.Grind.{flat_map-append}
use Rattle.std.specs.Borrow.{Bor}
use Rattle.std.specs.List.{flat_map, zip}
use Rattle.nc_model.specs.declared.header.Dim.{Dim}
use Rattle.dap_model.specs.Picking.{or_whole, parts_of}
use Rattle.dap_model.specs.Projection.{cut_array, cut_dim}
use Rattle.dap_model.specs.StructureText.{arrays_text, decls_text, dim_text, dims_text}
use Rattle.dap_model.specs.declared.declaration.Array.{Array}
use Rattle.dap_model.specs.declared.declaration.Decl.{Decl}
use Rattle.dap_model.specs.declared.projection.Slab.{Slab}
use Rattle.dap_project.specs.Checks.{CanBeCut, IsSlotCut}
use Rattle.dap_project.specs.Full.{full_note, full_notes, full_part, full_slot, full_slots}
use Rattle.dap_project.specs.Noted.{cut_of, decl_of, noted_decls}
use Rattle.dap_project.specs.Taken.{cut_from, IsFirst}
use Rattle.dap_project.specs.declared.note.Note.{Note}
use Rattle.dap_project.specs.declared.slot.Slot.{Slot}
use Rattle.dap_project.specs.declared.slot.Slot.TheVariants.{Free, Taken}
use Rattle.dap_project.proofs.FullLemmas.{dims_there, length-full_notes, length-full_slots, note_there, slot_there}
use Rattle.dap_project.proofs.StepLemmas.{all_of, cut_end, cut_short, cut_step, decl_step, decls_end, item_at, zip_no_dims, zip_no_slabs, zip_step}

-- the text of some items more is written
more : {X : Type 0} (f : X → List ℕ) (out : List ℕ) (left now rest : List X) → left ≡ now ++ rest
    → out ++ flat_map f left ≡ (out ++ flat_map f now) ++ flat_map f rest
more f out left now rest is =
    ap (λ l. out ++ flat_map f l) is
    ∙ ap (λ l. out ++ l) (flat_map-append f now rest)
    ∙ sym (append_assoc out (flat_map f now) (flat_map f rest))

-- where no item is left, all of them are written
done : {X : Type 0} (f : X → List ℕ) (out whole : List ℕ) (left : List X) → left ≡ []
    → out ++ flat_map f left ≡ whole → out ≡ whole
done f out whole left none is = all_of out (flat_map f left) whole is (ap (flat_map f) none)

-- ---- dimensions

pub dims_step : (out : List ℕ) (dims : List Dim) (slabs : List Slab) (at : ℕ) (dim : Dim) (d : Slab) → at < length dims
    → at < length slabs → dim ≡ get_or dims at dim
    → out ++ dims_text (map cut_dim (zip (drop at dims) (drop at slabs)))
    ≡ (out ++ dim_text (cut_dim (dim, get_or slabs at d)))
    ++ dims_text (map cut_dim (zip (drop (at + 1) dims) (drop (at + 1) slabs)))
unfolding dims_text
dims_step out dims slabs at dim d within there is =
    ap (λ l. out ++ flat_map dim_text l) (zip_step [] dims slabs at dim d within there is)
    ∙ sym (append_assoc out (dim_text (cut_dim (dim, get_or slabs at d)))
    (flat_map dim_text (map cut_dim (zip (drop (at + 1) dims) (drop (at + 1) slabs)))))

pub dims_end : (out whole : List ℕ) (dims : List Dim) (slabs : List Slab) (at : ℕ) → length slabs ≤ at
    → out ++ dims_text (map cut_dim (zip (drop at dims) (drop at slabs))) ≡ whole → out ≡ whole
unfolding dims_text
dims_end out whole dims slabs at past is =
    done dim_text out whole (map cut_dim (zip (drop at dims) (drop at slabs)))
    (sym (zip_no_slabs [] _ dims slabs at past refl)) is

pub dims_past : (out whole : List ℕ) (dims : List Dim) (slabs : List Slab) (at : ℕ) → length dims ≤ at
    → out ++ dims_text (map cut_dim (zip (drop at dims) (drop at slabs))) ≡ whole → out ≡ whole
unfolding dims_text
dims_past out whole dims slabs at past is =
    done dim_text out whole (map cut_dim (zip (drop at dims) (drop at slabs)))
    (sym (zip_no_dims [] _ dims slabs at past refl)) is

-- ---- parts

-- the parts from a number on, by the one that has it
pub part_left : (decl : Decl) (slots : List Slot) (part : ℕ) (array : Array) (slot : Slot)
    → slice_get (parts_of decl) part ≡ Some array → part < length slots → slot ≡ get_or slots part slot
    → cut_from decl slots part ≡ cut_of array (full_part decl part slot) ++ cut_from decl slots (part + 1)
part_left decl slots part array slot found within is =
    cut_step [] (parts_of decl) (full_slots decl slots) part array (full_part decl part slot) found
    (omega (arith, within, length-full_slots decl slots)) (slot_there decl slots part slot within is)

-- past the last slot, and past the last part, there is none
pub none_behind : (decl : Decl) (slots : List Slot) (part : ℕ) → length slots ≤ part → cut_from decl slots part ≡ []
none_behind decl slots part past =
    sym (cut_end [] _ (parts_of decl) (full_slots decl slots) part (omega (arith, past, length-full_slots decl slots))
    refl)

pub none_past : (decl : Decl) (slots : List Slot) (part : ℕ) → slice_get (parts_of decl) part ≡ None
    → cut_from decl slots part ≡ []
none_past decl slots part none = sym (cut_short [] _ (parts_of decl) (full_slots decl slots) part none refl)

pub parts_step : (out : List ℕ) (depth : ℕ) (decl : Decl) (slots : List Slot) (part : ℕ) (array : Array) (slot : Slot)
    → slice_get (parts_of decl) part ≡ Some array → part < length slots → slot ≡ get_or slots part slot
    → out ++ arrays_text depth (cut_from decl slots part)
    ≡ (out ++ arrays_text depth (cut_of array (full_part decl part slot)))
    ++ arrays_text depth (cut_from decl slots (part + 1))
unfolding arrays_text
parts_step out depth decl slots part array slot found within is =
    more _ out (cut_from decl slots part) (cut_of array (full_part decl part slot)) (cut_from decl slots (part + 1))
    (part_left decl slots part array slot found within is)

pub parts_end : (out whole : List ℕ) (depth : ℕ) (left : List Array) → left ≡ []
    → out ++ arrays_text depth left ≡ whole → out ≡ whole
unfolding arrays_text
parts_end out whole depth left none is = done _ out whole left none is

-- ---- declarations

pub decls_step : (out : List ℕ) (decls : List Decl) (notes : List Note) (at : ℕ) (decl : Decl) (note : Note)
    → at < length decls → at < length notes → decl ≡ get_or decls at decl → note ≡ get_or notes at note
    → out ++ decls_text 1 (noted_decls (drop at decls) (drop at (full_notes decls notes)))
    ≡ (out ++ decls_text 1 (decl_of decl (full_note decl note)))
    ++ decls_text 1 (noted_decls (drop (at + 1) decls) (drop (at + 1) (full_notes decls notes)))
unfolding decls_text
decls_step out decls notes at decl note within there is_decl is_note =
    more _ out (noted_decls (drop at decls) (drop at (full_notes decls notes))) (decl_of decl (full_note decl note))
    (noted_decls (drop (at + 1) decls) (drop (at + 1) (full_notes decls notes)))
    (decl_step [] decls (full_notes decls notes) at decl (full_note decl note) within
    (omega (arith, there, length-full_notes decls notes)) is_decl
    (note_there decls notes at decl note (full_note decl note) within there is_decl is_note))

pub text_end : (out whole : List ℕ) (decls : List Decl) (notes : List Note) (at : ℕ) → length decls ≤ at
    → out ++ decls_text 1 (noted_decls (drop at decls) (drop at notes)) ≡ whole → out ≡ whole
unfolding decls_text
text_end out whole decls notes at past is =
    done _ out whole (noted_decls (drop at decls) (drop at notes))
    (sym (decls_end [] _ decls notes at past refl)) is

-- ---- the first part whose slot is taken

-- a slot that isn't taken leaves the parts behind it
pub free_left : (decl : Decl) (slots : List Slot) (part : ℕ) (array : Array) (slot : Slot)
    → slice_get (parts_of decl) part ≡ Some array → part < length slots → slot ≡ get_or slots part slot → slot ≡ Free
    → cut_from decl slots (part + 1) ≡ cut_from decl slots part
free_left decl slots part array slot found within is free =
    sym (part_left decl slots part array slot found within is
    ∙ ap (λ (s : Slot). cut_of array (full_part decl part s) ++ cut_from decl slots (part + 1)) free)

pub first_here : (decl : Decl) (slots : List Slot) (part : ℕ) (array : Array) (slabs : List Slab) (mixed : Bool)
    → slice_get (parts_of decl) part ≡ Some array → part < length slots
    → Taken slabs mixed ≡ get_or slots part (Taken slabs mixed)
    → cut_from decl slots part ≡ cut_array (or_whole array.dims slabs) array ∷ cut_from decl slots (part + 1)
first_here decl slots part array slabs mixed found within is =
    part_left decl slots part array (Taken slabs mixed) found within is
    ∙ ap (λ (dims : List Dim). cut_array (or_whole dims slabs) array ∷ cut_from decl slots (part + 1))
    (dims_there decl part array found)

-- the slabs of a taken slot can be cut
pub slot_cuts : (decl : Decl) (slots : List Slot) (part : ℕ) (array : Array) (slot : Slot)
    → CanBeCut (parts_of decl) (full_slots decl slots) → slice_get (parts_of decl) part ≡ Some array
    → part < length slots → slot ≡ get_or slots part slot → IsSlotCut array (full_slot array.dims slot)
slot_cuts decl slots part array slot cuts found within is =
    let there : part < length (full_slots decl slots) = omega (arith, within, length-full_slots decl slots) in
    subst (λ (dims : List Dim). IsSlotCut array (full_slot dims slot)) (dims_there decl part array found)
    (cuts part array (full_part decl part slot) found
    (item_at (full_slots decl slots) part (full_part decl part slot) there
    (slot_there decl slots part slot within is)))

pub first_at : (decl : Decl) (slots : List Slot) (part : ℕ) (array : Bor Array) (kept : Bor (List Slab)) (slot : Slot)
    (slabs : List Slab) (mixed : Bool) → CanBeCut (parts_of decl) (full_slots decl slots)
    → slice_get (parts_of decl) part ≡ Some array.now → part < length slots → slot ≡ get_or slots part slot
    → slot ≡ Taken slabs mixed → kept.now ≡ slabs → cut_from decl slots part ≡ cut_from decl slots 0
    → IsFirst decl slots (record { array = array; slabs = kept; next = part + 1 })
first_at decl slots part array kept slot slabs mixed cuts found within is taken same before =
    let is_taken : slot ≡ Taken kept.now mixed = taken ∙ ap (λ (l : List Slab). Taken l mixed) (sym same) in
    record {
      cuts = subst (λ (s : Slot). IsSlotCut array.now (full_slot array.now.dims s)) is_taken
          (slot_cuts decl slots part array.now slot cuts found within is);
      parts = sym before
          ∙ first_here decl slots part array.now kept.now mixed found within
          (subst (λ (s : Slot). s ≡ get_or slots part s) is_taken is);
    }

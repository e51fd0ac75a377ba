-- What is sent for the notes of declarations is the projection.
use Rattle.std.proofs.Common.{◌≡◌, ℕ, ◌+◌, Bool, cond, List, [], ◌∷◌, ◌++◌, length, map, filter, Option, refl, sym, ap, ap₂, ◌∙◌, inl, inr}
use Rattle.std.proofs.lemmas.Bool.{cases_Bool, cond-true, cond-false}
use Rattle.std.specs.List.{cons_option, enumerate_from, filter_map, flat_map, range_with_len}
use Rattle.std.specs.Option.{option_map}
use Rattle.dap_model.specs.Picking.{parts_of}
use Rattle.dap_model.specs.Projection.{all_sent, clauses_for, cut_array, cut_parts, decl_sent, is_kept, is_sent, rebuilt, sent_of, slabs_of, with_slabs}
use Rattle.dap_model.specs.declared.declaration.Array.{Array}
use Rattle.dap_model.specs.declared.declaration.Decl.{Decl}
use Rattle.dap_model.specs.declared.projection.Clause.{Clause}
use Rattle.dap_model.specs.declared.projection.Projected.{Projected}
use Rattle.dap_model.specs.declared.projection.Sent.{Sent}
use Rattle.dap_model.specs.declared.projection.Slab.{Slab}
use Rattle.dap_project.specs.Noted.{cut_slots, noted_all, noted_decl, noted_decls, noted_sent, sent_slots}
use Rattle.dap_project.specs.Notes.{free_slots, note_for}
use Rattle.dap_project.specs.declared.note.Note.{Note}
use Rattle.dap_project.specs.declared.slot.Slot.{Slot}
use Rattle.dap_project.specs.declared.slot.Slot.TheVariants.{Free, Taken}
use Rattle.dap_project.proofs.NoteLemmas.{every_of_note, picked_of_note, slots_of}
use Rattle.dap_project.proofs.SlotLemmas.{slabs_from, slot_from, slot_slabs, slots_from}

-- the slabs of the slot of a part are those that are sent
pub slabs_noted : (clauses : List Clause) (decl : Decl) (part : ℕ)
    → slot_slabs (slot_from decl part Free (clauses_for clauses decl)) ≡ slabs_of clauses decl part
unfolding slabs_of
slabs_noted clauses decl part = slabs_from decl part Free (clauses_for clauses decl)

cut_slots-cons : (array : Array) (arrays : List Array) (slot : Slot) (slots : List Slot)
    → cut_slots (array ∷ arrays) (slot ∷ slots)
    ≡ cons_option (option_map (λ (slabs : List Slab). cut_array slabs array) (slot_slabs slot)) (cut_slots arrays slots)
unfolding cut_slots
cut_slots-cons array arrays Free slots = refl
cut_slots-cons array arrays (Taken slabs mixed) slots = refl

cut_noted : (clauses : List Clause) (decl : Decl) (part : ℕ) (arrays : List Array)
    → cut_slots arrays (slots_from decl part (free_slots arrays) (clauses_for clauses decl))
    ≡ filter_map
    (λ (numbered : ℕ × Array).
    option_map (λ (slabs : List Slab). cut_array slabs numbered.1) (slabs_of clauses decl numbered.0))
    (enumerate_from part arrays)
unfolding free_slots cut_slots
cut_noted clauses decl part [] = refl
cut_noted clauses decl part (array ∷ arrays) =
    let slot = slot_from decl part Free (clauses_for clauses decl) in
    cut_slots-cons array arrays slot (slots_from decl (part + 1) (free_slots arrays) (clauses_for clauses decl))
    ∙ ap₂ (λ (o : Option (List Slab)) (l : List Array).
    cons_option (option_map (λ (slabs : List Slab). cut_array slabs array) o) l) (slabs_noted clauses decl part)
    (cut_noted clauses decl (part + 1) arrays)

sent_slots-cons : (index part : ℕ) (slot : Slot) (slots : List Slot)
    → sent_slots index part (slot ∷ slots)
    ≡ cons_option (option_map (with_slabs index part) (slot_slabs slot)) (sent_slots index (part + 1) slots)
unfolding sent_slots
sent_slots-cons index part Free slots = refl
sent_slots-cons index part (Taken slabs mixed) slots = refl

sent_noted : (clauses : List Clause) (decl : Decl) (index part : ℕ) (arrays : List Array)
    → sent_slots index part (slots_from decl part (free_slots arrays) (clauses_for clauses decl))
    ≡ filter_map (λ (p : ℕ). option_map (with_slabs index p) (slabs_of clauses decl p))
    (range_with_len part (length arrays))
unfolding free_slots sent_slots
sent_noted clauses decl index part [] = refl
sent_noted clauses decl index part (array ∷ arrays) =
    let slot = slot_from decl part Free (clauses_for clauses decl) in
    sent_slots-cons index part slot (slots_from decl (part + 1) (free_slots arrays) (clauses_for clauses decl))
    ∙ ap₂ (λ (o : Option (List Slab)) (l : List Sent). cons_option (option_map (with_slabs index part) o) l)
    (slabs_noted clauses decl part)
    (sent_noted clauses decl index (part + 1) arrays)

decl_noted : (clauses : List Clause) (decl : Decl) → noted_decl decl (note_for clauses decl) ≡ decl_sent clauses decl
unfolding noted_decl decl_sent is_kept cut_parts
decl_noted clauses decl =
    ap₂ (λ (every : Bool) (parts : List Array). rebuilt every decl parts)
    (every_of_note decl (clauses_for clauses decl))
    (ap (cut_slots (parts_of decl)) (slots_of decl (clauses_for clauses decl))
    ∙ cut_noted clauses decl 0 (parts_of decl))

picked_noted : (clauses : List Clause) (decl : Decl) → (note_for clauses decl).picked ≡ is_sent clauses decl
unfolding is_sent
picked_noted clauses decl = picked_of_note decl (clauses_for clauses decl)

decls_noted : (clauses : List Clause) (decls : List Decl)
    → noted_decls decls (map (note_for clauses) decls) ≡ map (decl_sent clauses) (filter (is_sent clauses) decls)
unfolding noted_decls
decls_noted clauses [] = refl
decls_noted clauses (decl ∷ decls) =
    let note : Note = note_for clauses decl in
    let later = noted_decls decls (map (note_for clauses) decls) in
    ap (λ (t : Bool). cond t (noted_decl decl note ∷ []) [] ++ later) (picked_noted clauses decl)
    ∙ elim (cases_Bool (is_sent clauses decl)) [
      | inl sent ↦
          ap (λ (l : List Decl). l ++ later) (cond-true (is_sent clauses decl) (noted_decl decl note ∷ []) [] sent)
          ∙ ap₂ (λ (d : Decl) (l : List Decl). d ∷ l) (decl_noted clauses decl) (decls_noted clauses decls)
          ∙ sym (ap (map (decl_sent clauses)) (cond-true _ _ _ sent))
      | inr apart ↦
          ap (λ (l : List Decl). l ++ later) (cond-false (is_sent clauses decl) (noted_decl decl note ∷ []) [] apart)
          ∙ decls_noted clauses decls
          ∙ sym (ap (map (decl_sent clauses)) (cond-false _ _ _ apart))
    ]

parts_noted : (clauses : List Clause) (index : ℕ) (decls : List Decl)
    → noted_sent index (map (note_for clauses) decls) ≡ flat_map (sent_of clauses) (enumerate_from index decls)
unfolding noted_sent sent_of
parts_noted clauses index [] = refl
parts_noted clauses index (decl ∷ decls) =
    ap₂ (λ (a b : List Sent). a ++ b)
    (ap (sent_slots index 0) (slots_of decl (clauses_for clauses decl))
    ∙ sent_noted clauses decl index 0 (parts_of decl))
    (parts_noted clauses (index + 1) decls)

abbrev both : List Decl → List Sent → Projected
both decls sent = record { decls = decls; sent = sent }

pub all_noted : (clauses : List Clause) (decls : List Decl)
    → noted_all decls (map (note_for clauses) decls) ≡ all_sent decls clauses
unfolding all_sent
all_noted clauses decls =
    ap₂ both (decls_noted clauses decls)
    (parts_noted clauses 0 decls)

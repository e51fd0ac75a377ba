-- Slots and notes in full, one item further.
use Rattle.std.proofs.Common.{◌≡◌, ℕ, zero, suc, ◌+◌, ◌<◌, List, [], ◌∷◌, ◌++◌, length, map, get_or, set, slice_get, Option, Some, None, refl, sym, ap, ap₂, ◌∙◌, arith}
use Rattle.std.specs.Option.{option_map_or}
use Rattle.dap_model.specs.Picking.{part_dims, parts_of}
use Rattle.dap_model.specs.declared.declaration.Array.{Array}
use Rattle.dap_model.specs.declared.declaration.Decl.{Decl}
use Rattle.dap_model.specs.declared.projection.Clause.{Clause}
use Rattle.dap_project.specs.Full.{each_from, full_at, full_note, full_notes, full_part, full_slots}
use Rattle.dap_project.specs.Notes.{free_slots, fresh_note, note_of}
use Rattle.dap_project.specs.declared.note.Note.{Note}
use Rattle.dap_project.specs.declared.slot.Slot.{Slot}
use Rattle.dap_project.specs.declared.slot.Slot.TheVariants.{Free}
use Rattle.dap_project.proofs.StepLemmas.{item_at}

length-each : {A : Type 0} (make : ℕ → A → A) (from : ℕ) (xs : List A) → length (each_from make from xs) ≡ length xs
length-each make from [] = refl
length-each make from (x ∷ xs) = ap suc (length-each make (from + 1) xs)

get_or-each : {A : Type 0} (make : ℕ → A → A) (from : ℕ) (xs : List A) (at : ℕ) (x d : A) → at < length xs
    → x ≡ get_or xs at x → make (from + at) x ≡ get_or (each_from make from xs) at d
get_or-each make from [] at x d within is = absurd (omega (arith, within))
get_or-each make from (y ∷ xs) zero x d within is = ap₂ make (omega arith) is
get_or-each make from (y ∷ xs) (suc at) x d within is =
    ap (λ (n : ℕ). make n x) (omega arith)
    ∙ get_or-each make (from + 1) xs at x d (omega (arith, within)) is

set-each : {A : Type 0} (make : ℕ → A → A) (from : ℕ) (xs : List A) (at : ℕ) (x : A) → at < length xs
    → set (each_from make from xs) at (make (from + at) x) ≡ each_from make from (set xs at x)
set-each make from [] at x within = absurd (omega (arith, within))
set-each make from (y ∷ xs) zero x within =
    ap (λ (n : ℕ). make n x ∷ each_from make (from + 1) xs) (omega arith)
set-each make from (y ∷ xs) (suc at) x within =
    ap (λ (n : ℕ). make from y ∷ set (each_from make (from + 1) xs) at (make n x)) (omega arith)
    ∙ ap (λ l. make from y ∷ l) (set-each make (from + 1) xs at x (omega (arith, within)))

each-push : {A : Type 0} (make : ℕ → A → A) (from : ℕ) (xs : List A) (x : A)
    → each_from make from (xs ++ x ∷ []) ≡ each_from make from xs ++ make (from + length xs) x ∷ []
each-push make from [] x = ap (λ (n : ℕ). make n x ∷ []) (omega arith)
each-push make from (y ∷ xs) x =
    ap (λ l. make from y ∷ l)
    (each-push make (from + 1) xs x
    ∙ ap (λ (n : ℕ). each_from make (from + 1) xs ++ make n x ∷ []) (omega arith))

-- ---- slots

pub length-full_slots : (decl : Decl) (slots : List Slot) → length (full_slots decl slots) ≡ length slots
unfolding full_slots
length-full_slots decl slots = length-each (full_part decl) 0 slots

-- the slot at an index, in full
pub slot_there : (decl : Decl) (slots : List Slot) (at : ℕ) (slot : Slot) → at < length slots
    → slot ≡ get_or slots at slot
    → full_part decl at slot ≡ get_or (full_slots decl slots) at (full_part decl at slot)
unfolding full_slots
slot_there decl slots at slot within is =
    ap (λ (n : ℕ). full_part decl n slot) (omega arith)
    ∙ get_or-each (full_part decl) 0 slots at slot (full_part decl at slot) within is

pub set-full_slots : (decl : Decl) (slots : List Slot) (at : ℕ) (new : Slot) → at < length slots
    → set (full_slots decl slots) at (full_part decl at new) ≡ full_slots decl (set slots at new)
unfolding full_slots
set-full_slots decl slots at new within =
    ap (λ (n : ℕ). set (each_from (full_part decl) 0 slots) at (full_part decl n new)) (omega arith)
    ∙ set-each (full_part decl) 0 slots at new within

-- the dimensions of a part by its number
pub dims_there : (decl : Decl) (part : ℕ) (array : Array) → slice_get (parts_of decl) part ≡ Some array
    → part_dims decl part ≡ array.dims
dims_there decl part array is = ap (λ (o : Option Array). option_map_or (λ (a : Array). a.dims) o []) is

-- ---- notes

pub length-full_notes : (decls : List Decl) (notes : List Note) → length (full_notes decls notes) ≡ length notes
unfolding full_notes
length-full_notes decls notes = length-each (full_at decls) 0 notes

-- the note of a declaration by its index
at_index : (decls : List Decl) (at : ℕ) (decl : Decl) (note : Note) → at < length decls → decl ≡ get_or decls at decl
    → full_at decls at note ≡ full_note decl note
at_index decls at decl note within is =
    ap (λ (o : Option Decl). option_map_or (λ d. full_note d note) o note) (item_at decls at decl within is)

pub note_there : (decls : List Decl) (notes : List Note) (at : ℕ) (decl : Decl) (note d : Note) → at < length decls
    → at < length notes → decl ≡ get_or decls at decl → note ≡ get_or notes at note
    → full_note decl note ≡ get_or (full_notes decls notes) at d
unfolding full_notes
note_there decls notes at decl note d within there is_decl is_note =
    sym (at_index decls at decl note within is_decl)
    ∙ ap (λ (n : ℕ). full_at decls n note) (omega arith)
    ∙ get_or-each (full_at decls) 0 notes at note d there is_note

get_or_map : {A B : Type 0} (f : A → B) (xs : List A) (at : ℕ) (x : A) → at < length xs → x ≡ get_or xs at x
    → get_or (map f xs) at (f x) ≡ f x
get_or_map f [] at x within is = absurd (omega (arith, within))
get_or_map f (y ∷ xs) zero x within is = sym (ap f is)
get_or_map f (y ∷ xs) (suc at) x within is = get_or_map f xs at x (omega (arith, within)) is

-- the note at an index, where the notes are those of clauses
pub noted_there : (earlier : List Clause) (decls : List Decl) (notes : List Note) (at : ℕ) (decl : Decl) (note : Note)
    → at < length decls → at < length notes → decl ≡ get_or decls at decl → note ≡ get_or notes at note
    → full_notes decls notes ≡ map (note_of earlier) decls → full_note decl note ≡ note_of earlier decl
noted_there earlier decls notes at decl note within there is_decl is_note noted =
    note_there decls notes at decl note (note_of earlier decl) within there is_decl is_note
    ∙ ap (λ (l : List Note). get_or l at (note_of earlier decl)) noted
    ∙ get_or_map (note_of earlier) decls at decl within is_decl

pub set-full_notes : (decls : List Decl) (notes : List Note) (at : ℕ) (decl : Decl) (new : Note) → at < length decls
    → at < length notes → decl ≡ get_or decls at decl
    → set (full_notes decls notes) at (full_note decl new) ≡ full_notes decls (set notes at new)
unfolding full_notes
set-full_notes decls notes at decl new within there is =
    ap (set (each_from (full_at decls) 0 notes) at)
    (sym (at_index decls at decl new within is) ∙ ap (λ (n : ℕ). full_at decls n new) (omega arith))
    ∙ set-each (full_at decls) 0 notes at new there

pub push-full_notes : (decls : List Decl) (notes : List Note) (at : ℕ) (decl : Decl) (new : Note) → at < length decls
    → at ≡ length notes → decl ≡ get_or decls at decl
    → full_notes decls (notes ++ new ∷ []) ≡ full_notes decls notes ++ full_note decl new ∷ []
unfolding full_notes
push-full_notes decls notes at decl new within long is =
    each-push (full_at decls) 0 notes new
    ∙ ap (λ (n : Note). each_from (full_at decls) 0 notes ++ n ∷ [])
    (ap (λ (n : ℕ). full_at decls n new) (omega (arith, long)) ∙ at_index decls at decl new within is)

free_stay : (decl : Decl) (part : ℕ) (parts : List Array)
    → each_from (full_part decl) part (map (λ (array : Array). Free) parts) ≡ map (λ (array : Array). Free) parts
free_stay decl part [] = refl
free_stay decl part (array ∷ parts) = ap (λ (l : List Slot). Free ∷ l) (free_stay decl (part + 1) parts)

-- before the first clause a note is in full
pub full_fresh : (decl other : Decl) → full_note decl (fresh_note other) ≡ fresh_note other
unfolding full_slots fresh_note free_slots
full_fresh decl other =
    ap (λ (l : List Slot). record (fresh_note other) { slots = l }) (free_stay decl 0 (parts_of other))

pub all_fresh : (decls others : List Decl) → full_notes decls (map fresh_note others) ≡ map fresh_note others
unfolding full_notes
all_fresh decls others = go 0 others where
  here : (o : Option Decl) (other : Decl)
      → option_map_or (λ decl. full_note decl (fresh_note other)) o (fresh_note other) ≡ fresh_note other
  here None other = refl
  here (Some decl) other = full_fresh decl other

  go : (from : ℕ) (others : List Decl) → each_from (full_at decls) from (map fresh_note others) ≡ map fresh_note others
  go from [] = refl
  go from (other ∷ others) =
      ap₂ (λ (n : Note) (l : List Note). n ∷ l) (here (slice_get decls from) other) (go (from + 1) others)

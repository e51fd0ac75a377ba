-- One item further in a list of slots, notes or parts.
use Rattle.std.proofs.Common.{◌||◌, ◌≡◌, ℕ, zero, suc, ◌+◌, ◌<◌, ◌≤◌, Bool, true, false, List, [], ◌∷◌, ◌++◌, length, map, take, drop, get_or, set, slice_get, Option, Some, None, refl, sym, ap, ap₂, ◌∙◌, append_assoc, append-nil, arith}
use Rattle.std.proofs.lemmas.List.{drop_all, drop_more, drop-set-lt, take_all, take_more_set}
use Rattle.std.proofs.lemmas.Bool.{true≢false}
use Rattle.std.specs.List.{zip}
use Rattle.nc_model.specs.declared.header.Dim.{Dim}
use Rattle.dap_model.specs.Projection.{cut_dim}
use Rattle.dap_model.specs.declared.declaration.Array.{Array}
use Rattle.dap_model.specs.declared.declaration.Decl.{Decl}
use Rattle.dap_model.specs.declared.projection.Clause.{Clause}
use Rattle.dap_model.specs.declared.projection.Sent.{Sent}
use Rattle.dap_model.specs.declared.projection.Slab.{Slab}
use Rattle.dap_project.specs.Noted.{cut_of, cut_slots, decl_of, noted_decls, noted_sent, sent_of_slot, sent_slots}
use Rattle.dap_project.specs.Notes.{note_after, notes_after, slot_after, slot_differs, slots_after, slots_differ}
use Rattle.dap_project.specs.declared.note.Note.{Note}
use Rattle.dap_project.specs.declared.slot.Slot.{Slot}

-- what is left of a list, by its first item
pub left : {A : Type 0} (xs : List A) (at : ℕ) (x : A) → at < length xs → x ≡ get_or xs at x
    → drop at xs ≡ x ∷ drop (at + 1) xs
left xs at x within is = drop_more xs at x within ∙ ap (λ y. y ∷ drop (at + 1) xs) (sym is)

-- what is left of arrays, by the array at an index
pub left_at : (arrays : List Array) (at : ℕ) (array : Array) → slice_get arrays at ≡ Some array
    → drop at arrays ≡ array ∷ drop (at + 1) arrays
left_at [] at array e = absurd cc
left_at (first ∷ arrays) zero array e = ap (λ (a : Array). a ∷ arrays) cc
left_at (first ∷ arrays) (suc at) array e =
    left_at arrays at array e ∙ ap (λ (n : ℕ). array ∷ drop n (first ∷ arrays)) (one at)
  where
    one : (at : ℕ) → suc (at + 1) ≡ suc at + 1
    one at = omega arith

-- where there is none, nothing is left
pub none_at : (arrays : List Array) (at : ℕ) → slice_get arrays at ≡ None → drop at arrays ≡ []
none_at [] at e = drop_all at [] (omega arith)
none_at (array ∷ arrays) zero e = absurd cc
none_at (array ∷ arrays) (suc at) e = none_at arrays at e

-- a list with an item written, up to that
written : {A : Type 0} (xs : List A) (at : ℕ) (x : A) (rest : List A) → at < length xs
    → take at xs ++ x ∷ rest ≡ take (at + 1) (set xs at x) ++ rest
written xs at x rest within =
    sym (append_assoc (take at xs) (x ∷ []) rest) ∙ ap (λ l. l ++ rest) (sym (take_more_set xs at x within))

pub slots_step : (given : ℕ → Option (List Slab)) (slots : List Slot) (at : ℕ) (slot new : Slot)
    → at < length slots → slot ≡ get_or slots at slot → new ≡ slot_after (given at) slot
    → take at slots ++ slots_after given at (drop at slots)
    ≡ take (at + 1) (set slots at new) ++ slots_after given (at + 1) (drop (at + 1) (set slots at new))
unfolding slots_after
slots_step given slots at slot new within is to =
    let rest = slots_after given (at + 1) (drop (at + 1) slots) in
    ap (λ l. take at slots ++ slots_after given at l) (left slots at slot within is)
    ∙ ap (λ (s : Slot). take at slots ++ s ∷ rest) (sym to)
    ∙ written slots at new rest within
    ∙ ap (λ l. take (at + 1) (set slots at new) ++ slots_after given (at + 1) l)
    (sym (drop-set-lt (at + 1) slots at new (omega arith)))

pub notes_step : (clause : Clause) (decls : List Decl) (notes : List Note) (at : ℕ) (decl : Decl) (note new : Note)
    → at < length decls → at < length notes → decl ≡ get_or decls at decl → note ≡ get_or notes at note
    → new ≡ note_after decl clause note
    → take at notes ++ notes_after clause (drop at decls) (drop at notes)
    ≡ take (at + 1) (set notes at new)
    ++ notes_after clause (drop (at + 1) decls) (drop (at + 1) (set notes at new))
unfolding notes_after
notes_step clause decls notes at decl note new within there is_decl is_note to =
    let rest = notes_after clause (drop (at + 1) decls) (drop (at + 1) notes) in
    ap₂ (λ d n. take at notes ++ notes_after clause d n) (left decls at decl within is_decl)
    (left notes at note there is_note)
    ∙ ap (λ (n : Note). take at notes ++ n ∷ rest) (sym to)
    ∙ written notes at new rest there
    ∙ ap (λ l. take (at + 1) (set notes at new) ++ notes_after clause (drop (at + 1) decls) l)
    (sym (drop-set-lt (at + 1) notes at new (omega arith)))

-- ---- what is sent so far, and what is left

pub cut_step : (done : List Array) (arrays : List Array) (slots : List Slot) (at : ℕ) (array : Array) (slot : Slot)
    → slice_get arrays at ≡ Some array → at < length slots → slot ≡ get_or slots at slot
    → done ++ cut_slots (drop at arrays) (drop at slots)
    ≡ (done ++ cut_of array slot) ++ cut_slots (drop (at + 1) arrays) (drop (at + 1) slots)
unfolding cut_slots
cut_step done arrays slots at array slot found within is =
    ap₂ (λ a s. done ++ cut_slots a s) (left_at arrays at array found) (left slots at slot within is)
    ∙ sym (append_assoc done (cut_of array slot) (cut_slots (drop (at + 1) arrays) (drop (at + 1) slots)))

pub sent_step : (sent : List Sent) (index at : ℕ) (slots : List Slot) (slot : Slot) → at < length slots
    → slot ≡ get_or slots at slot
    → sent ++ sent_slots index at (drop at slots)
    ≡ (sent ++ sent_of_slot index at slot) ++ sent_slots index (at + 1) (drop (at + 1) slots)
unfolding sent_slots
sent_step sent index at slots slot within is =
    ap (λ l. sent ++ sent_slots index at l) (left slots at slot within is)
    ∙ sym (append_assoc sent (sent_of_slot index at slot) (sent_slots index (at + 1) (drop (at + 1) slots)))

pub noted_step : (sent : List Sent) (at : ℕ) (notes : List Note) (note : Note) → at < length notes
    → note ≡ get_or notes at note
    → sent ++ noted_sent at (drop at notes)
    ≡ (sent ++ sent_slots at 0 note.slots) ++ noted_sent (at + 1) (drop (at + 1) notes)
unfolding noted_sent
noted_step sent at notes note within is =
    ap (λ l. sent ++ noted_sent at l) (left notes at note within is)
    ∙ sym (append_assoc sent (sent_slots at 0 note.slots) (noted_sent (at + 1) (drop (at + 1) notes)))

pub decl_step : (sent : List Decl) (decls : List Decl) (notes : List Note) (at : ℕ) (decl : Decl) (note : Note)
    → at < length decls → at < length notes → decl ≡ get_or decls at decl → note ≡ get_or notes at note
    → sent ++ noted_decls (drop at decls) (drop at notes)
    ≡ (sent ++ decl_of decl note) ++ noted_decls (drop (at + 1) decls) (drop (at + 1) notes)
unfolding noted_decls
decl_step sent decls notes at decl note within there is_decl is_note =
    ap₂ (λ d n. sent ++ noted_decls d n) (left decls at decl within is_decl) (left notes at note there is_note)
    ∙ sym (append_assoc sent (decl_of decl note) (noted_decls (drop (at + 1) decls) (drop (at + 1) notes)))

-- ---- at the end nothing is left

pub all_of : {A : Type 0} (xs rest whole : List A) → xs ++ rest ≡ whole → rest ≡ [] → xs ≡ whole
all_of xs rest whole is none = sym (append-nil xs) ∙ ap (λ l. xs ++ l) (sym none) ∙ is

pub cut_end : (done whole : List Array) (arrays : List Array) (slots : List Slot) (at : ℕ) → length slots ≤ at
    → done ++ cut_slots (drop at arrays) (drop at slots) ≡ whole → done ≡ whole
unfolding cut_slots
cut_end done whole arrays slots at past is = all_of done _ whole is
    (ap (cut_slots (drop at arrays)) (drop_all at slots past) ∙ none (drop at arrays))
  where
    none : (arrays : List Array) → cut_slots arrays [] ≡ []
    none [] = refl
    none (array ∷ arrays) = refl

pub cut_short : (done whole : List Array) (arrays : List Array) (slots : List Slot) (at : ℕ)
    → slice_get arrays at ≡ None → done ++ cut_slots (drop at arrays) (drop at slots) ≡ whole → done ≡ whole
unfolding cut_slots
cut_short done whole arrays slots at past is =
    all_of done _ whole is (ap (λ a. cut_slots a (drop at slots)) (none_at arrays at past))

pub sent_end : (done whole : List Sent) (index at : ℕ) (slots : List Slot) → length slots ≤ at
    → done ++ sent_slots index at (drop at slots) ≡ whole → done ≡ whole
unfolding sent_slots
sent_end done whole index at slots past is =
    all_of done _ whole is (ap (sent_slots index at) (drop_all at slots past))

pub noted_end : (done whole : List Sent) (at : ℕ) (notes : List Note) → length notes ≤ at
    → done ++ noted_sent at (drop at notes) ≡ whole → done ≡ whole
unfolding noted_sent
noted_end done whole at notes past is = all_of done _ whole is (ap (noted_sent at) (drop_all at notes past))

pub decls_end : (done whole : List Decl) (decls : List Decl) (notes : List Note) (at : ℕ) → length decls ≤ at
    → done ++ noted_decls (drop at decls) (drop at notes) ≡ whole → done ≡ whole
unfolding noted_decls
decls_end done whole decls notes at past is =
    all_of done _ whole is (ap (λ d. noted_decls d (drop at notes)) (drop_all at decls past))

-- the item at an index
pub item_at : {A : Type 0} (xs : List A) (at : ℕ) (x : A) → at < length xs → x ≡ get_or xs at x
    → slice_get xs at ≡ Some x
item_at [] at x within is = absurd (omega (arith, within))
item_at (y ∷ xs) zero x within is = ap Some (sym is)
item_at (y ∷ xs) (suc at) x within is = item_at xs at x (omega (arith, within)) is

-- a dimension more is cut
pub zip_step : (cut : List Dim) (dims : List Dim) (slabs : List Slab) (at : ℕ) (dim : Dim) (d : Slab) → at < length dims
    → at < length slabs → dim ≡ get_or dims at dim
    → cut ++ map cut_dim (zip (drop at dims) (drop at slabs))
    ≡ (cut ++ cut_dim (dim, get_or slabs at d) ∷ []) ++ map cut_dim (zip (drop (at + 1) dims) (drop (at + 1) slabs))
zip_step cut dims slabs at dim d within there is =
    let rest = map cut_dim (zip (drop (at + 1) dims) (drop (at + 1) slabs)) in
    ap₂ (λ (ds : List Dim) (ss : List Slab). cut ++ map cut_dim (zip ds ss)) (left dims at dim within is)
    (drop_more slabs at d there)
    ∙ sym (append_assoc cut (cut_dim (dim, get_or slabs at d) ∷ []) rest)

pub zip_no_slabs : (cut whole : List Dim) (dims : List Dim) (slabs : List Slab) (at : ℕ) → length slabs ≤ at
    → cut ++ map cut_dim (zip (drop at dims) (drop at slabs)) ≡ whole → cut ≡ whole
zip_no_slabs cut whole dims slabs at past is = all_of cut _ whole is
    (ap (λ (l : List Slab). map cut_dim (zip (drop at dims) l)) (drop_all at slabs past) ∙ none (drop at dims))
  where
    none : (dims : List Dim) → map cut_dim (zip dims []) ≡ []
    none [] = refl
    none (dim ∷ dims) = refl

pub zip_no_dims : (cut whole : List Dim) (dims : List Dim) (slabs : List Slab) (at : ℕ) → length dims ≤ at
    → cut ++ map cut_dim (zip (drop at dims) (drop at slabs)) ≡ whole → cut ≡ whole
zip_no_dims cut whole dims slabs at past is =
    all_of cut _ whole is (ap (λ (l : List Dim). map cut_dim (zip l (drop at slabs))) (drop_all at dims past))

pub differ_here : (given : ℕ → Option (List Slab)) (slots : List Slot) (at : ℕ) (slot : Slot) → at < length slots
    → slot ≡ get_or slots at slot → true ≡ slot_differs slot (given at) → true ≡ slots_differ given at (drop at slots)
unfolding slots_differ
differ_here given slots at slot within is differs =
    ap (λ (t : Bool). t || slots_differ given (at + 1) (drop (at + 1) slots)) differs
    ∙ sym (ap (slots_differ given at) (left slots at slot within is))

pub differ_later : (given : ℕ → Option (List Slab)) (slots : List Slot) (at : ℕ) (slot : Slot) → at < length slots
    → slot ≡ get_or slots at slot → false ≡ slot_differs slot (given at)
    → slots_differ given (at + 1) (drop (at + 1) slots) ≡ slots_differ given at (drop at slots)
unfolding slots_differ
differ_later given slots at slot within is same =
    ap (λ (t : Bool). t || slots_differ given (at + 1) (drop (at + 1) slots)) same
    ∙ sym (ap (slots_differ given at) (left slots at slot within is))

-- where none differs, neither the next one does nor those after it
pub none_differs : (given : ℕ → Option (List Slab)) (slots : List Slot) (at : ℕ) (slot new : Slot) → at < length slots
    → slot ≡ get_or slots at slot → slots_differ given at (drop at slots) ≡ false
    → (slot_differs slot (given at) ≡ false)
    × (slots_differ given (at + 1) (drop (at + 1) (set slots at new)) ≡ false)
unfolding slots_differ
none_differs given slots at slot new within is none =
    let both = neither (slot_differs slot (given at)) (slots_differ given (at + 1) (drop (at + 1) slots))
    (sym (ap (slots_differ given at) (left slots at slot within is)) ∙ none) in
    (both.0, ap (slots_differ given (at + 1)) (drop-set-lt (at + 1) slots at new (omega arith)) ∙ both.1)
  where
    neither : (a b : Bool) → (a || b) ≡ false → (a ≡ false) × (b ≡ false)
    neither true b e = absurd (true≢false e)
    neither false b e = (refl, e)

pub differ_end : (given : ℕ → Option (List Slab)) (slots : List Slot) (at : ℕ) → length slots ≤ at
    → false ≡ slots_differ given at (drop at slots)
unfolding slots_differ
differ_end given slots at past = sym (ap (slots_differ given at) (drop_all at slots past))

pub slots_end : (given : ℕ → Option (List Slab)) (slots whole : List Slot) (at : ℕ) → length slots ≤ at
    → take at slots ++ slots_after given at (drop at slots) ≡ whole → slots ≡ whole
unfolding slots_after
slots_end given slots whole at past is =
    sym (take_all at slots past)
    ∙ all_of (take at slots) _ whole is (ap (slots_after given at) (drop_all at slots past))

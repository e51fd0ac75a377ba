-- What clauses without a fault give to parts can be cut, and its counts fit 64 bits.
use Rattle.std.proofs.Common.{◌≡◌, ℕ, zero, suc, ◌+◌, ◌-◌, ◌<◌, ◌^◌, List, [], ◌∷◌, ◌==◌, length, true, map, drop, slice_get, All, Some, refl, sym, ap, ap₂, subst, ◌∙◌, inl, inr, arith}
use Rattle.std.proofs.Math.Nat.{div-le_self}
use Rattle.std.proofs.lemmas.Bool.{cases_Bool, cond-true, cond-false, eqb-true}
use Rattle.std.proofs.lemmas.List.Elements.{All-cons, All-contains, All-drop, All-nil, All-take}
use Rattle.std.proofs.lemmas.Option.{none-some, same_Some}
use Rattle.std.specs.List.{filter_map, zip}
use Rattle.nc_model.specs.declared.header.Dim.{Dim}
use Rattle.dap_model.proofs.ListLemmas.{Has, contains_from_Has, Has-slice_get, Source-filter_map}
use Rattle.dap_model.proofs.SlabLemmas.{count_cases, slab_count-whole}
use Rattle.dap_model.specs.Box.{slab_count, whole_slab, HasStride}
use Rattle.dap_model.specs.Picking.{Picked, nothing, every, only, given_by, or_whole, part_dims, parts_of, picked_by, slabs_for, spread, whole_slabs}
use Rattle.dap_model.specs.Projection.{clauses_for, cut_dim, slabs_of, whole_clause}
use Rattle.dap_model.specs.declared.declaration.Array.{Array}
use Rattle.dap_model.specs.declared.declaration.Decl.{Decl}
use Rattle.dap_model.specs.declared.projection.Clause.{Clause}
use Rattle.dap_model.specs.declared.projection.Slab.{Slab}
use Rattle.dap_project.specs.Checks.{AllCanBeCut, AreCuts, CanBeCut, HasCountable, IsCountable, IsCut, IsSlotCut}
use Rattle.dap_project.specs.Notes.{note_for}
use Rattle.dap_project.specs.declared.note.Note.{Note}
use Rattle.dap_project.specs.declared.slot.Slot.{Slot}
use Rattle.dap_project.specs.declared.slot.Slot.TheVariants.{Free, Taken}
use Rattle.dap_project.proofs.FullLemmas.{dims_there}
use Rattle.dap_project.proofs.NoteLemmas.{slots_of}
use Rattle.dap_project.proofs.SentLemmas.{slabs_noted}
use Rattle.dap_project.proofs.SlotLemmas.{slot_at, slot_from, slot_slabs}

-- what holds of each item holds of the one at an index
at_index : {A : Type 0} (P : A → Type 0) (xs : List A) (index : ℕ) (x : A) → All P xs
    → slice_get xs index ≡ Some x → P x
at_index P [] index x all e = absurd cc
at_index P (y ∷ xs) zero x all e = subst P (same_Some y x e) (all 0 y (omega arith))
at_index P (y ∷ xs) (suc index) x all e =
    at_index P xs index x (λ (k : ℕ) d within. all (suc k) d (omega (arith, within))) e

whole_at : (dims : List Dim) (index : ℕ) (dim : Dim) (slab : Slab) → slice_get dims index ≡ Some dim
    → slice_get (whole_slabs dims) index ≡ Some slab → slab ≡ whole_slab dim.size
unfolding whole_slabs
whole_at [] index dim slab a b = absurd cc
whole_at (first ∷ dims) zero dim slab a b =
    sym (same_Some (whole_slab first.size) slab b) ∙ ap (λ (d : Dim). whole_slab d.size) (same_Some first dim a)
whole_at (first ∷ dims) (suc index) dim slab a b = whole_at dims index dim slab a b

or_whole_cuts : (dims : List Dim) (slabs : List Slab) → All IsCountable slabs → AreCuts dims (or_whole dims slabs)
or_whole_cuts dims [] all = λ index dim slab a b. inr (whole_at dims index dim slab a b)
or_whole_cuts dims (first ∷ slabs) all =
    λ index dim slab a b. inl (at_index IsCountable (first ∷ slabs) index slab all b)

spread_countable : (slabs : List Slab) (part : ℕ) → All IsCountable slabs → All IsCountable (spread slabs part)
spread_countable slabs zero all = all
spread_countable slabs (suc part) all =
    All-take IsCountable 1 (drop part slabs) (All-drop IsCountable part slabs all)

given_cuts : (decl : Decl) (clause : Clause) (part : ℕ) (slabs : List Slab) → HasCountable clause
    → given_by decl clause part ≡ Some slabs → AreCuts (part_dims decl part) slabs
unfolding given_by
given_cuts decl clause part slabs countable e = go (picked_by decl clause.path) e where
  go : (picked : Picked) → slabs_for decl clause.slabs part picked ≡ Some slabs → AreCuts (part_dims decl part) slabs
  go nothing h = absurd cc
  go every h =
      subst (AreCuts (part_dims decl part)) (same_Some _ slabs h)
      (or_whole_cuts (part_dims decl part) (spread clause.slabs part) (spread_countable clause.slabs part countable))
  go (only other) h = elim (cases_Bool (other == part)) [
    | inl same ↦
        subst (AreCuts (part_dims decl part)) (same_Some _ slabs (sym (cond-true _ _ _ same) ∙ h))
        (or_whole_cuts (part_dims decl part) clause.slabs countable)
    | inr apart ↦ absurd (none-some slabs (sym (cond-false _ _ _ apart) ∙ h))
  ]

has_all : {A : Type 0} (P : A → Type 0) (xs : List A) (x : A) → All P xs → Has xs x → P x
has_all P xs x all has = All-contains P xs x all (contains_from_Has xs x has)

all_for : (clauses : List Clause) (decl : Decl) → All HasCountable clauses → All HasCountable (clauses_for clauses decl)
all_for [] decl all = All-cons HasCountable (whole_clause decl) [] (All-nil IsCountable) (All-nil HasCountable)
all_for (clause ∷ clauses) decl all = all

map_at : {A B : Type 0} (f : A → B) (xs : List A) (index : ℕ) (x : A) (y : B) → slice_get xs index ≡ Some x
    → slice_get (map f xs) index ≡ Some y → y ≡ f x
map_at f [] index x y a b = absurd cc
map_at f (z ∷ xs) zero x y a b = sym (same_Some (f z) y b) ∙ ap f (same_Some z x a)
map_at f (z ∷ xs) (suc index) x y a b = map_at f xs index x y a b

-- the slabs that a part is sent with
slabs_cut : (clauses : List Clause) (decl : Decl) (part : ℕ) (slabs : List Slab) → All HasCountable clauses
    → slabs_of clauses decl part ≡ Some slabs → AreCuts (part_dims decl part) slabs
unfolding slabs_of
slabs_cut clauses decl part slabs all e =
    let given = λ (each : Clause). given_by decl each part in
    let source =
    Source-filter_map given (clauses_for clauses decl) slabs
    (Has-slice_get (filter_map given (clauses_for clauses decl)) 0 slabs e) in
    given_cuts decl source.item part slabs
    (has_all HasCountable (clauses_for clauses decl) source.item (all_for clauses decl all) source.has)
    source.gives

slot_cut : (clauses : List Clause) (decl : Decl) (part : ℕ) (array : Array) (slot : Slot) → All HasCountable clauses
    → slice_get (parts_of decl) part ≡ Some array
    → slot ≡ slot_from decl part Free (clauses_for clauses decl) → IsSlotCut array slot
slot_cut clauses decl part array Free all is_part is_slot = tt
slot_cut clauses decl part array (Taken slabs mixed) all is_part is_slot =
    let sent : slabs_of clauses decl part ≡ Some slabs =
    sym (ap slot_slabs is_slot ∙ slabs_noted clauses decl part) in
    subst (λ (l : List Dim). AreCuts l slabs) (dims_there decl part array is_part)
    (slabs_cut clauses decl part slabs all sent)

slots_cut : (clauses : List Clause) (decl : Decl) → All HasCountable clauses
    → CanBeCut (parts_of decl) (note_for clauses decl).slots
slots_cut clauses decl all = λ part array slot is_part is_slot.
    let there = subst (λ (l : List Slot). slice_get l part ≡ Some slot)
    (slots_of decl (clauses_for clauses decl)) is_slot in
    let from = slot_at decl 0 part (parts_of decl) (clauses_for clauses decl) slot there in
    let same : 0 + part ≡ part = omega arith in
    slot_cut clauses decl part array slot all is_part
    (from ∙ ap (λ (n : ℕ). slot_from decl n Free (clauses_for clauses decl)) same)

pub notes_cut : (clauses : List Clause) (decls : List Decl) → All HasCountable clauses
    → AllCanBeCut decls (map (note_for clauses) decls)
notes_cut clauses decls all = λ index decl note is_decl is_note.
    subst (λ (n : Note). CanBeCut (parts_of decl) n.slots)
    (sym (map_at (note_for clauses) decls index decl note is_decl is_note)) (slots_cut clauses decl all)

whole_dims : (dims : List Dim) → dims ≡ map cut_dim (zip dims (whole_slabs dims))
unfolding whole_slabs
whole_dims [] = refl
whole_dims (dim ∷ dims) =
    ap₂ (λ (d : Dim) (l : List Dim). d ∷ l)
    (ap (λ (n : ℕ). record dim { size = n }) (sym (slab_count-whole dim.size))) (whole_dims dims)

-- where no slabs stand, dimensions stay as they are
pub whole_cut : (dims : List Dim) (slabs : List Slab) → (length slabs == 0) ≡ true
    → dims ≡ map cut_dim (zip dims (or_whole dims slabs))
whole_cut dims [] none = whole_dims dims
whole_cut dims (slab ∷ slabs) none = absurd (omega (arith, eqb-true (length (slab ∷ slabs)) 0 none))

-- ---- counts

whole_stride : (size : ℕ) → HasStride (whole_slab size)
unfolding whole_slab
whole_stride zero = omega arith
whole_stride (suc last) = grind arith

-- a slab that can be cut has a stride
pub cut_stride : (size : ℕ) (slab : Slab) → IsCut size slab → HasStride slab
cut_stride size slab (inl countable) = countable.stride
cut_stride size slab (inr whole) = subst HasStride (sym whole) (whole_stride size)

-- and its count fits 64 bits
pub cut_few : (size : ℕ) (slab : Slab) → size < 2 ^ 64 → IsCut size slab → slab_count slab < 2 ^ 64
cut_few size slab fits (inl countable) = elim (count_cases slab) [
  | inl t ↦ omega (arith, t.1, div-le_self (slab.stop - slab.start) slab.stride, countable.few)
  | inr f ↦ omega (arith, f.1)
]
cut_few size slab fits (inr whole) =
    subst (λ (n : ℕ). n < 2 ^ 64) (sym (ap slab_count whole ∙ slab_count-whole size)) fits

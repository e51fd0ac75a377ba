-- A slot keeps the first slabs that clauses give its part, and says whether others differ from some of them.
use Rattle.std.proofs.Common.{arith, ◌==◌, ◌≡◌, ℕ, zero, suc, ◌+◌, Bool, true, false, not, ◌||◌, List, [], ◌∷◌, length, slice_get, Option, Some, None, refl, sym, ap, ap₂, ◌∙◌, inl, inr}
use Rattle.std.proofs.lemmas.Bool.{cases_Bool, eqb-true, true≢false}
use Rattle.std.proofs.lemmas.Slice.Eq.{slice_eq-Decides}
use Rattle.std.specs.Cmp.Lexicographic.{pointwise}
use Rattle.std.specs.List.{cons_option, filter_map, list_any, range_with_len}
use Rattle.std.specs.Option.{option_or}
use Rattle.dap_model.proofs.ProjectionAgreeLemmas.{same_slab}
use Rattle.dap_model.specs.ClauseFaults.{are_other, is_same_slab}
use Rattle.nc_model.specs.declared.header.Dim.{Dim}
use Rattle.dap_model.specs.Picking.{given_by, or_whole, whole_slabs}
use Rattle.dap_model.specs.declared.declaration.Array.{Array}
use Rattle.dap_model.specs.declared.declaration.Decl.{Decl}
use Rattle.dap_model.specs.declared.projection.Clause.{Clause}
use Rattle.dap_model.specs.declared.projection.Slab.{Slab}
use Rattle.dap_project.specs.Notes.{free_slots, slot_after, slot_differs, slots_after, slots_differ}
use Rattle.dap_project.specs.declared.slot.Slot.{Slot}
use Rattle.dap_project.specs.declared.slot.Slot.TheVariants.{Free, Taken}

-- the slot of a part after clauses
abbrev pub slot_from : Decl → ℕ → Slot → List Clause → Slot
slot_from decl part slot [] = slot
slot_from decl part slot (clause ∷ clauses) = slot_from decl part (slot_after (given_by decl clause part) slot) clauses

-- the slots of the parts from this number on
abbrev pub slots_from : Decl → ℕ → List Slot → List Clause → List Slot
slots_from decl part [] clauses = []
slots_from decl part (slot ∷ slots) clauses =
    slot_from decl part slot clauses ∷ slots_from decl (part + 1) slots clauses

pub slots_from-none : (decl : Decl) (part : ℕ) (slots : List Slot) → slots_from decl part slots [] ≡ slots
slots_from-none decl part [] = refl
slots_from-none decl part (slot ∷ slots) = ap (λ l. slot ∷ l) (slots_from-none decl (part + 1) slots)

pub slots_from-step : (decl : Decl) (part : ℕ) (slots : List Slot) (clause : Clause) (clauses : List Clause)
    → slots_from decl part (slots_after (λ p. given_by decl clause p) part slots) clauses
    ≡ slots_from decl part slots (clause ∷ clauses)
unfolding slots_after
slots_from-step decl part [] clause clauses = refl
slots_from-step decl part (slot ∷ slots) clause clauses =
    ap (λ l. slot_from decl part slot (clause ∷ clauses) ∷ l) (slots_from-step decl (part + 1) slots clause clauses)

-- ---- whether slabs differ

pub or-none : (b : Bool) → b ≡ (b || false)
or-none true = refl
or-none false = refl

pub or-assoc : (a b c : Bool) → ((a || b) || c) ≡ (a || (b || c))
or-assoc true b c = refl
or-assoc false b c = refl

or-true : (b : Bool) → true ≡ (b || true)
or-true true = refl
or-true false = refl

pub same_slabs : (first second : List Slab) → pointwise is_same_slab first second ≡ true → first ≡ second
same_slabs first second e =
    (slice_eq-Decides same_slab first second (pointwise is_same_slab first second) refl).0 e

slabs_same : (first second : List Slab) → first ≡ second → pointwise is_same_slab first second ≡ true
slabs_same first second e =
    (slice_eq-Decides same_slab first second (pointwise is_same_slab first second) refl).1 e

swapped : (first second : List Slab) → pointwise is_same_slab first second ≡ pointwise is_same_slab second first
swapped first second = elim (cases_Bool (pointwise is_same_slab first second)) [
  | inl same ↦ same ∙ sym (slabs_same second first (sym (same_slabs first second same)))
  | inr other ↦ elim (cases_Bool (pointwise is_same_slab second first)) [
    | inl same ↦
        absurd (true≢false (sym (slabs_same first second (sym (same_slabs second first same))) ∙ other))
    | inr apart ↦ other ∙ sym apart
  ]
]

pub alike_none : (dims : List Dim) (first second : List Slab) → (length first == 0) ≡ true → (length second == 0) ≡ true
    → true ≡ pointwise is_same_slab (or_whole dims first) (or_whole dims second)
alike_none dims [] [] none empty = sym (slabs_same (whole_slabs dims) (whole_slabs dims) refl)
alike_none dims [] (slab ∷ second) none empty = absurd (omega (arith, eqb-true (length (slab ∷ second)) 0 empty))
alike_none dims (slab ∷ first) second none empty = absurd (omega (arith, eqb-true (length (slab ∷ first)) 0 none))

pub alike_first : (dims : List Dim) (first second : List Slab) → (length first == 0) ≡ true
    → (length second == 0) ≡ false → pointwise is_same_slab second (whole_slabs dims)
    ≡ pointwise is_same_slab (or_whole dims first) (or_whole dims second)
alike_first dims [] [] none some = absurd (true≢false some)
alike_first dims [] (slab ∷ second) none some = swapped (slab ∷ second) (whole_slabs dims)
alike_first dims (slab ∷ first) second none some = absurd (omega (arith, eqb-true (length (slab ∷ first)) 0 none))

pub alike_second : (dims : List Dim) (first second : List Slab) → (length first == 0) ≡ false
    → (length second == 0) ≡ true → pointwise is_same_slab first (whole_slabs dims)
    ≡ pointwise is_same_slab (or_whole dims first) (or_whole dims second)
alike_second dims [] second some none = absurd (true≢false some)
alike_second dims (slab ∷ first) [] some none = refl
alike_second dims (slab ∷ first) (other ∷ second) some none =
    absurd (omega (arith, eqb-true (length (other ∷ second)) 0 none))

-- slabs that stand there are those in full
pub some_whole : (dims : List Dim) (slabs : List Slab) → (length slabs == 0) ≡ false → or_whole dims slabs ≡ slabs
some_whole dims [] some = absurd (true≢false some)
some_whole dims (slab ∷ slabs) some = refl

pub ruleset alike = (alike_none, alike_first, alike_second, some_whole)

-- three lists of slabs: where the first two differ, the third differs from one of them
third : (a b c : List Slab)
    → (not (pointwise is_same_slab a b) || not (pointwise is_same_slab a c))
    ≡ (not (pointwise is_same_slab a c) || not (pointwise is_same_slab b c))
third a b c = elim (cases_Bool (pointwise is_same_slab a b)) [
  | inl same ↦
      let a_is : a ≡ b = same_slabs a b same in
      let left : (not (pointwise is_same_slab a b) || not (pointwise is_same_slab a c))
      ≡ not (pointwise is_same_slab a c) =
      ap (λ (t : Bool). not t || not (pointwise is_same_slab a c)) same in
      left
      ∙ twice (not (pointwise is_same_slab a c))
      ∙ ap (λ (l : List Slab). not (pointwise is_same_slab a c) || not (pointwise is_same_slab l c)) a_is
  | inr other ↦
      let left : (not (pointwise is_same_slab a b) || not (pointwise is_same_slab a c)) ≡ true =
      ap (λ (t : Bool). not t || not (pointwise is_same_slab a c)) other in
      left ∙ elim (cases_Bool (pointwise is_same_slab a c)) [
        | inl there ↦
            let apart : pointwise is_same_slab b c ≡ false = elim (cases_Bool (pointwise is_same_slab b c)) [
              | inl both ↦
                  let same : a ≡ b = same_slabs a c there ∙ sym (same_slabs b c both) in
                  absurd (true≢false (sym (slabs_same a b same) ∙ other))
              | inr is ↦ is
            ] in
            or-true (not (pointwise is_same_slab a c))
            ∙ ap (λ (t : Bool). not (pointwise is_same_slab a c) || not t) (sym apart)
        | inr apart ↦ ap (λ (t : Bool). not t || not (pointwise is_same_slab b c)) (sym apart)
      ]
]
  where
    twice : (t : Bool) → t ≡ (t || t)
    twice true = refl
    twice false = refl

differs-step : (given next : Option (List Slab)) (slot : Slot)
    → slot_differs (slot_after given slot) next ≡ (slot_differs slot next || are_other given next)
differs-step None next slot = or-none (slot_differs slot next)
differs-step (Some slabs) None Free = refl
differs-step (Some slabs) None (Taken first mixed) = refl
differs-step (Some slabs) (Some others) Free = refl
differs-step (Some slabs) (Some others) (Taken first true) = refl
differs-step (Some slabs) (Some others) (Taken first false) = third first slabs others

pub differs_from : (decl : Decl) (part : ℕ) (next : Option (List Slab)) (slot : Slot) (clauses : List Clause)
    → slot_differs (slot_from decl part slot clauses) next
    ≡ (slot_differs slot next || list_any (λ (other : Clause). are_other (given_by decl other part) next) clauses)
differs_from decl part next slot [] = or-none (slot_differs slot next)
differs_from decl part next slot (clause ∷ clauses) =
    let given = given_by decl clause part in
    let others = list_any (λ (other : Clause). are_other (given_by decl other part) next) clauses in
    differs_from decl part next (slot_after given slot) clauses
    ∙ ap (λ (t : Bool). t || others) (differs-step given next slot)
    ∙ or-assoc (slot_differs slot next) (are_other given next) others

-- some part's slabs differ from those that an earlier clause gives it
pub differ_from : (decl : Decl) (next : ℕ → Option (List Slab)) (part : ℕ) (parts : List Array) (clauses : List Clause)
    → slots_differ next part (slots_from decl part (free_slots parts) clauses)
    ≡ list_any
    (λ (p : ℕ). list_any (λ (other : Clause). are_other (given_by decl other p) (next p)) clauses)
    (range_with_len part (length parts))
unfolding slots_differ free_slots
differ_from decl next part [] clauses = refl
differ_from decl next part (array ∷ parts) clauses =
    ap₂ (λ (a b : Bool). a || b) (differs_from decl part (next part) Free clauses)
    (differ_from decl next (part + 1) parts clauses)

-- ---- the first slabs

-- the slabs of a slot
abbrev pub slot_slabs : Slot → Option (List Slab)
slot_slabs Free = None
slot_slabs (Taken slabs mixed) = Some slabs

first-step : (given : Option (List Slab)) (slot : Slot) (later : List (List Slab))
    → option_or (slot_slabs (slot_after given slot)) (slice_get later 0)
    ≡ option_or (slot_slabs slot) (slice_get (cons_option given later) 0)
first-step None slot later = refl
first-step (Some slabs) Free later = refl
first-step (Some slabs) (Taken first mixed) later = refl

or_nothing : {A : Type 0} (o : Option A) → o ≡ option_or o None
or_nothing None = refl
or_nothing (Some x) = refl

pub slabs_from : (decl : Decl) (part : ℕ) (slot : Slot) (clauses : List Clause)
    → slot_slabs (slot_from decl part slot clauses)
    ≡ option_or (slot_slabs slot) (slice_get (filter_map (λ (each : Clause). given_by decl each part) clauses) 0)
slabs_from decl part slot [] = or_nothing (slot_slabs slot)
slabs_from decl part slot (clause ∷ clauses) =
    slabs_from decl part (slot_after (given_by decl clause part) slot) clauses
    ∙ first-step (given_by decl clause part) slot (filter_map (λ (each : Clause). given_by decl each part) clauses)

-- the slot of a part by its number
pub slot_at : (decl : Decl) (part index : ℕ) (parts : List Array) (clauses : List Clause) (slot : Slot)
    → slice_get (slots_from decl part (free_slots parts) clauses) index ≡ Some slot
    → slot ≡ slot_from decl (part + index) Free clauses
unfolding free_slots
slot_at decl part index [] clauses slot e = absurd cc
slot_at decl part zero (array ∷ parts) clauses slot e =
    some_is _ _ (sym e) ∙ ap (λ (p : ℕ). slot_from decl p Free clauses) (omega arith)
  where
    some_is : (a b : Slot) → Some a ≡ Some b → a ≡ b
    some_is a b h = cc
slot_at decl part (suc index) (array ∷ parts) clauses slot e =
    slot_at decl (part + 1) index parts clauses slot e
    ∙ ap (λ (p : ℕ). slot_from decl p Free clauses) (omega arith)

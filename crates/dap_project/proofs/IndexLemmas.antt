-- One step further in a list of declarations, names or slabs.
use Rattle.std.proofs.Common.{◌≡◌, ℕ, zero, suc, ◌+◌, ◌<◌, ◌≤◌, true, List, [], ◌∷◌, ◌++◌, length, map, replicate, take, drop, get_or, slice_get, All, None, refl, sym, ap, ap₂, subst, ◌∙◌, append_assoc, arith}
use Rattle.std.proofs.lemmas.Bool.{cond-true}
use Rattle.std.proofs.lemmas.List.{drop_all, drop_more, length-take-le, map-append, take_all, take_more}
use Rattle.std.proofs.lemmas.List.Elements.{All-push}
use Rattle.nc_model.specs.declared.header.Dim.{Dim}
use Rattle.dap_model.specs.ClauseFaults.{is_within, path_text, range_fault}
use Rattle.dap_model.specs.Picking.{decl_named, is_picked, picked_by}
use Rattle.dap_model.specs.declared.declaration.Array.{Array}
use Rattle.dap_model.specs.declared.declaration.Decl.{Decl}
use Rattle.dap_model.specs.declared.projection.Slab.{Slab}
use Rattle.dap_project.specs.Checks.{IsCountable}
use Rattle.dap_project.specs.Notes.{free_slots}
use Rattle.dap_project.specs.declared.slot.Slot.{Slot}
use Rattle.dap_project.specs.declared.slot.Slot.TheVariants.{Free}
use Rattle.dap_project.proofs.StepLemmas.{item_at, left}

-- the first declaration that is left is named
pub found_here : (decls : List Decl) (path : List (List ℕ)) (at : ℕ) (decl : Decl) → at < length decls
    → decl ≡ get_or decls at decl → is_picked (picked_by decl path) ≡ true
    → slice_get decls at ≡ decl_named (drop at decls) path
unfolding decl_named
found_here decls path at decl within is named =
    item_at decls at decl within is
    ∙ sym (ap (λ (l : List Decl). decl_named l path) (left decls at decl within is) ∙ cond-true _ _ _ named)

-- as many free slots as there are parts
pub all_free : (parts : List Array) → replicate (length parts) Free ≡ free_slots parts
unfolding free_slots
all_free [] = refl
all_free (array ∷ parts) = ap (λ (l : List Slot). Free ∷ l) (all_free parts)

-- ---- the text of a path

one_more : (names : List (List ℕ)) (name : List ℕ) → 1 ≤ length names
    → path_text (names ++ name ∷ []) ≡ (path_text names ++ 46 ∷ []) ++ name
one_more [] name some = absurd (omega (arith, some))
one_more (first ∷ []) name some = sym (append_assoc first (46 ∷ []) name)
one_more (first ∷ next ∷ names) name some =
    let rest = path_text (next ∷ names) in
    ap (λ (l : List ℕ). first ++ 46 ∷ l) (one_more (next ∷ names) name (omega arith))
    ∙ sym (ap (λ (l : List ℕ). l ++ name) (append_assoc first (46 ∷ rest) (46 ∷ []))
    ∙ append_assoc first (46 ∷ (rest ++ 46 ∷ [])) name)

-- a list up to an item
pub up_to : {A : Type 0} (xs : List A) (at : ℕ) (x : A) → at < length xs → x ≡ get_or xs at x
    → take (at + 1) xs ≡ take at xs ++ x ∷ []
up_to xs at x within is = take_more xs at x within ∙ ap (λ y. take at xs ++ y ∷ []) (sym is)

-- what is made of the items up to that
pub map_up_to : {A B : Type 0} (f : A → B) (xs : List A) (at : ℕ) (x : A) → at < length xs → x ≡ get_or xs at x
    → map f (take at xs) ++ f x ∷ [] ≡ map f (take (at + 1) xs)
map_up_to f xs at x within is =
    sym (ap (map f) (up_to xs at x within is) ∙ map-append f (take at xs) (x ∷ []))

pub dotted : (path : List (List ℕ)) (at : ℕ) (name text dot new : List ℕ) → at < length path
    → name ≡ get_or path at name → 0 < at → text ≡ path_text (take at path) → dot ≡ text ++ 46 ∷ []
    → new ≡ dot ++ name → new ≡ path_text (take (at + 1) path)
dotted path at name text dot new within is some so_far then_dot then_name =
    then_name
    ∙ ap (λ (l : List ℕ). l ++ name) (then_dot ∙ ap (λ (l : List ℕ). l ++ 46 ∷ []) so_far)
    ∙ sym (ap path_text (up_to path at name within is)
    ∙ one_more (take at path) name (rw (length-take-le at path (omega arith)) some))

pub first_name : (path : List (List ℕ)) (at : ℕ) (name text new : List ℕ) → at < length path
    → name ≡ get_or path at name → at ≤ 0 → text ≡ path_text (take at path) → new ≡ text ++ name
    → new ≡ path_text (take (at + 1) path)
first_name path zero name text new within is none so_far then_name =
    then_name ∙ ap (λ (l : List ℕ). l ++ name) so_far ∙ sym (ap path_text (up_to path 0 name within is))
first_name path (suc at) name text new within is none so_far then_name = absurd (omega (arith, none))

-- ---- slabs within their dimensions

pub range_step : (name : List ℕ) (dims : List Dim) (slabs : List Slab) (at : ℕ) (dim : Dim) (slab : Slab)
    → at < length dims → at < length slabs → is_within (get_or dims at dim).size (get_or slabs at slab) ≡ true
    → range_fault name (at + 1) (drop (at + 1) dims) (drop (at + 1) slabs)
    ≡ range_fault name at (drop at dims) (drop at slabs)
unfolding range_fault
range_step name dims slabs at dim slab within there inside =
    sym (ap₂ (λ (d : List Dim) (s : List Slab). range_fault name at d s) (drop_more dims at dim within)
    (drop_more slabs at slab there)
    ∙ cond-true _ _ _ inside)

pub range_end : (name : List ℕ) (dims : List Dim) (slabs : List Slab) (at : ℕ) → length slabs ≤ at
    → range_fault name at (drop at dims) (drop at slabs) ≡ None
unfolding range_fault
range_end name dims slabs at past =
    ap (λ (s : List Slab). range_fault name at (drop at dims) s) (drop_all at slabs past) ∙ none (drop at dims)
  where
    none : (dims : List Dim) → range_fault name at dims [] ≡ None
    none [] = refl
    none (dim ∷ dims) = refl

pub more_countable : (slabs : List Slab) (at : ℕ) (slab : Slab) → at < length slabs → All IsCountable (take at slabs)
    → IsCountable (get_or slabs at slab) → All IsCountable (take (at + 1) slabs)
more_countable slabs at slab within all next =
    subst (All IsCountable) (sym (take_more slabs at slab within)) (All-push IsCountable (take at slabs) _ all next)

pub all_countable : (slabs : List Slab) (at : ℕ) → length slabs ≤ at → All IsCountable (take at slabs)
    → All IsCountable slabs
all_countable slabs at past all = subst (All IsCountable) (take_all at slabs past) all

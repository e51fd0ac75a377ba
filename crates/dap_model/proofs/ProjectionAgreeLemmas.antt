-- Clauses without a fault: each names a declaration, and all that name a part give it the same slabs.
use Rattle.std.proofs.Common.{◌≡◌, ◌≢◌, ℕ, ◌<◌, true, false, List, [], ◌∷◌, ◌++◌, length, slice_get, Some, None, refl, sym, ap, ap₂, ◌∙◌, inl, inr, arith}
use Rattle.std.specs.Bool.{Decides}
use Rattle.std.specs.Cmp.Lexicographic.{pointwise}
use Rattle.std.specs.List.{filter_map, list_any, range_with_len}
use Rattle.std.specs.Str.{bytes_eq}
use Rattle.std.proofs.lemmas.Bool.{cases_Bool, cond-true, cond-false, and_parts, and_from, true≢false, eqb-true, eq-eqb, not-false}
use Rattle.std.proofs.lemmas.Option.{none-some, same_Some}
use Rattle.std.proofs.lemmas.Slice.Eq.{slice_eq-Decides, bytes_eq-Decides}
use Rattle.fm_base.proofs.OptionLemmas.{cases_Option}
use Rattle.dap_model.specs.declared.declaration.Decl.{Decl}
use Rattle.dap_model.specs.declared.projection.Clause.{Clause}
use Rattle.dap_model.specs.declared.projection.Slab.{Slab}
use Rattle.dap_model.specs.ClauseFaults.{rank_fault, range_fault, conflict_fault, decl_fault, clause_fault, first_fault, fault_in, is_same_slab, are_other, path_text}
use Rattle.dap_model.specs.Picking.{name_of, parts_of, Picked, nothing, every, only, picked_by, is_picked, slabs_for, given_by, decl_named, picked_dims}
use Rattle.dap_model.specs.Projection.{slabs_of}
use Rattle.dap_model.specs.ProjectionFacts.{AreNamedApart}
use Rattle.dap_model.proofs.ListLemmas.{Has, Has-left, Has-right, Has-range, Has-slice_get, Source-filter_map, filter_map-some, filter_map-none, none_passes}
use Rattle.dap_model.proofs.OrderLemmas.{Ordered, Ordered-from_pairs}
use Rattle.dap_model.proofs.ProjectionFaultLemmas.{both_none}

abbrev made : ℕ → ℕ → ℕ → Slab
made start stride stop = record { start = start; stride = stride; stop = stop }

-- the test on slabs decides whether they are the same
pub same_slab : (slab other : Slab) → Decides (is_same_slab slab other) (slab ≡ other)
same_slab slab other = (
  λ passes.
      let tests = and_parts _ _ passes in
      let front = and_parts _ _ tests.0 in
      let start : slab.start ≡ other.start = eqb-true _ _ front.0 in
      let stride : slab.stride ≡ other.stride = eqb-true _ _ front.1 in
      let stop : slab.stop ≡ other.stop = eqb-true _ _ tests.1 in
      ap₂ (λ (a b : ℕ). made a b slab.stop) start stride ∙ ap (made other.start other.stride) stop,
  λ same. and_from _ _ (and_from _ _ (eq-eqb _ _ (ap (λ (s : Slab). s.start) same))
      (eq-eqb _ _ (ap (λ (s : Slab). s.stride) same))) (eq-eqb _ _ (ap (λ (s : Slab). s.stop) same)),
)

same_slabs : (first second : List Slab) → are_other (Some first) (Some second) ≡ false → first ≡ second
same_slabs first second e =
    (slice_eq-Decides same_slab first second (pointwise is_same_slab first second) refl).0 (not-false _ e)

-- two clauses that give slabs to a part give the same
pub agreed : (decl : Decl) (other clause : Clause) (part : ℕ) (first second : List Slab)
    → given_by decl other part ≡ Some first → given_by decl clause part ≡ Some second
    → are_other (given_by decl other part) (given_by decl clause part) ≡ false → first ≡ second
agreed decl other clause part first second a b e = same_slabs first second (sym (ap₂ are_other a b) ∙ e)

-- each earlier clause gives a part the same slabs, where there is no conflict
pub no_conflict : (decl : Decl) (earlier : List Clause) (clause other : Clause) (part : ℕ)
    → conflict_fault decl earlier clause ≡ None → part < length (parts_of decl) → Has earlier other
    → are_other (given_by decl other part) (given_by decl clause part) ≡ false
unfolding conflict_fault
no_conflict decl earlier clause other part e within has =
    let differs =
    λ (p : ℕ). list_any (λ (c : Clause). are_other (given_by decl c p) (given_by decl clause p)) earlier in
    elim (cases_Bool (list_any differs (range_with_len 0 (length (parts_of decl))))) [
      | inl some ↦ absurd (none-some _ (sym e ∙ cond-true _ _ _ some))
      | inr none ↦
          let part_none =
          none_passes differs (range_with_len 0 (length (parts_of decl))) part none
          (Has-range 0 (length (parts_of decl)) part (omega arith) (omega arith)) in
          none_passes (λ (c : Clause). are_other (given_by decl c part)
          (given_by decl clause part)) earlier other part_none has
    ]

-- what a clause without a fault meets on the declaration that it names
pub record Sound (decl : Decl) (earlier : List Clause) (clause : Clause) : Type 0 where
  pub rank : rank_fault (path_text clause.path) (picked_dims decl (picked_by decl clause.path)) clause.slabs ≡ None
  pub range : range_fault (path_text clause.path) 0 (picked_dims decl (picked_by decl clause.path)) clause.slabs ≡ None
  pub conflict : conflict_fault decl earlier clause ≡ None

pub Sound-from_none : (decls : List Decl) (earlier : List Clause) (clause : Clause) (decl : Decl)
    → decl_named decls clause.path ≡ Some decl → clause_fault decls earlier clause ≡ None
    → Sound decl earlier clause
unfolding clause_fault decl_fault
Sound-from_none decls earlier clause decl named e =
    let first = both_none _ _ (sym (ap (fault_in earlier clause) named) ∙ e) in
    let second = both_none _ _ first.1 in
    record { rank = first.0; range = second.0; conflict = second.1 }

-- a path that picks something of a declaration begins with its name
pub named_first : (decl : Decl) (path : List (List ℕ)) → is_picked (picked_by decl path) ≡ true
    → (name : List ℕ) × (more : List (List ℕ)) × (path ≡ name ∷ more) × (name_of decl ≡ name)
unfolding picked_by
named_first decl [] e = absurd (true≢false (sym e))
named_first decl (name ∷ more) e = elim (cases_Bool (bytes_eq (name_of decl) name)) [
  | inl t ↦ (name, more, refl, (bytes_eq-Decides (name_of decl) name).0 t)
  | inr f ↦ absurd (true≢false (sym e ∙ ap is_picked (cond-false _ _ _ f)))
]

same_names : (decl other : Decl) (path : List (List ℕ)) → is_picked (picked_by decl path) ≡ true
    → is_picked (picked_by other path) ≡ true → name_of decl ≡ name_of other
same_names decl other path first second =
    let a = named_first decl path first in
    let b = named_first other path second in
    let whole : a.0 ∷ a.1 ≡ b.0 ∷ b.1 = sym a.2 ∙ b.2 in
    let heads : a.0 ≡ b.0 = cc in
    a.3 ∙ heads ∙ sym b.3

-- a declaration of which a clause picks something is the one that it names
pub decl_named-is : (decls : List Decl) (decl : Decl) (path : List (List ℕ))
    → Ordered (λ (a b : Decl). name_of a ≢ name_of b) decls → Has decls decl → is_picked (picked_by decl path) ≡ true
    → decl_named decls path ≡ Some decl
unfolding decl_named
decl_named-is [] decl path apart has picked = absurd has
decl_named-is (first ∷ decls) decl path apart (inl same) picked =
    cond-true _ _ _ (ap (λ (d : Decl). is_picked (picked_by d path)) same ∙ picked) ∙ ap Some same
decl_named-is (first ∷ decls) decl path apart (inr has) picked = elim (cases_Bool (is_picked (picked_by first path))) [
  | inl t ↦ absurd (apart.0 decl has (same_names first decl path t picked))
  | inr f ↦ cond-false _ _ _ f ∙ decl_named-is decls decl path apart.1 has picked
]

-- a clause that gives slabs to a part picks it
pub picked_if_given : (decl : Decl) (clause : Clause) (part : ℕ) (slabs : List Slab)
    → given_by decl clause part ≡ Some slabs → is_picked (picked_by decl clause.path) ≡ true
unfolding given_by
picked_if_given decl clause part slabs e = go (picked_by decl clause.path) e where
  go : (picked : Picked) → slabs_for decl clause.slabs part picked ≡ Some slabs → is_picked picked ≡ true
  go nothing h = absurd (none-some slabs h)
  go every h = refl
  go (only other) h = refl

-- clauses without a fault, after these
abbrev pub Faultless : List Decl → List Clause → List Clause → Type 0
Faultless decls earlier clauses = first_fault decls earlier clauses ≡ None

pub Faultless-first : (decls : List Decl) (earlier : List Clause) (clause : Clause) (clauses : List Clause)
    → Faultless decls earlier (clause ∷ clauses)
    → (clause_fault decls earlier clause ≡ None) × Faultless decls (earlier ++ clause ∷ []) clauses
unfolding first_fault
Faultless-first decls earlier clause clauses e = both_none _ _ e

-- a clause that names a part agrees with each earlier one
agree_earlier : (decls : List Decl) (earlier clauses : List Clause) (decl : Decl) (other clause : Clause) (part : ℕ)
    (first second : List Slab)
    → Ordered (λ (a b : Decl). name_of a ≢ name_of b) decls → Has decls decl → part < length (parts_of decl)
    → Faultless decls earlier clauses
    → Has earlier other → Has clauses clause → given_by decl other part ≡ Some first
    → given_by decl clause part ≡ Some second → first ≡ second
agree_earlier decls earlier [] decl other clause part first second apart has within none before after a b = absurd after
agree_earlier decls earlier (x ∷ clauses) decl other clause part first second apart has within none before
    (inl same) a b =
    let parts = Faultless-first decls earlier x clauses none in
    let b' : given_by decl x part ≡ Some second = ap (λ (c : Clause). given_by decl c part) same ∙ b in
    let sound =
    Sound-from_none decls earlier x decl
    (decl_named-is decls decl x.path apart has (picked_if_given decl x part second b')) parts.0 in
    agreed decl other x part first second a b' (no_conflict decl earlier x other part sound.conflict within before)
agree_earlier decls earlier (x ∷ clauses) decl other clause part first second apart has within none before
    (inr after) a b =
    let parts = Faultless-first decls earlier x clauses none in
    agree_earlier decls (earlier ++ x ∷ []) clauses decl other clause part first second apart has within parts.1
    (Has-left earlier (x ∷ []) other before) after a b

-- the slabs that clauses give to a part
abbrev given_all : Decl → ℕ → List Clause → List (List Slab)
given_all decl part clauses = filter_map (λ (each : Clause). given_by decl each part) clauses

-- the first slabs that are given are those of each clause that gives some
first_given : (decls : List Decl) (earlier clauses : List Clause) (decl : Decl) (clause : Clause) (part : ℕ)
    (slabs : List Slab)
    → Ordered (λ (a b : Decl). name_of a ≢ name_of b) decls → Has decls decl → part < length (parts_of decl)
    → Faultless decls earlier clauses
    → Has clauses clause → given_by decl clause part ≡ Some slabs
    → slice_get (given_all decl part clauses) 0 ≡ Some slabs
first_given decls earlier [] decl clause part slabs apart has within none after b = absurd after
first_given decls earlier (x ∷ clauses) decl clause part slabs apart has within none after b =
    let parts = Faultless-first decls earlier x clauses none in
    elim (cases_Option (given_by decl x part)) [
      | inl gives_none ↦ elim after [
        | inl same ↦ absurd (none-some slabs (sym gives_none ∙ ap (λ (c : Clause). given_by decl c part) same ∙ b))
        | inr later ↦
            ap (λ (l : List (List Slab)). slice_get l 0)
            (filter_map-none (λ (each : Clause). given_by decl each part) x clauses gives_none)
            ∙ first_given decls (earlier ++ x ∷ []) clauses decl clause part slabs apart has within parts.1 later b
      ]
      | inr some ↦
          ap (λ (l : List (List Slab)). slice_get l 0)
          (filter_map-some (λ (each : Clause). given_by decl each part) x clauses some.0 some.1)
          ∙ ap Some (elim after [
            | inl same ↦ same_Some _ _ (sym some.1 ∙ ap (λ (c : Clause). given_by decl c part) same ∙ b)
            | inr later ↦
                agree_earlier decls (earlier
                ++ x ∷ []) clauses decl x clause part some.0 slabs apart has within parts.1
                (Has-right earlier (x ∷ []) x (inl refl)) later some.1 b
          ])
    ]

-- the slabs with which a part is sent are those that each clause gives that names it
pub slabs_of-given : (decls : List Decl) (clauses : List Clause) (decl : Decl) (clause : Clause) (part : ℕ)
    (slabs : List Slab)
    → AreNamedApart decls → Has decls decl → part < length (parts_of decl) → Faultless decls [] clauses
    → Has clauses clause → given_by decl clause part ≡ Some slabs → slabs_of clauses decl part ≡ Some slabs
unfolding slabs_of
slabs_of-given decls [] decl clause part slabs apart has within none after b = absurd after
slabs_of-given decls (x ∷ clauses) decl clause part slabs apart has within none after b =
    first_given decls [] (x ∷ clauses) decl clause part slabs (Ordered-from_pairs _ decls apart) has within none after b

-- some clause gives the slabs with which a part is sent
pub given-slabs_of : (x : Clause) (clauses : List Clause) (decl : Decl) (part : ℕ) (slabs : List Slab)
    → slabs_of (x ∷ clauses) decl part ≡ Some slabs
    → (clause : Clause) × Has (x ∷ clauses) clause × (given_by decl clause part ≡ Some slabs)
unfolding slabs_of
given-slabs_of x clauses decl part slabs e =
    let s =
    Source-filter_map (λ (each : Clause). given_by decl each part) (x ∷ clauses) slabs
    (Has-slice_get (given_all decl part (x ∷ clauses)) 0 slabs e) in
    (s.item, s.has, s.gives)

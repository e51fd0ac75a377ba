-- What the faults of a clause say, and what holds of a clause without one.
use Rattle.std.proofs.Common.{◌≡◌, ◌≢◌, ◌⊎◌, ℕ, true, List, length, Option, Some, None, refl, sym, ap, subst, ◌∙◌, inl, inr, arith}
use Rattle.std.specs.Prelude.{not}
use Rattle.std.specs.Cmp.Lexicographic.{pointwise}
use Rattle.std.specs.List.{list_any, range_with_len}
use Rattle.std.proofs.lemmas.Bool.{cases_Bool, cond-true, cond-false, true≢false}
use Rattle.std.proofs.lemmas.Option.{none-some, same_Some}
use Rattle.std.proofs.lemmas.Slice.Eq.{slice_eq-Decides}
use Rattle.std.specs.Option.{option_or}
use Rattle.fm_base.proofs.OptionLemmas.{cases_Option}
use Rattle.dap_model.specs.ClauseFaults.{conflict_fault, decl_fault, clause_fault, fault_in, is_same_slab, are_other}
use Rattle.dap_model.specs.FaultFacts.{written_path, IsNamedBy, HasDims, IsFirstOutside, Conflicts, HasNoClauseFault, HasClauseFault}
use Rattle.dap_model.specs.Picking.{name_of, parts_of, picked_by, picked_dims, given_by, decl_named}
use Rattle.dap_model.specs.declared.declaration.Decl.{Decl}
use Rattle.dap_model.specs.declared.fault.ProjectFault.{ProjectFault}
use Rattle.dap_model.specs.declared.fault.ProjectFault.TheVariants.{NoSuchVariable, SlabConflict}
use Rattle.dap_model.specs.declared.projection.Clause.{Clause}
use Rattle.dap_model.specs.declared.projection.Slab.{Slab}
use Rattle.dap_model.proofs.FaultNameLemmas.{IsNamedBy-decl_named, unnamed, HasDims-picked}
use Rattle.dap_model.proofs.FaultSlabLemmas.{HasRank-ranked, rank_fault-some, range_fault-none, range_fault-some}
use Rattle.dap_model.proofs.ListLemmas.{Has-from_contains, contains_from_Has, some_passes, within_range}
use Rattle.dap_model.proofs.PickingLemmas.{picked_if_named}
use Rattle.dap_model.proofs.ProjectionAgreeLemmas.{same_slab, agreed, no_conflict}
use Rattle.dap_model.proofs.ProjectionFaultLemmas.{both_none}

-- the first of two faults is the first, or the second where there is no first
from_either : {A : Type 0} (first second : Option A) (a : A) → option_or first second ≡ Some a
    → (first ≡ Some a) ⊎ ((first ≡ None) × (second ≡ Some a))
from_either None second a e = inr (refl, e)
from_either (Some b) second a e = inl e

-- slabs that are given twice, and not the same
record Apart (one two : Option (List Slab)) : Type 0 where
  first : List Slab
  second : List Slab
  first_is : one ≡ Some first
  second_is : two ≡ Some second
  apart : first ≢ second

Apart-are_other : (one two : Option (List Slab)) → are_other one two ≡ true → Apart one two
Apart-are_other None two e = absurd (true≢false (sym e))
Apart-are_other (Some first) None e = absurd (true≢false (sym e))
Apart-are_other (Some first) (Some second) e = record {
  first = first;
  second = second;
  first_is = refl;
  second_is = refl;
  apart = λ same.
      let alike = (slice_eq-Decides same_slab first second (pointwise is_same_slab first second) refl).1 same in
      true≢false (sym e ∙ ap not alike);
}

conflict_fault-some : (decl : Decl) (earlier : List Clause) (clause : Clause) (fault : ProjectFault)
    → conflict_fault decl earlier clause ≡ Some fault
    → (SlabConflict (name_of decl) ≡ fault) × Conflicts decl earlier clause
unfolding conflict_fault
conflict_fault-some decl earlier clause fault e =
    let differs =
    λ (p : ℕ). list_any (λ (c : Clause). are_other (given_by decl c p) (given_by decl clause p)) earlier in
    let numbers = range_with_len 0 (length (parts_of decl)) in
    elim (cases_Bool (list_any differs numbers)) [
      | inr f ↦ absurd (none-some fault (sym (cond-false _ _ _ f) ∙ e))
      | inl t ↦
          let part = some_passes differs numbers t in
          let other =
          some_passes (λ (c : Clause). are_other (given_by decl c part.0)
          (given_by decl clause part.0)) earlier part.2 in
          let slabs = Apart-are_other _ _ other.2 in (
            same_Some _ _ (sym (cond-true _ _ _ t) ∙ e),
            record {
              other = other.0;
              part = part.0;
              first = slabs.first;
              second = slabs.second;
              other_is = contains_from_Has earlier other.0 other.1;
              within = omega (arith, (within_range 0 (length (parts_of decl)) part.0 part.1).1);
              first_is = slabs.first_is;
              second_is = slabs.second_is;
              apart = slabs.apart;
            },
          )
    ]

conflict_fault-none : (decl : Decl) (earlier : List Clause) (clause : Clause)
    → conflict_fault decl earlier clause ≡ None → Conflicts decl earlier clause → ⊥
conflict_fault-none decl earlier clause e s =
    s.apart (agreed decl s.other clause s.part s.first s.second s.first_is s.second_is
    (no_conflict decl earlier clause s.other s.part e s.within (Has-from_contains earlier s.other s.other_is)))

-- the declaration that a clause names, and the dimensions of what it names there
record Found (decls : List Decl) (clause : Clause) (decl : Decl) : Type 0 where
  named : IsNamedBy decls clause.path decl
  has : HasDims decl clause.path (picked_dims decl (picked_by decl clause.path))

found_by : (decls : List Decl) (clause : Clause) (decl : Decl) → decl_named decls clause.path ≡ Some decl
    → Found decls clause decl
found_by decls clause decl e =
    let named = IsNamedBy-decl_named decls clause.path decl e in
    record { named = named; has = HasDims-picked decl clause.path (picked_if_named decl clause.path named.names) }

-- what the first fault on a declaration says
decl_fault-says : (decls : List Decl) (earlier : List Clause) (clause : Clause) (decl : Decl) (fault : ProjectFault)
    → Found decls clause decl
    → decl_fault decl earlier clause ≡ Some fault → HasClauseFault decls earlier clause fault
unfolding decl_fault
decl_fault-says decls earlier clause decl fault found e =
    let path = written_path clause in
    let dims = picked_dims decl (picked_by decl clause.path) in
    elim (from_either _ _ fault e) [
      | inl rank ↦
          let s = rank_fault-some path dims clause.slabs fault rank in
          subst (HasClauseFault decls earlier clause) s.fault_is (record {
            decl = decl;
            dims = dims;
            named = found.named;
            has = found.has;
            name_is = refl;
            got_is = refl;
            rank_is = refl;
            some = s.some;
            apart = s.apart;
          })
      | inr later ↦
          let rank = HasRank-ranked path dims clause later.0 in
          elim (from_either _ _ fault later.1) [
            | inl range ↦
                let s = range_fault-some path 0 dims clause.slabs fault range in
                subst (HasClauseFault decls earlier clause) s.fault_is (record {
                  decl = decl;
                  dims = dims;
                  named = found.named;
                  has = found.has;
                  name_is = refl;
                  rank = rank;
                  outside = subst (λ (n : ℕ). IsFirstOutside dims clause.slabs n s.size) (omega arith) s.outside;
                })
            | inr last ↦
                let s = conflict_fault-some decl earlier clause fault last.1 in
                subst (HasClauseFault decls earlier clause) s.0 (record {
                  decl = decl;
                  dims = dims;
                  named = found.named;
                  has = found.has;
                  name_is = refl;
                  rank = rank;
                  range = range_fault-none path 0 dims clause.slabs last.0;
                  conflict = s.1;
                })
          ]
    ]

-- what the fault of a clause says
pub clause_fault-says : (decls : List Decl) (earlier : List Clause) (clause : Clause) (fault : ProjectFault)
    → clause_fault decls earlier clause ≡ Some fault → HasClauseFault decls earlier clause fault
unfolding clause_fault
clause_fault-says decls earlier clause fault e = elim (cases_Option (decl_named decls clause.path)) [
  | inl none ↦
      let fault_is : NoSuchVariable (written_path clause) ≡ fault =
      same_Some _ _ (sym (ap (fault_in earlier clause) none) ∙ e) in
      subst (HasClauseFault decls earlier clause) fault_is (record {
        name_is = refl;
        none = λ decl has names. unnamed decls clause.path decl none (Has-from_contains decls decl has) names;
      })
  | inr some ↦
      decl_fault-says decls earlier clause some.0 fault (found_by decls clause some.0 some.1)
      (sym (ap (fault_in earlier clause) some.1) ∙ e)
]

-- what holds of a clause without a fault
pub clause_fault-none : (decls : List Decl) (earlier : List Clause) (clause : Clause)
    → clause_fault decls earlier clause ≡ None → HasNoClauseFault decls earlier clause
unfolding clause_fault decl_fault
clause_fault-none decls earlier clause e = elim (cases_Option (decl_named decls clause.path)) [
  | inl none ↦ absurd (none-some _ (sym e ∙ ap (fault_in earlier clause) none))
  | inr some ↦
      let decl = some.0 in
      let found = found_by decls clause decl some.1 in
      let first = both_none _ _ (sym (ap (fault_in earlier clause) some.1) ∙ e) in
      let second = both_none _ _ first.1 in
      record {
        decl = decl;
        dims = picked_dims decl (picked_by decl clause.path);
        named = found.named;
        has = found.has;
        rank = HasRank-ranked _ _ clause first.0;
        range = range_fault-none _ _ _ _ second.0;
        agrees = conflict_fault-none decl earlier clause second.1;
      }
]

-- What the faults of rank and range say of slabs, and what holds of slabs without one.
use Rattle.std.proofs.Common.{◌≡◌, ◌≢◌, ℕ, zero, suc, ◌+◌, ◌<◌, true, ◌||◌, ◌==◌, List, [], ◌∷◌, length, slice_get, Some, None, refl, sym, ap, subst, ◌∙◌, inl, inr, arith}
use Rattle.std.proofs.lemmas.Bool.{cases_Bool, cond-true, cond-false, and_parts, and_from, or_parts, true≢false, eq-eqb, le-leb, lt-ltb, leb-true, ltb-true}
use Rattle.std.proofs.lemmas.Option.{none-some, same_Some}
use Rattle.nc_model.specs.declared.header.Dim.{Dim}
use Rattle.dap_model.specs.ClauseFaults.{rank_fault, is_within, range_fault}
use Rattle.dap_model.specs.FaultFacts.{HasRank, LiesBelow, LieWithin, IsFirstOutside}
use Rattle.dap_model.specs.declared.fault.ProjectFault.{ProjectFault}
use Rattle.dap_model.specs.declared.fault.ProjectFault.TheVariants.{SlabRank, SlabRange}
use Rattle.dap_model.specs.declared.projection.Clause.{Clause}
use Rattle.dap_model.specs.declared.projection.Slab.{Slab}
use Rattle.dap_model.proofs.ProjectionFitLemmas.{ranked}

below_from_test : (size : ℕ) (slab : Slab) → is_within size slab ≡ true → LiesBelow size slab
unfolding is_within
below_from_test size slab t =
    let tests = and_parts _ _ t in
    let front = and_parts _ _ tests.0 in
    record {
      stride = leb-true 1 slab.stride front.0;
      ordered = leb-true slab.start slab.stop front.1;
      below = ltb-true slab.stop size tests.1;
    }

test_from_below : (size : ℕ) (slab : Slab) → LiesBelow size slab → is_within size slab ≡ true
unfolding is_within
test_from_below size slab lies =
    and_from _ _ (and_from _ _ (le-leb 1 slab.stride lies.stride) (le-leb slab.start slab.stop lies.ordered))
    (lt-ltb slab.stop size lies.below)

-- no slab, or one for each dimension
none_if_empty : (slabs : List Slab) → length slabs ≡ 0 → slabs ≡ []
none_if_empty [] e = refl
none_if_empty (slab ∷ slabs) e = absurd (omega arith)

pub HasRank-ranked : (name : List ℕ) (dims : List Dim) (clause : Clause) → rank_fault name dims clause.slabs ≡ None
    → HasRank dims clause
HasRank-ranked name dims clause e = elim (ranked name dims clause.slabs e) [
  | inl empty ↦ inl (none_if_empty clause.slabs empty)
  | inr same ↦ inr same
]

-- what a fault of rank says
pub record RankFault (name : List ℕ) (dims : List Dim) (slabs : List Slab) (fault : ProjectFault) : Type 0 where
  pub fault_is : SlabRank name (length slabs) (length dims) ≡ fault
  pub some : length slabs ≢ 0
  pub apart : length slabs ≢ length dims

pub rank_fault-some : (name : List ℕ) (dims : List Dim) (slabs : List Slab) (fault : ProjectFault)
    → rank_fault name dims slabs ≡ Some fault → RankFault name dims slabs fault
unfolding rank_fault
rank_fault-some name dims slabs fault e = elim (cases_Bool (length slabs == 0 || length slabs == length dims)) [
  | inl t ↦ absurd (none-some fault (sym (cond-true _ _ _ t) ∙ e))
  | inr f ↦
      let parts = or_parts _ _ f in
      record {
        fault_is = same_Some _ _ (sym (cond-false _ _ _ f) ∙ e);
        some = λ empty. true≢false (sym (eq-eqb _ _ empty) ∙ parts.0);
        apart = λ same. true≢false (sym (eq-eqb _ _ same) ∙ parts.1);
      }
]

-- one more slab within its dimension in front
one_more_within : (dim : Dim) (dims : List Dim) (slab : Slab) (slabs : List Slab) → LiesBelow dim.size slab
    → LieWithin dims slabs
    → LieWithin (dim ∷ dims) (slab ∷ slabs)
one_more_within dim dims slab slabs first others zero d s dim_is slab_is =
    subst (λ (other : Dim). LiesBelow other.size s) (same_Some dim d dim_is)
    (subst (LiesBelow dim.size) (same_Some slab s slab_is) first)
one_more_within dim dims slab slabs first others (suc index) d s dim_is slab_is = others index d s dim_is slab_is

-- slabs without a fault of range lie within their dimensions
pub range_fault-none : (name : List ℕ) (index : ℕ) (dims : List Dim) (slabs : List Slab)
    → range_fault name index dims slabs ≡ None → LieWithin dims slabs
unfolding range_fault
range_fault-none name index [] slabs e k dim slab dim_is slab_is = absurd (none-some dim dim_is)
range_fault-none name index (first ∷ dims) [] e k dim slab dim_is slab_is = absurd (none-some slab slab_is)
range_fault-none name index (first ∷ dims) (slab ∷ slabs) e k dim other dim_is slab_is =
    elim (cases_Bool (is_within first.size slab)) [
      | inl t ↦
          one_more_within first dims slab slabs (below_from_test first.size slab t)
          (range_fault-none name (index + 1) dims slabs (sym (cond-true _ _ _ t) ∙ e)) k dim other dim_is slab_is
      | inr f ↦ absurd (none-some _ (sym e ∙ cond-false _ _ _ f))
    ]

-- what a fault of range says, of dimensions from this one on
pub record RangeFault (name : List ℕ) (from : ℕ) (dims : List Dim) (slabs : List Slab) (fault : ProjectFault)
    : Type 0 where
  pub index : ℕ
  pub size : ℕ
  pub fault_is : SlabRange name (from + index) size ≡ fault
  pub outside : IsFirstOutside dims slabs index size

within_before : (dim : Dim) (dims : List Dim) (slab : Slab) (slabs : List Slab) (index : ℕ) → LiesBelow dim.size slab
    → ((before : ℕ) (d : Dim) (s : Slab) → before < index → slice_get dims before ≡ Some d
    → slice_get slabs before ≡ Some s → LiesBelow d.size s)
    → (before : ℕ) (d : Dim) (s : Slab) → before < suc index → slice_get (dim ∷ dims) before ≡ Some d
    → slice_get (slab ∷ slabs) before ≡ Some s → LiesBelow d.size s
within_before dim dims slab slabs index first others zero d s below dim_is slab_is =
    subst (λ (other : Dim). LiesBelow other.size s) (same_Some dim d dim_is)
    (subst (LiesBelow dim.size) (same_Some slab s slab_is) first)
within_before dim dims slab slabs index first others (suc before) d s below dim_is slab_is =
    others before d s (omega arith) dim_is slab_is

pub range_fault-some : (name : List ℕ) (from : ℕ) (dims : List Dim) (slabs : List Slab) (fault : ProjectFault)
    → range_fault name from dims slabs ≡ Some fault → RangeFault name from dims slabs fault
unfolding range_fault
range_fault-some name from [] slabs fault e = absurd (none-some fault e)
range_fault-some name from (dim ∷ dims) [] fault e = absurd (none-some fault e)
range_fault-some name from (dim ∷ dims) (slab ∷ slabs) fault e = elim (cases_Bool (is_within dim.size slab)) [
  | inl t ↦
      let s = range_fault-some name (from + 1) dims slabs fault (sym (cond-true _ _ _ t) ∙ e) in
      record {
        index = suc s.index;
        size = s.size;
        fault_is = ap (λ (n : ℕ). SlabRange name n s.size) (omega arith) ∙ s.fault_is;
        outside = record {
          dim = s.outside.dim;
          slab = s.outside.slab;
          dim_is = s.outside.dim_is;
          slab_is = s.outside.slab_is;
          size_is = s.outside.size_is;
          outside = s.outside.outside;
          others = within_before dim dims slab slabs s.index (below_from_test dim.size slab t) s.outside.others;
        };
      }
  | inr f ↦ record {
    index = 0;
    size = dim.size;
    fault_is = ap (λ (n : ℕ). SlabRange name n dim.size) (omega arith) ∙ same_Some _ _ (sym (cond-false _ _ _ f) ∙ e);
    outside = record {
      dim = dim;
      slab = slab;
      dim_is = refl;
      slab_is = refl;
      size_is = refl;
      outside = λ lies. true≢false (sym (test_from_below dim.size slab lies) ∙ f);
      others = λ before d s below. absurd (omega arith);
    };
  }
]

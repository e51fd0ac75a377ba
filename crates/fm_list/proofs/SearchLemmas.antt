-- The index of a time that a search finds.
use Rattle.std.proofs.Common.{◌≡◌, ◌≢◌, ℕ, zero, suc, ◌<◌, ◌≤◌, ◌≤ℤ◌, ◌<ℤ◌, inl, inr, Bool, true, false, List, [], ◌∷◌, length, get_or, None, Some, ℤ, refl, sym, ap, ◌∙◌, arith}
use Rattle.std.specs.Prelude.{AllPairs, nat_lt, position, slice_get}
use Rattle.std.specs.Cmp.{signed_Decides}
use Rattle.std.specs.List.{list_any, position_or_len}
use Rattle.std.specs.List.Sorted.{IsNonDecreasingBy, IsPartitionPoint}
use Rattle.std.specs.Ordering.{int_cmp, int_eq, ordering_index}
use Rattle.std.specs.declared.cmp.Ordering.{Ordering}
use Rattle.std.specs.declared.cmp.Ordering.TheVariants.{Less, Equal, Greater}
use Rattle.std.proofs.lemmas.Bool.{cases_order}
use Rattle.std.proofs.lemmas.Bool.Decides.{nat_tests}
use Rattle.std.proofs.lemmas.Cmp.{int_ranked}
use Rattle.std.proofs.lemmas.Int.{ints}
use Rattle.std.proofs.lemmas.List.Folds.{list_any_at, Any-from_list_any}
use Rattle.std.proofs.lemmas.Option.{none-some, same_Some, slice_get-get_or}
use Rattle.fm_model.specs.Rising.{Rises}
use Rattle.fm_list.proofs.CellSteps.{below_length}
use Rattle.fm_model.proofs.CellLemmas.{in_from_slice_get}
use Rattle.fm_model.proofs.Members.{Each-in, EachPair, each_from_AllPairs}

-- the time at an index that a search gives
pub found_at : (times : List ℤ) (index : ℕ) (valid : ℤ) → index < length times
    → ((d : ℤ) → int_cmp (get_or times index d) valid ≡ Equal) → slice_get times index ≡ Some valid
found_at times index valid within here = slice_get-get_or times index valid within
    ∙ ap Some (int_ranked (get_or times index valid) valid Equal (sym (here valid)))

abbrev Apart : ℤ → ℤ → Type 0
Apart time other = time ≢ other

-- the index of a time among times that differ is the first
first_is : (valid : ℤ) (times : List ℤ) (index : ℕ) → EachPair Apart times → slice_get times index ≡ Some valid
    → (position_or_len (λ time. int_eq time valid) times ≡ index) × (index < length times)
first_is valid [] index differ here = absurd (none-some valid here)
first_is valid (time ∷ times) zero differ here =
    (rw ((signed_Decides time valid).1 (same_Some time valid here)) refl, omega arith)
first_is valid (time ∷ times) (suc index) differ here =
    let more = first_is valid times index differ.1 here in
    let other = by_test (int_eq time valid) refl in
    (rw (other, more.0) (omega arith), omega (arith, more.1))
  where
    by_test : (b : Bool) → int_eq time valid ≡ b → int_eq time valid ≡ false
    by_test false is = is
    by_test true is = absurd (Each-in (Apart time) valid times differ.0 (in_from_slice_get times index valid here)
        ((signed_Decides time valid).0 is))

pub position_is : (times : List ℤ) (index : ℕ) (valid : ℤ) → AllPairs (λ (time other : ℤ). time ≢ other) times
    → slice_get times index ≡ Some valid → Some index ≡ position (λ time. int_eq time valid) times
position_is times index valid differ here =
    let first = first_is valid times index (each_from_AllPairs Apart times differ) here in
    let within : nat_lt index (length times) ≡ true = grind (arith, nat_tests, first.1) in
    rw (first.0, within) refl

-- where no time passes, there is no first index
pub position-nowhere : (times : List ℤ) (valid : ℤ) → false ≡ list_any (λ time. int_eq time valid) times
    → None ≡ position (λ time. int_eq time valid) times
position-nowhere times valid none = rw (below_length (λ time. int_eq time valid) times ∙ sym none) refl

-- an instant at an index that a search gives is among the others
pub among_there : (own : List ℤ) (index : ℕ) (key : ℤ) → index < length own
    → ((d : ℤ) → int_cmp (get_or own index d) key ≡ Equal) → true ≡ list_any (λ other. int_eq other key) own
among_there own index key within here = sym (list_any_at (λ other. int_eq other key) own index key within
    ((signed_Decides (get_or own index key) key).1 (int_ranked (get_or own index key) key Equal (sym (here key)))))

-- a later instant compares no lower
compares : (a b key : ℤ) → a ≤ℤ b → ordering_index (int_cmp a key) ≤ ordering_index (int_cmp b key)
compares a b key le = by_cmp (int_cmp a key) refl (int_cmp b key) refl
  where
    by_cmp : (o : Ordering) → int_cmp a key ≡ o → (p : Ordering) → int_cmp b key ≡ p
        → ordering_index (int_cmp a key) ≤ ordering_index (int_cmp b key)
    by_cmp Less is p at = rw is (omega arith)
    by_cmp Equal is Less at =
        let same : a ≡ key = int_ranked a key Equal (sym is) in
        let lower : b <ℤ key = int_ranked b key Less (sym at) in
        absurd (omega (arith, ints, le))
    by_cmp Equal is Equal at = rw (is, at) (omega arith)
    by_cmp Equal is Greater at = rw (is, at) (omega arith)
    by_cmp Greater is Less at =
        let higher : key <ℤ a = int_ranked a key Greater (sym is) in
        let lower : b <ℤ key = int_ranked b key Less (sym at) in
        absurd (omega (arith, ints, le))
    by_cmp Greater is Equal at =
        let higher : key <ℤ a = int_ranked a key Greater (sym is) in
        let same : b ≡ key = int_ranked b key Equal (sym at) in
        absurd (omega (arith, ints, le))
    by_cmp Greater is Greater at = rw (is, at) (omega arith)

never_falls : (own : List ℤ) (key : ℤ) → Rises own → IsNonDecreasingBy (λ y. ordering_index (int_cmp y key)) own
never_falls own key rises i j d le within = elim (cases_order i j) [
  | inl same ↦ compares (get_or own i d) (get_or own j d) key (at_most (get_or own i d) (get_or own j d)
      (ap (λ k. get_or own k d) same))
  | inr (inl before) ↦
      let less : get_or own i d <ℤ get_or own j d = rises i j d before within in
      compares (get_or own i d) (get_or own j d) key (omega (arith, ints))
  | inr (inr after) ↦ absurd (omega (arith, after, le))
]
  where
    at_most : (a b : ℤ) → a ≡ b → a ≤ℤ b
    at_most a b e = omega (arith, ints)

-- where a search finds nothing among rising instants, there is nothing
pub among_nowhere : (own : List ℤ) (index : ℕ) (key : ℤ) → Rises own
    → (IsNonDecreasingBy (λ y. ordering_index (int_cmp y key)) own
    → IsPartitionPoint (λ y. int_cmp y key ≡ Less) (λ y. int_cmp y key ≡ Greater) own index)
    → false ≡ list_any (λ other. int_eq other key) own
among_nowhere own index key rises parted = by_test (list_any (λ other. int_eq other key) own) refl
  where
    apart_less : (a : ℤ) → a ≡ key → int_cmp a key ≡ Less → ⊥
    apart_less a same e = let less : a <ℤ key = int_ranked a key Less (sym e) in omega (arith, ints)

    apart_greater : (a : ℤ) → a ≡ key → int_cmp a key ≡ Greater → ⊥
    apart_greater a same e = let more : key <ℤ a = int_ranked a key Greater (sym e) in omega (arith, ints)

    by_test : (b : Bool) → list_any (λ other. int_eq other key) own ≡ b
        → false ≡ list_any (λ other. int_eq other key) own
    by_test false is = sym is
    by_test true is =
        let any = Any-from_list_any (λ other. int_eq other key) own is in
        let here = get_or own any.0 any.1 in
        let same : here ≡ key = any.3 ∙ (signed_Decides any.1 key).0 any.4 in
        let parts = parted (never_falls own key rises) in
        absurd (elim (cases_order any.0 index) [
          | inl at ↦ apart_greater here same (parts.1 any.0 any.1 (omega (arith, at)) any.2)
          | inr (inl before) ↦ apart_less here same (parts.0 any.0 any.1 (omega arith) before)
          | inr (inr after) ↦ apart_greater here same (parts.1 any.0 any.1 (omega (arith, after)) any.2)
        ])

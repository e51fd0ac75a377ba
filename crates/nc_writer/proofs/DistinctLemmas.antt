-- The names of dimensions and of variables of a file differ, and a fact of each that is added holds of all.
use Rattle.std.proofs.Common.{◌≡◌, false, List, [], ◌∷◌, ◌++◌, ℕ, map, find, Option, Some, None, Ok, inl, inr, refl, sym, ap, subst, ◌∙◌}
use Rattle.std.specs.Prelude.{◌==◌}
use Rattle.std.specs.List.{list_any, AllByRecursion}
use Rattle.std.specs.Option.{option_map}
use Rattle.std.specs.Str.{bytes_eq}
use Rattle.std.proofs.lemmas.Bool.{cases_Bool, cond-false, cond-true}
use Rattle.std.proofs.lemmas.Cmp.{nat_list_eq_equiv}
use Rattle.std.proofs.lemmas.List.{map-append}
use Rattle.std.proofs.lemmas.Map.Keys.{IsDistinct-push}
use Rattle.std.proofs.lemmas.Option.{none-some}
use Rattle.fm_base.proofs.ChainLemmas.{same_Ok, step_ok}
use Rattle.nc_model.specs.declared.header.Dim.{Dim}
use Rattle.nc_model.specs.Spelling.{AreDistinct}
use Rattle.nc_writer.specs.declared.fault.WriteFault.{WriteFault}
use Rattle.nc_writer.specs.declared.variable.Variable.{Variable}
use Rattle.nc_writer.specs.Dims.{add_dim, add_dims, add_known, dims_from, has_size, is_named}

-- a name that is not found is none of the names
apart : {A : Type 0} (name : A → List ℕ) (xs : List A) (wanted : List ℕ)
    → find (λ x. bytes_eq (name x) wanted) xs ≡ None → list_any (bytes_eq wanted) (map name xs) ≡ false
apart name [] wanted none = refl
apart name (x ∷ xs) wanted none = elim (cases_Bool (bytes_eq (name x) wanted)) [
  | inl named ↦ absurd (none-some x (sym none ∙ cond-true _ _ _ named))
  | inr other ↦
      let turned : bytes_eq wanted (name x) ≡ false = nat_list_eq_equiv.symm wanted (name x) ∙ other in
      rw turned (apart name xs wanted (sym (cond-false _ _ _ other) ∙ none))
]

-- names differ, and a fact holds of each item
pub record AreGood {A : Type 0} (name : A → List ℕ) (P : A → Type 0) (xs : List A) : Type 0 where
  pub distinct : AreDistinct (map name xs)
  pub each : AllByRecursion P xs

each-push : {A : Type 0} (P : A → Type 0) (xs : List A) (x : A) → AllByRecursion P xs → P x
    → AllByRecursion P (xs ++ x ∷ [])
each-push P [] x each fact = (fact, tt)
each-push P (y ∷ xs) x each fact = (each.0, each-push P xs x each.1 fact)

pub good-push : {A : Type 0} (name : A → List ℕ) (P : A → Type 0) (xs : List A) (x : A) → AreGood name P xs → P x
    → find (λ y. bytes_eq (name y) (name x)) xs ≡ None → AreGood name P (xs ++ x ∷ [])
good-push name P xs x good fact none = record {
  distinct = subst AreDistinct (sym (map-append name xs (x ∷ [])))
      (IsDistinct-push nat_list_eq_equiv (map name xs) (name x) good.distinct (apart name xs (name x) none));
  each = each-push P xs x good.each fact;
}

-- the name of a dimension, and of a variable
abbrev pub dim_name : Dim → List ℕ
dim_name dim = dim.name

abbrev pub variable_name : Variable → List ℕ
variable_name variable = variable.name

module _ (P : Dim → Type 0) where
  good-dim : (found next : List Dim) (dim : Dim) → AreGood dim_name P found → P dim → add_dim found dim ≡ Ok next
      → AreGood dim_name P next
  unfolding add_dim has_size
  good-dim found next dim good fact is = by_found (find (is_named dim.name) found) refl is
    where
      by_found : (o : Option Dim) → find (is_named dim.name) found ≡ o
          → add_known found dim (option_map (λ (d : Dim). d.size == dim.size) o) ≡ Ok next
          → AreGood dim_name P next
      by_found None none e =
          subst (AreGood dim_name P) (same_Ok {E = WriteFault} (found ++ dim ∷ []) next e)
          (good-push dim_name P found dim good fact none)
      by_found (Some other) some e = elim (cases_Bool (other.size == dim.size)) [
        | inl same ↦
            subst (AreGood dim_name P)
            (same_Ok {E = WriteFault} found next (sym (ap (λ b. add_known found dim (Some b)) same) ∙ e)) good
        | inr differ ↦ absurd (let bad = sym (ap (λ b. add_known found dim (Some b)) differ) ∙ e in cc)
      ]

  good-dims : (found next dims : List Dim) → AreGood dim_name P found → AllByRecursion P dims
      → add_dims found dims ≡ Ok next → AreGood dim_name P next
  unfolding add_dims
  good-dims found next [] good facts is = subst (AreGood dim_name P) (same_Ok {E = WriteFault} found next is) good
  good-dims found next (dim ∷ dims) good facts is =
      let step = step_ok (add_dim found dim) (λ l. add_dims l dims) next is in
      good-dims step.0 next dims (good-dim found step.0 dim good facts.0 step.1) facts.1 step.2

  pub good-from : (found next : List Dim) (variables : List Variable) → AreGood dim_name P found
      → AllByRecursion (λ (variable : Variable). AllByRecursion P variable.dims) variables
      → dims_from found variables ≡ Ok next → AreGood dim_name P next
  unfolding dims_from
  good-from found next [] good facts is = subst (AreGood dim_name P) (same_Ok {E = WriteFault} found next is) good
  good-from found next (variable ∷ variables) good facts is =
      let step = step_ok (add_dims found variable.dims) (λ l. dims_from l variables) next is in
      good-from step.0 next variables (good-dims found step.0 variable.dims good facts.0 step.1) facts.1 step.2

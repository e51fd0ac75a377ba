-- Each dimension of each variable is among the dimensions of a file, with its own size.
use Rattle.std.proofs.Common.{◌≡◌, ℕ, suc, true, false, List, [], ◌∷◌, ◌++◌, find, slice_get, Option, Some, None, Ok, inl, inr, refl, sym, ap, ap₂, subst, ◌∙◌, arith}
use Rattle.std.specs.Prelude.{◌==◌}
use Rattle.std.specs.List.{AllByRecursion}
use Rattle.std.specs.Option.{option_map}
use Rattle.std.proofs.lemmas.Bool.{cases_Bool, cond-false, cond-true, eqb-true}
use Rattle.std.proofs.lemmas.Option.{none-some, same_Some}
use Rattle.fm_base.proofs.ChainLemmas.{same_Ok, step_ok}
use Rattle.fm_base.proofs.ListLemmas.{bytes_same, same_bytes}
use Rattle.nc_model.specs.declared.header.Dim.{Dim}
use Rattle.nc_writer.specs.declared.fault.WriteFault.{WriteFault}
use Rattle.nc_writer.specs.declared.variable.Variable.{Variable}
use Rattle.nc_writer.specs.Dims.{add_dim, add_dims, add_known, dim_number, dims_from, has_size, is_named}

-- the dimension of this one's name is this one
abbrev pub Covers : List Dim → Dim → Type 0
Covers dims dim = slice_get dims (dim_number dims dim.name) ≡ Some dim

-- what was covered stays covered
abbrev pub Grows : List Dim → List Dim → Type 0
Grows found next = (dim : Dim) → Covers found dim → Covers next dim

-- the number of a name, by the first dimension
number-here : (name : List ℕ) (first : Dim) (dims : List Dim) → is_named name first ≡ true
    → dim_number (first ∷ dims) name ≡ 0
number-here name first dims is = rw is refl

number-later : (name : List ℕ) (first : Dim) (dims : List Dim) → is_named name first ≡ false
    → dim_number (first ∷ dims) name ≡ suc (dim_number dims name)
number-later name first dims is = rw is (omega arith)

at-later : (dims : List Dim) (first dim : Dim) → is_named dim.name first ≡ false
    → slice_get (first ∷ dims) (dim_number (first ∷ dims) dim.name) ≡ slice_get dims (dim_number dims dim.name)
at-later dims first dim other = ap (slice_get (first ∷ dims)) (number-later dim.name first dims other)

at-here : (dims : List Dim) (first dim : Dim) → is_named dim.name first ≡ true
    → slice_get (first ∷ dims) (dim_number (first ∷ dims) dim.name) ≡ Some first
at-here dims first dim is = ap (slice_get (first ∷ dims)) (number-here dim.name first dims is)

-- a dimension that was added
covers-new : (found : List Dim) (dim : Dim) → find (is_named dim.name) found ≡ None → Covers (found ++ dim ∷ []) dim
covers-new [] dim none = at-here [] dim dim (same_bytes dim.name dim.name refl)
covers-new (first ∷ found) dim none = elim (cases_Bool (is_named dim.name first)) [
  | inl named ↦ absurd (none-some first (sym none ∙ cond-true _ _ _ named))
  | inr other ↦
      at-later (found ++ dim ∷ []) first dim other
      ∙ covers-new found dim (sym (cond-false _ _ _ other) ∙ none)
]

-- a dimension that was there
covers-known : (found : List Dim) (dim other : Dim) → find (is_named dim.name) found ≡ Some other
    → other.size ≡ dim.size → Covers found dim
covers-known [] dim other some same = absurd (none-some other some)
covers-known (first ∷ found) dim other some same = elim (cases_Bool (is_named dim.name first)) [
  | inl named ↦
      let is : first ≡ other = same_Some first other (sym (cond-true _ _ _ named) ∙ some) in
      let name : first.name ≡ dim.name = bytes_same first.name dim.name named in
      let size : first.size ≡ dim.size = ap (λ (d : Dim). d.size) is ∙ same in
      at-here found first dim named
      ∙ ap₂ (λ (n : List ℕ) (s : ℕ). Some (record { name = n; size = s })) name size
  | inr apart ↦
      at-later found first dim apart
      ∙ covers-known found dim other (sym (cond-false _ _ _ apart) ∙ some) same
]

covers-more : (found more : List Dim) → Grows found (found ++ more)
covers-more [] more dim covers = absurd (none-some dim covers)
covers-more (first ∷ found) more dim covers = elim (cases_Bool (is_named dim.name first)) [
  | inl named ↦
      at-here (found ++ more) first dim named ∙ sym (at-here found first dim named) ∙ covers
  | inr other ↦
      at-later (found ++ more) first dim other
      ∙ covers-more found more dim (sym (at-later found first dim other) ∙ covers)
]

-- what a dimension more leaves: it is covered, and so is what was
pub record Added (found next : List Dim) (dim : Dim) : Type 0 where
  pub covers : Covers next dim
  pub grows : Grows found next

pub added : (found next : List Dim) (dim : Dim) → add_dim found dim ≡ Ok next → Added found next dim
unfolding add_dim has_size
added found next dim is = by_found (find (is_named dim.name) found) refl is
  where
    by_found : (o : Option Dim) → find (is_named dim.name) found ≡ o
        → add_known found dim (option_map (λ (d : Dim). d.size == dim.size) o) ≡ Ok next → Added found next dim
    by_found None none e =
        subst (λ (l : List Dim). Added found l dim) (same_Ok {E = WriteFault} (found ++ dim ∷ []) next e)
        (record { covers = covers-new found dim none; grows = covers-more found (dim ∷ []) })
    by_found (Some other) some e = elim (cases_Bool (other.size == dim.size)) [
      | inl same ↦
          subst (λ (l : List Dim). Added found l dim)
          (same_Ok {E = WriteFault} found next (sym (ap (λ b. add_known found dim (Some b)) same) ∙ e))
          (record {
            covers = covers-known found dim other some (eqb-true other.size dim.size same);
            grows = λ d covers. covers;
          })
      | inr differ ↦ absurd (let bad = sym (ap (λ b. add_known found dim (Some b)) differ) ∙ e in cc)
    ]

-- dimensions more
pub record AddedAll (found next dims : List Dim) : Type 0 where
  pub covers : AllByRecursion (Covers next) dims
  pub grows : Grows found next

pub added-all : (found next dims : List Dim) → add_dims found dims ≡ Ok next → AddedAll found next dims
unfolding add_dims
added-all found next [] is =
    subst (λ (l : List Dim). AddedAll found l []) (same_Ok {E = WriteFault} found next is)
    (record { covers = tt; grows = λ d covers. covers })
added-all found next (dim ∷ dims) is =
    let step = step_ok (add_dim found dim) (λ l. add_dims l dims) next is in
    let first = added found step.0 dim step.1 in
    let rest = added-all step.0 next dims step.2 in
    record {
      covers = (rest.grows dim first.covers, rest.covers);
      grows = λ d covers. rest.grows d (first.grows d covers);
    }

grown : (found next : List Dim) (dims : List Dim) → Grows found next → AllByRecursion (Covers found) dims
    → AllByRecursion (Covers next) dims
grown found next [] grows all = tt
grown found next (dim ∷ dims) grows all = (grows dim all.0, grown found next dims grows all.1)

-- all dimensions of these variables are covered
abbrev pub CoversAll : List Dim → List Variable → Type 0
CoversAll dims variables =
    AllByRecursion (λ (variable : Variable). AllByRecursion (Covers dims) variable.dims) variables

pub record AddedVars (found next : List Dim) (variables : List Variable) : Type 0 where
  pub covers : CoversAll next variables
  pub grows : Grows found next

pub added-vars : (found next : List Dim) (variables : List Variable) → dims_from found variables ≡ Ok next
    → AddedVars found next variables
unfolding dims_from
added-vars found next [] is =
    subst (λ (l : List Dim). AddedVars found l []) (same_Ok {E = WriteFault} found next is)
    (record { covers = tt; grows = λ d covers. covers })
added-vars found next (variable ∷ variables) is =
    let step = step_ok (add_dims found variable.dims) (λ l. dims_from l variables) next is in
    let first = added-all found step.0 variable.dims step.1 in
    let rest = added-vars step.0 next variables step.2 in
    record {
      covers = (grown step.0 next variable.dims rest.grows first.covers, rest.covers);
      grows = λ d covers. rest.grows d (first.grows d covers);
    }

-- One dimension, variable or name more, and none left.
use Rattle.std.proofs.Common.{◌≡◌, ℕ, ◌+◌, ◌<◌, ◌≤◌, List, ◌∷◌, length, get_or, drop, Ok, sym, ap, ◌∙◌}
use Rattle.std.proofs.lemmas.List.{drop_all, drop_more}
use Rattle.fm_base.specs.Chain.{◌>>=◌, ◌>>◌}
use Rattle.nc_model.specs.declared.header.Dim.{Dim}
use Rattle.nc_writer.specs.declared.variable.Variable.{Variable}
use Rattle.nc_writer.specs.Dims.{add_dim, add_dims, dims_from, name_free, names_free}

-- what is left of a list, by its first item
pub left : {A : Type 0} (xs : List A) (at : ℕ) (x : A) → at < length xs → x ≡ get_or xs at x
    → drop at xs ≡ x ∷ drop (at + 1) xs
left xs at x within is = drop_more xs at x within ∙ ap (λ y. y ∷ drop (at + 1) xs) (sym is)

pub add_dims-turn : (found dims : List Dim) (at : ℕ) (dim : Dim) → at < length dims → dim ≡ get_or dims at dim
    → add_dims found (drop at dims) ≡ (add_dim found dim >>= λ next. add_dims next (drop (at + 1) dims))
unfolding add_dims
add_dims-turn found dims at dim within is = ap (add_dims found) (left dims at dim within is)

pub add_dims-done : (found dims : List Dim) (at : ℕ) → length dims ≤ at → add_dims found (drop at dims) ≡ Ok found
unfolding add_dims
add_dims-done found dims at past = ap (add_dims found) (drop_all at dims past)

pub ruleset additions = (add_dims-turn, add_dims-done)

pub dims_from-turn : (found : List Dim) (variables : List Variable) (at : ℕ) (variable : Variable)
    → at < length variables → variable ≡ get_or variables at variable
    → dims_from found (drop at variables)
    ≡ (add_dims found variable.dims >>= λ next. dims_from next (drop (at + 1) variables))
unfolding dims_from
dims_from-turn found variables at variable within is = ap (dims_from found) (left variables at variable within is)

pub dims_from-done : (found : List Dim) (variables : List Variable) (at : ℕ) → length variables ≤ at
    → dims_from found (drop at variables) ≡ Ok found
unfolding dims_from
dims_from-done found variables at past = ap (dims_from found) (drop_all at variables past)

pub ruleset uses = (dims_from-turn, dims_from-done)

pub names_free-turn : (all variables : List Variable) (at : ℕ) (variable : Variable)
    → at < length variables → variable ≡ get_or variables at variable
    → names_free all (drop at variables) ≡ (name_free all variable >> names_free all (drop (at + 1) variables))
unfolding names_free
names_free-turn all variables at variable within is = ap (names_free all) (left variables at variable within is)

pub names_free-done : (all variables : List Variable) (at : ℕ) → length variables ≤ at
    → names_free all (drop at variables) ≡ Ok tt
unfolding names_free
names_free-done all variables at past = ap (names_free all) (drop_all at variables past)

pub ruleset names = (names_free-turn, names_free-done)

-- How long the data of variables is.
use Rattle.std.proofs.Common.{◌≡◌, ℕ, zero, suc, ◌+◌, ◌-◌, ◌^◌, ◌<◌, ◌≤◌, List, [], ◌∷◌, length, get_or, take, All, sym, ap, ap₂, subst, ◌∙◌, arith}
use Rattle.std.specs.List.{sum_by}
use Rattle.std.proofs.Math.Seq.{take-suc}
use Rattle.std.proofs.lemmas.List.{length-append, length-replicate}
use Rattle.std.proofs.lemmas.List.Sums.{sum_by-cons, sum_by_push}
use Rattle.std.proofs.lemmas.Nat.{mul-le}
use Rattle.nc_model.specs.Format.{padded_len}
use Rattle.dap_model.specs.Box.{box_len, HasStride}
use Rattle.dap_model.specs.Xdr.{zeros_after}
use Rattle.dap_slab.specs.Walking.{HasIndex}
use Rattle.fm_dataset.specs.Values.{Shown}
use Rattle.dap_xdr.specs.Content.{Content}
use Rattle.dap_xdr.specs.Datasets.{content_of}
use Rattle.nc_writer.specs.declared.variable.Variable.{Variable}
use Rattle.nc_writer.specs.Data.{data_bytes, data_len, value_len, values_len, values_of}
use Rattle.nc_writer.specs.Facts.{IsVariableOf}
use Rattle.nc_writer.specs.File.{all_data}
use Rattle.nc_writer.proofs.TextLemmas.{few-picked, few-ranks, strides-of}
use Rattle.nc_writer.proofs.ValueLemmas.{length-values_of, value-most}

pub length-zeros : (n : ℕ) → n + length (zeros_after n) ≡ padded_len n
length-zeros n = ap (λ (k : ℕ). n + k) (length-replicate (padded_len n - n) 0) ∙ omega arith

-- the data of a variable
pub length-data : (content : Content) (variable : Variable)
    → length (data_bytes content variable) ≡ data_len variable
unfolding data_bytes data_len
length-data content variable =
    length-append (values_of content variable) (zeros_after (values_len variable))
    ∙ ap (λ (n : ℕ). n + length (zeros_after (values_len variable))) (length-values_of content variable)
    ∙ length-zeros (values_len variable)

-- the data of all variables
pub length-all : (shown : Shown) (variables : List Variable)
    → length (all_data shown variables) ≡ sum_by data_len variables
unfolding all_data
length-all shown [] = omega arith
length-all shown (variable ∷ variables) =
    length-append (data_bytes (content_of shown) variable) (all_data shown variables)
    ∙ ap₂ (λ (m n : ℕ). m + n) (length-data (content_of shown) variable) (length-all shown variables)
    ∙ sym (sum_by-cons data_len variable variables)

-- the slabs of a variable pick fewer than 2^64 index lists
pub few-values : (shown : Shown) (variable : Variable) → IsVariableOf shown variable
    → box_len variable.sent.slabs < 2 ^ 64
few-values shown variable is = few-picked shown variable.sent is.array is.part

-- each of its slabs has a stride and picks an index, and they are few
pub variable-strides : (shown : Shown) (variable : Variable) → IsVariableOf shown variable
    → All HasStride variable.sent.slabs
variable-strides shown variable is = strides-of shown variable.sent is.array is.part

pub variable-indices : (shown : Shown) (variable : Variable) → IsVariableOf shown variable
    → All HasIndex variable.sent.slabs
variable-indices shown variable is = is.part.some

pub variable-ranks : (shown : Shown) (variable : Variable) → IsVariableOf shown variable
    → length variable.sent.slabs ≤ 1025
variable-ranks shown variable is = few-ranks shown variable.sent is.array is.part

pub ruleset slabs = (few-values, variable-strides, variable-indices, variable-ranks)

pub values-small : (shown : Shown) (variable : Variable) → IsVariableOf shown variable
    → values_len variable < 2 ^ 97
unfolding values_len
values-small shown variable is =
    let count : box_len variable.sent.slabs ≤ 2 ^ 64 = let few = few-values shown variable is in omega (arith, few) in
    let width : value_len variable.kind variable.width ≤ 2 ^ 32 =
    let most = value-most shown variable is in omega (arith, most) in
    omega (
      arith,
      mul-le (box_len variable.sent.slabs) (value_len variable.kind variable.width) (2 ^ 64) (2 ^ 32) count width,
    )

-- the first variables, and one more
pub sum-more : (variables : List Variable) (at len : ℕ) (variable : Variable) → at < length variables
    → variable ≡ get_or variables at variable → len ≡ data_len variable
    → sum_by data_len (take (at + 1) variables) ≡ sum_by data_len (take at variables) + len
sum-more variables at len variable within is len_is =
    let next : at + 1 ≡ suc at = omega arith in
    ap (λ (n : ℕ). sum_by data_len (take n variables)) next
    ∙ ap (sum_by data_len) (take-suc variables at variable within)
    ∙ sum_by_push data_len (take at variables) (get_or variables at variable)
    ∙ ap (λ (n : ℕ). sum_by data_len (take at variables) + n)
    (ap data_len (sym is) ∙ sym len_is)

-- what holds of each variable holds of the one at an index
pub each-at : {A : Type 0} (P : A → Type 0) (xs : List A) (at : ℕ) (x : A) → All P xs → at < length xs
    → x ≡ get_or xs at x → P x
each-at P xs at x each within is = subst P (sym is) (each at x within)

-- the data of a variable is no longer than that of all
pub data-least : (shown : Shown) (variables : List Variable) (at : ℕ) (variable : Variable)
    → at < length variables → variable ≡ get_or variables at variable
    → data_len variable ≤ length (all_data shown variables)
data-least shown variables at variable within is =
    omega (arith, length-all shown variables, least variables at within is)
  where
    least : (variables : List Variable) (at : ℕ) → at < length variables
        → variable ≡ get_or variables at variable → data_len variable ≤ sum_by data_len variables
    least [] at within is = absurd (omega arith)
    least (first ∷ variables) zero within is =
        omega (arith, ap data_len is, sum_by-cons data_len first variables)
    least (first ∷ variables) (suc at) within is =
        omega (arith, least variables at (omega arith) is, sum_by-cons data_len first variables)

pub values-least : (variable : Variable) → values_len variable ≤ data_len variable
unfolding data_len
values-least variable = omega arith

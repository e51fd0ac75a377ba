-- How the parts of a header are written one after the other.
use Rattle.std.proofs.Common.{◌≡◌, ℕ, suc, ◌+◌, ◌*◌, ◌^◌, ◌<◌, ◌≤◌, List, [], ◌∷◌, ◌++◌, length, get_or, drop, refl, sym, ap, ◌∙◌, append_assoc, append-nil, arith}
use Rattle.std.specs.List.{flat_map}
use Rattle.std.proofs.lemmas.List.{drop_all, length-map}
use Rattle.nc_model.specs.declared.header.Dim.{Dim}
use Rattle.fm_gen.specs.Fields.{counted, shape_text, var_front, word}
use Rattle.fm_dataset.specs.Values.{Shown}
use Rattle.nc_writer.specs.declared.variable.Variable.{Variable}
use Rattle.nc_writer.specs.Data.{data_len}
use Rattle.nc_writer.specs.Dims.{dim_number}
use Rattle.nc_writer.specs.Header.{ids_of, placed_at, placed_bytes, placed_from}
use Rattle.nc_writer.proofs.DimLemmas.{left}

-- a variable has as many numbers of dimensions as dimensions
pub length-ids_of : (dims own : List Dim) → length (ids_of dims own) ≡ length own
unfolding ids_of
length-ids_of dims own = length-map own (λ (dim : Dim). dim_number dims dim.name)

-- what stands before a variable's attributes is its name, its rank and the numbers of its dimensions
pub front-written : (name : List ℕ) (dims own : List Dim) (old first second third : List ℕ)
    → first ≡ old ++ counted name → second ≡ first ++ word (length own)
    → third ≡ second ++ shape_text (ids_of dims own) → third ≡ old ++ var_front name (ids_of dims own)
unfolding var_front
front-written name dims own old first second third named ranked shaped =
    let ids = shape_text (ids_of dims own) in
    shaped
    ∙ ap (λ (l : List ℕ). l ++ ids) (ranked ∙ ap (λ (l : List ℕ). l ++ word (length own)) named)
    ∙ ap (λ (l : List ℕ). l ++ ids) (append_assoc old (counted name) (word (length own)))
    ∙ append_assoc old (counted name ++ word (length own)) ids
    ∙ ap (λ (n : ℕ). old ++ (counted name ++ word n ++ ids)) (sym (length-ids_of dims own))

-- as many variables are placed as there are
pub length-placed_from : (shown : Shown) (dims : List Dim) (begin : ℕ) (variables : List Variable)
    → length (placed_from shown dims begin variables) ≡ length variables
unfolding placed_from
length-placed_from shown dims begin [] = refl
length-placed_from shown dims begin (variable ∷ variables) =
    ap suc (length-placed_from shown dims (begin + data_len variable) variables)

pub ruleset counts = (length-placed_from)

-- the bytes of variables from an offset on
abbrev pub vars_bytes : Shown → ℕ → List Dim → ℕ → List Variable → List ℕ
vars_bytes shown version dims begin variables =
    flat_map (placed_bytes version) (placed_from shown dims begin variables)

-- the variables so far are written, and the data of the next one begins at `at`
pub record VarsSoFar (shown : Shown) (version : ℕ) (dims : List Dim) (variables : List Variable) (begin : ℕ)
    (index at : ℕ) (old now : List ℕ) : Type 0 where
  pub few : at ≤ 2 ^ 64 + index * 2 ^ 98
  pub within : index ≤ length variables
  pub now_is : now ++ vars_bytes shown version dims at (drop index variables)
      ≡ old ++ vars_bytes shown version dims begin variables

pub vars-first : (shown : Shown) (version : ℕ) (dims : List Dim) (variables : List Variable) (begin : ℕ) (old : List ℕ)
    → begin < 2 ^ 64 → VarsSoFar shown version dims variables begin 0 begin old old
vars-first shown version dims variables begin old few =
    record { few = omega (arith, few); within = omega arith; now_is = refl }

pub vars-next : (shown : Shown) (version : ℕ) (dims : List Dim) (variables : List Variable)
    (begin index at len : ℕ) (variable : Variable) (old now next : List ℕ)
    → VarsSoFar shown version dims variables begin index at old now → index < length variables
    → variable ≡ get_or variables index variable → len ≡ data_len variable → len < 2 ^ 98
    → next ≡ now ++ placed_bytes version (placed_at shown dims at variable)
    → VarsSoFar shown version dims variables begin (index + 1) (at + len) old next
unfolding placed_from
vars-next shown version dims variables begin index at len variable old now next so within is len_is small written =
    record {
      few = omega (arith, so.few, small);
      within = omega (arith, within);
      now_is =
          let one = placed_bytes version (placed_at shown dims at variable) in
          let rest = drop (index + 1) variables in
          ap (λ (l : List ℕ). l ++ vars_bytes shown version dims (at + len) rest) written
          ∙ append_assoc now one (vars_bytes shown version dims (at + len) rest)
          ∙ ap (λ (n : ℕ). now ++ (one ++ vars_bytes shown version dims (at + n) rest)) len_is
          ∙ sym (ap (λ (l : List Variable). now ++ vars_bytes shown version dims at l)
          (left variables index variable within is))
          ∙ so.now_is;
    }

pub vars-done : (shown : Shown) (version : ℕ) (dims : List Dim) (variables : List Variable) (begin index at : ℕ)
    (old now : List ℕ) → VarsSoFar shown version dims variables begin index at old now → length variables ≤ index
    → now ≡ old ++ vars_bytes shown version dims begin variables
unfolding placed_from
vars-done shown version dims variables begin index at old now so past =
    sym (append-nil now)
    ∙ sym (ap (λ (l : List Variable). now ++ vars_bytes shown version dims at l) (drop_all index variables past))
    ∙ so.now_is

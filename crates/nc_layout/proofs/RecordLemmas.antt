-- The bytes of one record as sums over all variables.
use Rattle.std.proofs.Common.{◌≡◌, ℕ, ◌+◌, ◌*◌, ◌<◌, ◌≤◌, ◌^◌, Bool, true, false, cond, ltb, List, [], ◌∷◌, ◌++◌, length, get_or, take, sum_by, refl, sym, ap, subst, ◌∙◌, arith, append-nil, length-append}
use Rattle.std.proofs.lemmas.List.Sums.{sum_by-append}
use Rattle.std.proofs.lemmas.List.{take_all}
use Rattle.std.proofs.lemmas.List.Elements.{filter_more}
use Rattle.std.specs.List.{filter}
use Rattle.nc_model.specs.declared.header.Header.{Header}
use Rattle.nc_model.specs.declared.header.NcVar.{NcVar}
use Rattle.nc_model.specs.Format.{padded_len}
use Rattle.nc_model.specs.Kind.{size_of}
use Rattle.nc_model.specs.Layout.{is_record_var, vsize, record_vars, record_size_of, record_size}
use Rattle.nc_layout.specs.Meaning.{IsSmall}

-- how many bytes one record of a variable takes among others, and alone
abbrev pub padded_vsize : Header → NcVar → ℕ
padded_vsize header var = padded_len (vsize header var)

abbrev pub lone_vsize : Header → NcVar → ℕ
lone_vsize header var = cond (ltb (size_of var.kind) 4) (vsize header var) (padded_vsize header var)

-- how many record variables there are among the first variables, and how many bytes they take
pub record KeepsSums (header : Header) (vars : List NcVar) (most count padded lone : ℕ) : Type 0 where
  pub count_is : count ≡ length vars
  pub padded_is : padded ≡ sum_by (padded_vsize header) vars
  pub lone_is : lone ≡ sum_by (lone_vsize header) vars
  pub few : count ≤ most
  pub padded_small : padded ≤ most * 2 ^ 41
  pub lone_small : lone ≤ most * 2 ^ 41

-- the first record variables
abbrev pub first_records : Header → ℕ → List NcVar
first_records header i = filter (is_record_var header) (take i header.vars)

first_records-more : (header : Header) (i : ℕ) (var : NcVar) (b : Bool) → i < length header.vars
    → var ≡ get_or header.vars i var → is_record_var header var ≡ b
    → first_records header (i + 1) ≡ first_records header i ++ cond b (var ∷ []) []
first_records-more header i var b below read is =
    filter_more (is_record_var header) header.vars i var below
    ∙ ap (λ v. first_records header i ++ cond (is_record_var header v) (v ∷ []) []) (sym read)
    ∙ ap (λ c. first_records header i ++ cond c (var ∷ []) []) is

lone-le-padded : (header : Header) (var : NcVar) → lone_vsize header var ≤ vsize header var + 3
lone-le-padded header var = grind arith

-- one record variable more
pub KeepsSums-more_yes : (header : Header) (i count padded lone : ℕ) (var : NcVar)
    → KeepsSums header (first_records header i) i count padded lone
    → i < length header.vars → var ≡ get_or header.vars i var → is_record_var header var ≡ true → IsSmall header var
    → KeepsSums header (first_records header (i + 1)) (i + 1) (count + 1) (padded + padded_vsize header var)
    (lone + lone_vsize header var)
KeepsSums-more_yes header i count padded lone var kept below read is small =
    rw (first_records-more header i var true below read is) (record {
      count_is = let more = length-append (first_records header i) (var ∷ []) in let was = kept.count_is in omega arith;
      padded_is =
          let more = sum_by-append (padded_vsize header) (first_records header i) (var ∷ []) in
          let was = kept.padded_is in omega arith;
      lone_is =
          let more = sum_by-append (lone_vsize header) (first_records header i) (var ∷ []) in
          let was = kept.lone_is in omega arith;
      few = omega arith;
      padded_small = omega arith;
      lone_small = let less = lone-le-padded header var in omega arith;
    })

-- one variable without records more
pub KeepsSums-more_no : (header : Header) (i count padded lone : ℕ) (var : NcVar)
    → KeepsSums header (first_records header i) i count padded lone
    → i < length header.vars → var ≡ get_or header.vars i var → is_record_var header var ≡ false
    → KeepsSums header (first_records header (i + 1)) (i + 1) count padded lone
KeepsSums-more_no header i count padded lone var kept below read is =
    rw (first_records-more header i var false below read is, append-nil (first_records header i)) (record {
      count_is = kept.count_is;
      padded_is = kept.padded_is;
      lone_is = kept.lone_is;
      few = omega arith;
      padded_small = omega arith;
      lone_small = omega arith;
    })

pub of_one : (header : Header) (vars : List NcVar) → length vars ≡ 1
    → record_size_of header vars ≡ sum_by (lone_vsize header) vars
of_one header [] e = absurd (omega arith)
of_one header (var ∷ []) e = omega arith
of_one header (var ∷ other ∷ more) e = absurd (omega arith)

pub of_others : (header : Header) (vars : List NcVar) → (length vars ≡ 1 → ⊥)
    → record_size_of header vars ≡ sum_by (padded_vsize header) vars
of_others header [] e = refl
of_others header (var ∷ []) e = absurd (e refl)
of_others header (var ∷ other ∷ more) e = refl

all_kept : (header : Header) (i count padded lone : ℕ) → KeepsSums header (first_records header i) i count padded lone
    → length header.vars ≤ i
    → KeepsSums header (record_vars header) i count padded lone
all_kept header i count padded lone kept all =
    subst (λ (vars : List NcVar). KeepsSums header (filter (is_record_var header) vars) i count padded lone)
    (take_all i header.vars all) kept

-- what the sums over all variables say where there is one record variable
pub lone-from_sums : (header : Header) (i count padded lone : ℕ)
    → KeepsSums header (first_records header i) i count padded lone
    → length header.vars ≤ i → count ≡ 1 → lone ≡ record_size header
unfolding record_size
lone-from_sums header i count padded lone kept all one =
    let kept' = all_kept header i count padded lone kept all in
    kept'.lone_is ∙ sym (of_one header (record_vars header) (sym kept'.count_is ∙ one))

-- and where there is none, or several
pub padded-from_sums : (header : Header) (i count padded lone : ℕ)
    → KeepsSums header (first_records header i) i count padded lone
    → length header.vars ≤ i → (count ≡ 1 → ⊥) → padded ≡ record_size header
unfolding record_size
padded-from_sums header i count padded lone kept all other =
    let kept' = all_kept header i count padded lone kept all in
    kept'.padded_is ∙ sym (of_others header (record_vars header) (λ one. other (kept'.count_is ∙ one)))

pub ruleset records = (KeepsSums-more_yes, KeepsSums-more_no, lone-from_sums, padded-from_sums)

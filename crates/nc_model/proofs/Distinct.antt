-- What holds of each item and those before it, said of the whole list: names differ, the record dimension is the only
-- one, and a variable's record dimension stands first.
use Rattle.std.proofs.Common.{◌≡◌, ℕ, suc, ◌+◌, ◌≤◌, Bool, true, false, cond, not, ◌&&◌, ◌||◌, ◌==◌, Option, Some, None, IfSome, slice_get, List, [], ◌∷◌, ◌++◌, length, map, drop, bytes_eq, count_by, refl, sym, ap, ◌∙◌, arith}
use Rattle.std.specs.List.{AllByRecursion, IsDistinct, list_any}
use Rattle.std.specs.Option.{option_map_or}
use Rattle.std.proofs.lemmas.Bool.{or_parts, or_from, ne_eqb}
use Rattle.std.proofs.lemmas.List.{map-append}
use Rattle.std.proofs.lemmas.List.Folds.{list_any-append}
use Rattle.std.proofs.lemmas.List.Sums.{sum_by-cons}
use Rattle.std.proofs.Math.Bool.{or-false}
use Rattle.nc_model.specs.declared.header.Dim.{Dim}
use Rattle.nc_model.specs.Format.{has_name, is_record_dim, has_record_dim}
use Rattle.nc_model.specs.Reading.{names_record_dim}
use Rattle.nc_model.specs.Spelling.{AreDistinct, NamesNoRecord}
use Rattle.nc_model.proofs.Lists.{EachFrom}

-- two facts of each item
pub EachFrom-parts : {A : Type 0} (P Q : List A → A → Type 0) (found items : List A)
    → EachFrom (λ f x. P f x × Q f x) found items
    → EachFrom P found items × EachFrom Q found items
EachFrom-parts P Q found [] each = (tt, tt)
EachFrom-parts P Q found (x ∷ items) each = let more = EachFrom-parts P Q (found ++ x ∷ []) items each.1 in
    ((each.0.0, more.0), (each.0.1, more.1))

pub EachFrom-both : {A : Type 0} (P Q : List A → A → Type 0) (found items : List A) → EachFrom P found items
    → EachFrom Q found items
    → EachFrom (λ f x. P f x × Q f x) found items
EachFrom-both P Q found [] one other = tt
EachFrom-both P Q found (x ∷ items) one other =
    ((one.0, other.0), EachFrom-both P Q (found ++ x ∷ []) items one.1 other.1)

-- a fact of each item alone
pub AllByRecursion-from_each : {A : Type 0} (P : A → Type 0) (found items : List A) → EachFrom (λ f x. P x) found items
    → AllByRecursion P items
AllByRecursion-from_each P found [] each = tt
AllByRecursion-from_each P found (x ∷ items) each = (each.0, AllByRecursion-from_each P (found ++ x ∷ []) items each.1)

pub EachFrom-from_all : {A : Type 0} (P : A → Type 0) (found items : List A) → AllByRecursion P items
    → EachFrom (λ f x. P x) found items
EachFrom-from_all P found [] all = tt
EachFrom-from_all P found (x ∷ items) all = (all.0, EachFrom-from_all P (found ++ x ∷ []) items all.1)

-- the item's name is not among those before it
abbrev pub IsFresh : {A : Type 0} → (A → List ℕ) → List A → A → Type 0
IsFresh name found x = has_name (map name found) (name x) ≡ false

-- none of these names is among the items' names
abbrev AreOther : {A : Type 0} → (A → List ℕ) → List A → List (List ℕ) → Type 0
AreOther name found names = AllByRecursion (λ other. has_name (map name found) other ≡ false) names

has_name-last : {A : Type 0} (name : A → List ℕ) (found : List A) (x : A) (other : List ℕ)
    → has_name (map name (found ++ x ∷ [])) other ≡ (has_name (map name found) other || bytes_eq (name x) other)
unfolding has_name
has_name-last name found x other =
    ap (list_any (λ n. bytes_eq n other)) (map-append name found (x ∷ []))
    ∙ list_any-append (λ n. bytes_eq n other) (map name found) (name x ∷ [])
    ∙ ap (λ b. list_any (λ n. bytes_eq n other) (map name found) || b) (or-false (bytes_eq (name x) other))

AreOther-parts : {A : Type 0} (name : A → List ℕ) (found : List A) (x : A) (names : List (List ℕ))
    → AreOther name (found ++ x ∷ []) names
    → AreOther name found names × AllByRecursion (λ other. bytes_eq (name x) other ≡ false) names
AreOther-parts name found x [] all = (tt, tt)
AreOther-parts name found x (other ∷ names) all =
    let here = or_parts _ _ (sym (has_name-last name found x other) ∙ all.0) in
    let more = AreOther-parts name found x names all.1 in
    ((here.0, more.0), (here.1, more.1))

AreOther-both : {A : Type 0} (name : A → List ℕ) (found : List A) (x : A) (names : List (List ℕ))
    → AreOther name found names
    → AllByRecursion (λ other. bytes_eq (name x) other ≡ false) names → AreOther name (found ++ x ∷ []) names
AreOther-both name found x [] one other = tt
AreOther-both name found x (n ∷ names) one other =
    (has_name-last name found x n ∙ or_from _ _ one.0 other.0, AreOther-both name found x names one.1 other.1)

distinct_from_fresh : {A : Type 0} (name : A → List ℕ) (found items : List A) → EachFrom (IsFresh name) found items
    → AreOther name found (map name items) × AreDistinct (map name items)
unfolding IsDistinct
distinct_from_fresh name found [] each = (tt, tt)
distinct_from_fresh name found (x ∷ items) each =
    let more = distinct_from_fresh name (found ++ x ∷ []) items each.1 in
    let parts = AreOther-parts name found x (map name items) more.0 in
    ((each.0, parts.0), (parts.1, more.1))

fresh_from_distinct : {A : Type 0} (name : A → List ℕ) (found items : List A) → AreOther name found (map name items)
    → AreDistinct (map name items) → EachFrom (IsFresh name) found items
unfolding IsDistinct
fresh_from_distinct name found [] others apart = tt
fresh_from_distinct name found (x ∷ items) others apart = (
  others.0,
  fresh_from_distinct name (found ++ x ∷ []) items
      (AreOther-both name found x (map name items) others.1 apart.0) apart.1,
)

-- names that are each fresh differ, and the converse
pub AreDistinct-from_fresh : {A : Type 0} (name : A → List ℕ) (items : List A) → EachFrom (IsFresh name) [] items
    → AreDistinct (map name items)
AreDistinct-from_fresh name items each = (distinct_from_fresh name [] items each).1

AreOther-none : {A : Type 0} (name : A → List ℕ) (names : List (List ℕ)) → AreOther name [] names
unfolding has_name
AreOther-none name [] = tt
AreOther-none name (n ∷ names) = (refl, AreOther-none name names)

pub fresh-from_AreDistinct : {A : Type 0} (name : A → List ℕ) (items : List A) → AreDistinct (map name items)
    → EachFrom (IsFresh name) [] items
fresh-from_AreDistinct name items apart = fresh_from_distinct name [] items (AreOther-none name (map name items)) apart

-- the dimension is no second record dimension
abbrev pub IsOnlyRecord : List Dim → Dim → Type 0
IsOnlyRecord found dim = (is_record_dim dim && has_record_dim found) ≡ false

has_record_dim-last : (found : List Dim) (dim : Dim) → has_record_dim (found ++ dim ∷ [])
    ≡ (has_record_dim found || is_record_dim dim)
unfolding has_record_dim
has_record_dim-last found dim = list_any-append is_record_dim found (dim ∷ [])
    ∙ ap (λ b. list_any is_record_dim found || b) (or-false (is_record_dim dim))

one_more : (seen this : Bool) (n : ℕ) → (this && seen) ≡ false → cond (seen || this) 1 0 + n ≤ 1
    → cond seen 1 0 + (cond this 1 0 + n) ≤ 1
one_more true true n e h = absurd cc
one_more true false n e h = omega arith
one_more false true n e h = omega arith
one_more false false n e h = omega arith

one_less : (seen this : Bool) (n : ℕ) → cond seen 1 0 + (cond this 1 0 + n) ≤ 1 → ((this && seen) ≡ false)
    × (cond (seen || this) 1 0 + n ≤ 1)
one_less true true n h = absurd (omega arith)
one_less true false n h = (refl, omega arith)
one_less false true n h = (refl, omega arith)
one_less false false n h = (refl, omega arith)

records_after : (found dims : List Dim) → EachFrom IsOnlyRecord found dims
    → cond (has_record_dim found) 1 0 + count_by is_record_dim dims ≤ 1
records_after found [] each = at_most_one (has_record_dim found)
  where
    at_most_one : (b : Bool) → cond b 1 0 + 0 ≤ 1
    at_most_one true = omega arith
    at_most_one false = omega arith
records_after found (dim ∷ dims) each =
    let more = records_after (found ++ dim ∷ []) dims each.1 in
    rw (sum_by-cons (λ d. cond (is_record_dim d) 1 0) dim dims)
    (one_more (has_record_dim found) (is_record_dim dim) (count_by is_record_dim dims) each.0
    (rw (has_record_dim-last found dim) at more))

only_records : (found dims : List Dim) → cond (has_record_dim found) 1 0 + count_by is_record_dim dims ≤ 1
    → EachFrom IsOnlyRecord found dims
only_records found [] h = tt
only_records found (dim ∷ dims) h =
    let less = one_less (has_record_dim found) (is_record_dim dim) (count_by is_record_dim dims)
    (rw (sum_by-cons (λ d. cond (is_record_dim d) 1 0) dim dims) at h) in
    (less.0, only_records (found ++ dim ∷ []) dims (rw (has_record_dim-last found dim) less.1))

-- dimensions of which none is a second record dimension have at most one, and the converse
pub one_record-from_only : (dims : List Dim) → EachFrom IsOnlyRecord [] dims → count_by is_record_dim dims ≤ 1
unfolding has_record_dim
one_record-from_only dims each = let h = records_after [] dims each in omega arith

pub only-from_one_record : (dims : List Dim) → count_by is_record_dim dims ≤ 1 → EachFrom IsOnlyRecord [] dims
unfolding has_record_dim
only-from_one_record dims h = only_records [] dims (omega arith)

-- the number is not that of the record dimension, where others stand before it
abbrev pub IsRecordFirst : List Dim → List ℕ → ℕ → Type 0
IsRecordFirst dims found id = (not (length found == 0) && names_record_dim dims id) ≡ false

NamesNoRecord-from_test : (dims : List Dim) (id : ℕ) → names_record_dim dims id ≡ false → NamesNoRecord dims id
unfolding names_record_dim
NamesNoRecord-from_test dims id e = go (slice_get dims id) e
  where
    go : (o : Option Dim) → option_map_or is_record_dim o false ≡ false → IfSome o (λ dim. is_record_dim dim ≡ false)
    go None e = tt
    go (Some dim) e = e

test-from_NamesNoRecord : (dims : List Dim) (id : ℕ) → NamesNoRecord dims id → names_record_dim dims id ≡ false
unfolding names_record_dim
test-from_NamesNoRecord dims id h = go (slice_get dims id) h
  where
    go : (o : Option Dim) → IfSome o (λ dim. is_record_dim dim ≡ false) → option_map_or is_record_dim o false ≡ false
    go None h = refl
    go (Some dim) h = h

later_test : (b : Bool) (n : ℕ) → (not (suc n == 0) && b) ≡ b
later_test b n = ap (λ t. not t && b) (ne_eqb (suc n) 0 (λ e. omega arith))

no_record_after : (dims : List Dim) (first : ℕ) (found ids : List ℕ) → EachFrom (IsRecordFirst dims) (first ∷ found) ids
    → AllByRecursion (NamesNoRecord dims) ids
no_record_after dims first found [] each = tt
no_record_after dims first found (id ∷ ids) each = (
  NamesNoRecord-from_test dims id (sym (later_test (names_record_dim dims id) (length found)) ∙ each.0),
  no_record_after dims first (found ++ id ∷ []) ids each.1,
)

record_first_after : (dims : List Dim) (first : ℕ) (found ids : List ℕ) → AllByRecursion (NamesNoRecord dims) ids
    → EachFrom (IsRecordFirst dims) (first ∷ found) ids
record_first_after dims first found [] all = tt
record_first_after dims first found (id ∷ ids) all = (
  later_test (names_record_dim dims id) (length found)
      ∙ test-from_NamesNoRecord dims id all.0,
  record_first_after dims first (found ++ id ∷ []) ids all.1,
)

-- the record dimension stands first or not at all, and the converse
pub no_record-from_first : (dims : List Dim) (ids : List ℕ) → EachFrom (IsRecordFirst dims) [] ids
    → AllByRecursion (NamesNoRecord dims) (drop 1 ids)
no_record-from_first dims [] each = tt
no_record-from_first dims (id ∷ ids) each = no_record_after dims id [] ids each.1

pub first-from_no_record : (dims : List Dim) (ids : List ℕ) → AllByRecursion (NamesNoRecord dims) (drop 1 ids)
    → EachFrom (IsRecordFirst dims) [] ids
first-from_no_record dims [] all = tt
first-from_no_record dims (id ∷ ids) all = (refl, record_first_after dims id [] ids all)

-- What is small in a header that was read, whatever the bytes: the number of records, the dimensions, and the ranks.
use Rattle.std.proofs.Common.{◌≡◌, ℕ, ◌^◌, ◌<◌, ◌≤◌, List, [], length, Ok, ap, subst, ◌∙◌}
use Rattle.std.specs.Prelude.{◌&&◌, ◌==◌, nat_le, nat_lt}
use Rattle.std.specs.List.{AllByRecursion}
use Rattle.std.proofs.lemmas.Bool.{leb-false, ltb-false}
use Rattle.nc_model.specs.declared.header.Dim.{Dim}
use Rattle.nc_model.specs.declared.header.Header.{Header}
use Rattle.nc_model.specs.declared.header.NcVar.{NcVar}
use Rattle.nc_model.specs.Format.{DIMENSION_TAG, VARIABLE_TAG, STREAMING as STREAMING_COUNT, MAX_RANK, has_record_dim}
use Rattle.nc_model.specs.Reading.{HeaderParser, word, count, rank_at, dim_size, numrecs_at, items_from, dim_at, dim_id_at, var_at, header_or_fault}
use Rattle.nc_model.proofs.ReadFacts.{Gives, HasEach, dim_parts, header_parts, items_found, list_each, then_ok, unless_ok, unless_then, var_parts}

-- how many items were read
items_count : {A : Type 0} (item : List A → HeaderParser A) (n : ℕ) (all : List A) → Gives (items_from item n []) all
    → length all ≡ n
items_count item n all g =
    let items = items_found (λ found x. Unit {0}) item (λ found x one. tt) n [] all g in
    ap length items.all_is ∙ items.count

small_count : (n : ℕ) → Gives count n → n < 2 ^ 31
unfolding count
small_count n g =
    let number = then_ok (word g.from) _ _ g.is in
    let fits = unless_ok (nat_le (2 ^ 31) number.0.0) _ number.0.0 _ number.2 in
    subst (λ m. m < 2 ^ 31) fits.1 (leb-false (2 ^ 31) number.0.0 fits.0)

small_dim : HasEach (λ found dim. dim.size < 2 ^ 31) dim_at
unfolding dim_size
small_dim found dim g =
    let size = (dim_parts found dim g).size in
    let number = then_ok (count size.from) _ _ size.is in
    let is = unless_ok (number.0.0 == 0 && has_record_dim found) _ number.0.0 _ number.2 in
    subst (λ n. n < 2 ^ 31) is.1
    (small_count number.0.0 (record { from = size.from; left = number.0.1; is = number.1 }))

small_numrecs : (n : ℕ) → Gives numrecs_at n → n < 2 ^ 31
unfolding numrecs_at
small_numrecs n g =
    let number = then_ok (word g.from) _ _ g.is in
    let known = unless_then (number.0.0 == STREAMING_COUNT) _ number.0.0 _ _ number.2 in
    let fits = unless_ok (nat_le (2 ^ 31) number.0.0) _ number.0.0 _ known.1 in
    subst (λ m. m < 2 ^ 31) fits.1 (leb-false (2 ^ 31) number.0.0 fits.0)

small_rank : (n : ℕ) → Gives rank_at n → n ≤ MAX_RANK
unfolding rank_at
small_rank n g =
    let number = then_ok (word g.from) _ _ g.is in
    let fits = unless_ok (nat_lt MAX_RANK number.0.0) _ number.0.0 _ number.2 in
    subst (λ m. m ≤ MAX_RANK) fits.1 (ltb-false MAX_RANK number.0.0 fits.0)

small_var : (version : ℕ) (dims : List Dim) → HasEach (λ found var. length var.dims ≤ MAX_RANK) (var_at version dims)
small_var version dims found var g =
    let parts = var_parts version dims found var g in
    rw (items_count (dim_id_at dims) parts.n var.dims parts.ids) (small_rank parts.n parts.rank)

-- what is small in a header that was read
pub record IsLimited (header : Header) : Type 0 where
  pub numrecs : header.numrecs < 2 ^ 31
  pub dims : AllByRecursion (λ (d : Dim). d.size < 2 ^ 31) header.dims
  pub vars : AllByRecursion (λ (v : NcVar). length v.dims ≤ MAX_RANK) header.vars

pub IsLimited-from_read : (bytes : List ℕ) (header : Header) → header_or_fault bytes ≡ Ok header → IsLimited header
IsLimited-from_read bytes header e =
    let parts = header_parts bytes header e in
    record {
      numrecs = small_numrecs header.numrecs parts.numrecs;
      dims = list_each (λ (d : Dim). d.size < 2 ^ 31) DIMENSION_TAG dim_at small_dim header.dims parts.dims;
      vars = list_each (λ (v : NcVar). length v.dims ≤ MAX_RANK) VARIABLE_TAG (var_at header.version header.dims)
          (small_var header.version header.dims) header.vars parts.vars;
    }

-- What the loops over declarations and arrays do, turn by turn.
use Rattle.std.proofs.Common.{◌≡◌, ℕ, ◌+◌, ◌*◌, ◌<◌, ◌≤◌, true, false, cond, List, length, drop, get_or, Some, None, nat_le, Ok, Err, ap, ◌∙◌}
use Rattle.std.proofs.lemmas.List.{at_drop_all}
use Rattle.fm_base.specs.Input.{Input}
use Rattle.fm_base.specs.Parser.{Outcome, and_then}
use Rattle.nc_model.specs.declared.header.Dim.{Dim}
use Rattle.dap_model.specs.declared.declaration.Array.{Array}
use Rattle.dap_model.specs.declared.declaration.Decl.{Decl}
use Rattle.dap_model.specs.Picking.{parts_of}
use Rattle.dap_client.specs.declared.message.Column.{Column}
use Rattle.dap_client.specs.DataReading.{column_after, columns_after, columns_at, counted_from}
use Rattle.dap_client.specs.TextReading.{MOST_VALUES}
use Rattle.dap_client.proofs.TurnLemmas.{drop_here}

-- the column of one array more
pub arrays-more : (arrays : List Array) (n : ℕ) (array d : Array) (found more : List Column) (i next : Input)
    → n < length arrays → array ≡ get_or arrays n d → column_after found array i ≡ Ok (more, next)
    → columns_after found (drop n arrays) i ≡ columns_after more (drop (n + 1) arrays) next
unfolding columns_after
arrays-more arrays n array d found more i next below there e =
    ap (λ (l : List Array). columns_after found l i) (drop_here arrays n array d below there)
    ∙ ap (λ (r : Outcome (List Column) ℕ). and_then r (λ all. columns_after all (drop (n + 1) arrays))) e

pub arrays-bad : (arrays : List Array) (n : ℕ) (array d : Array) (found : List Column) (i : Input) (fault : ℕ)
    → n < length arrays → array ≡ get_or arrays n d → column_after found array i ≡ Err fault
    → columns_after found (drop n arrays) i ≡ Err fault
unfolding columns_after
arrays-bad arrays n array d found i fault below there e =
    ap (λ (l : List Array). columns_after found l i) (drop_here arrays n array d below there)
    ∙ ap (λ (r : Outcome (List Column) ℕ). and_then r (λ all. columns_after all (drop (n + 1) arrays))) e

pub arrays-done : (arrays : List Array) (n : ℕ) (found : List Column) (i : Input) → length arrays ≤ n
    → columns_after found (drop n arrays) i ≡ Ok (found, i)
unfolding columns_after
arrays-done arrays n found i past = at_drop_all (λ (l : List Array). columns_after found l i) arrays n past

-- the columns of one declaration more
pub decls-more : (decls : List Decl) (n : ℕ) (decl d : Decl) (found more : List Column) (i next : Input)
    → n < length decls → decl ≡ get_or decls n d → columns_after found (parts_of decl) i ≡ Ok (more, next)
    → columns_at (drop n decls) found i ≡ columns_at (drop (n + 1) decls) more next
unfolding columns_at
decls-more decls n decl d found more i next below there e =
    ap (λ (l : List Decl). columns_at l found i) (drop_here decls n decl d below there)
    ∙ ap (λ (r : Outcome (List Column) ℕ). and_then r (λ all. columns_at (drop (n + 1) decls) all)) e

pub decls-bad : (decls : List Decl) (n : ℕ) (decl d : Decl) (found : List Column) (i : Input) (fault : ℕ)
    → n < length decls → decl ≡ get_or decls n d → columns_after found (parts_of decl) i ≡ Err fault
    → columns_at (drop n decls) found i ≡ Err fault
unfolding columns_at
decls-bad decls n decl d found i fault below there e =
    ap (λ (l : List Decl). columns_at l found i) (drop_here decls n decl d below there)
    ∙ ap (λ (r : Outcome (List Column) ℕ). and_then r (λ all. columns_at (drop (n + 1) decls) all)) e

pub decls-done : (decls : List Decl) (n : ℕ) (found : List Column) (i : Input) → length decls ≤ n
    → columns_at (drop n decls) found i ≡ Ok (found, i)
unfolding columns_at
decls-done decls n found i past = at_drop_all (λ (l : List Decl). columns_at l found i) decls n past

pub ruleset columns_in_turn = (arrays-more, arrays-bad, arrays-done, decls-more, decls-bad, decls-done)

-- one dimension more, where the values can still be counted, and where they can't
pub counted-more : (dims : List Dim) (n count : ℕ) (dim d : Dim) → n < length dims → dim ≡ get_or dims n d
    → nat_le (count * dim.size) MOST_VALUES ≡ true
    → counted_from count (drop n dims) ≡ counted_from (count * dim.size) (drop (n + 1) dims)
unfolding counted_from
counted-more dims n count dim d below there few =
    ap (λ (l : List Dim). counted_from count l) (drop_here dims n dim d below there)
    ∙ ap (λ b. cond b (counted_from (count * dim.size) (drop (n + 1) dims)) None) few

pub counted-over : (dims : List Dim) (n count : ℕ) (dim d : Dim) → n < length dims → dim ≡ get_or dims n d
    → nat_le (count * dim.size) MOST_VALUES ≡ false
    → counted_from count (drop n dims) ≡ None
unfolding counted_from
counted-over dims n count dim d below there over =
    ap (λ (l : List Dim). counted_from count l) (drop_here dims n dim d below there)
    ∙ ap (λ b. cond b (counted_from (count * dim.size) (drop (n + 1) dims)) None) over

pub counted-done : (dims : List Dim) (n count : ℕ) → length dims ≤ n → counted_from count (drop n dims) ≡ Some count
unfolding counted_from
counted-done dims n count past = at_drop_all (λ (l : List Dim). counted_from count l) dims n past

pub ruleset counting = (counted-more, counted-over, counted-done)

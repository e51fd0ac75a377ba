-- Rows of a list that pass a test, where those that stand together are added at once.
use Rattle.std.proofs.Common.{◌≡◌, ℕ, ◌+◌, ◌<◌, ◌≤◌, Bool, true, false, List, [], ◌∷◌, ◌++◌, length, get_or, map, take, drop, suc, zero, refl, subst, sym, ap, ◌∙◌, arith}
use Rattle.std.specs.Prelude.{filter}
use Rattle.std.proofs.lemmas.List.{append-nil, append_assoc, drop_all, drop-append-le, length-map, length-take, take_more}
use Rattle.std.proofs.lemmas.List.Elements.{filter-append}
use Rattle.fm_model.specs.declared.row.Row.{Row}
use Rattle.fm_edition.specs.declared.maps.page_rows.Oldest.{Oldest}
use Rattle.fm_edition.specs.Least.{row_time}

-- one item more
take_next : {A : Type 0} (list : List A) (at : ℕ) (item : A) → at < length list → item ≡ get_or list at item
    → take (at + 1) list ≡ take at list ++ item ∷ []
take_next list at item lt is = take_more list at item lt ∙ ap (λ y. take at list ++ y ∷ []) (sym is)

-- one item more, of which a test is asked
pub filter_next : {A : Type 0} (f : A → Bool) (list : List A) (at : ℕ) (item : A) → at < length list
    → item ≡ get_or list at item
    → filter f (take (at + 1) list) ≡ filter f (take at list) ++ filter f (item ∷ [])
filter_next f list at item lt is =
    ap (filter f) (take_next list at item lt is) ∙ filter-append f (take at list) (item ∷ [])

-- one item that passes, behind others that do
pub passed_more : {A : Type 0} (f : A → Bool) (made first list : List A) (from at : ℕ) (item : A) → at < length list
    → item ≡ get_or list at item → from ≤ at → f item ≡ true
    → made ++ drop from (take at list) ≡ first ++ filter f (take at list)
    → made ++ drop from (take (at + 1) list) ≡ first ++ filter f (take (at + 1) list)
passed_more f made first list from at item lt is order passes so =
    let short : from ≤ length (take at list) = omega (arith, order, lt, length-take at list) in
    let one : filter f (item ∷ []) ≡ item ∷ [] = rw passes refl in
    ap (λ l. made ++ drop from l) (take_next list at item lt is)
    ∙ ap (λ l. made ++ l) (drop-append-le from (take at list) (item ∷ []) short)
    ∙ sym (append_assoc made (drop from (take at list)) (item ∷ []))
    ∙ ap (λ l. l ++ item ∷ []) so
    ∙ append_assoc first (filter f (take at list)) (item ∷ [])
    ∙ ap (λ l. first ++ (filter f (take at list) ++ l)) (sym one)
    ∙ ap (λ l. first ++ l) (sym (filter_next f list at item lt is))

-- one item that doesn't pass, once those before it are added
pub passed_none : {A : Type 0} (f : A → Bool) (made now first list : List A) (from at : ℕ) (item : A) → at < length list
    → item ≡ get_or list at item → f item ≡ false → now ≡ made ++ drop from (take at list)
    → made ++ drop from (take at list) ≡ first ++ filter f (take at list)
    → now ++ drop (at + 1) (take (at + 1) list) ≡ first ++ filter f (take (at + 1) list)
passed_none f made now first list from at item lt is fails added so =
    let none : drop (at + 1) (take (at + 1) list) ≡ [] =
    drop_all (at + 1) (take (at + 1) list) (omega (arith, length-take (at + 1) list)) in
    let nothing : filter f (item ∷ []) ≡ [] = rw fails refl in
    ap (λ l. now ++ l) none ∙ append-nil now ∙ added ∙ so
    ∙ ap (λ l. first ++ l)
    (sym (filter_next f list at item lt is ∙ ap (λ l. filter f (take at list) ++ l) nothing
    ∙ append-nil (filter f (take at list))))

-- an item at an index of a list, and what is made of it
pub record IsAt {A B : Type 0} (make : A → B) (list : List A) (at : ℕ) (made : B) : Type 0 where
  pub item : A
  pub is : item ≡ get_or list at item
  pub makes : make item ≡ made

item_at : {A B : Type 0} (make : A → B) (list : List A) (at : ℕ) (other : B) → at < length list
    → IsAt make list at (get_or (map make list) at other)
item_at make [] at other lt = absurd (omega (arith, lt))
item_at make (item ∷ list) zero other lt = record { item = item; is = refl; makes = refl }
item_at make (item ∷ list) (suc at) other lt =
    let rest = item_at make list at other (omega (arith, lt)) in
    record { item = rest.item; is = rest.is; makes = rest.makes }

-- the row of a valid time, where the times are those of the rows
pub timed_row : (rows : List Row) (times : List Oldest) (at : ℕ) (other : Oldest) → times ≡ map row_time rows
    → at < length times → (at < length rows) × IsAt row_time rows at (get_or times at other)
timed_row rows times at other are lt =
    let within : at < length rows = omega (arith, lt, ap length are, length-map rows row_time) in
    (within, subst (λ l. IsAt row_time rows at (get_or l at other)) (sym are) (item_at row_time rows at other within))

-- What is left of a selection of some files after an operation.
use Rattle.std.proofs.Common.{◌≡◌, Bool, true, false, List, [], ◌∷◌, ◌++◌, ℤ, map, refl, sym, ap, subst, ◌∙◌, inl, inr}
use Rattle.std.specs.Prelude.{filter, not}
use Rattle.std.specs.Cmp.{signed_Decides}
use Rattle.std.proofs.lemmas.List.{append-nil}
use Rattle.std.proofs.lemmas.List.Elements.{filter-append}
use Rattle.fm_model.specs.declared.loaded.Loaded.{Loaded}
use Rattle.fm_model.specs.declared.op.Op.{Op}
use Rattle.fm_model.specs.declared.op.Op.TheVariants.{Put, Expire, Retract}
use Rattle.fm_model.specs.Cell.{has_time, runs_of, times_of}
use Rattle.fm_model.specs.Collection.{after_op, kept_from, without}
use Rattle.fm_model.proofs.CellLemmas.{has-in, in-has}
use Rattle.fm_model.proofs.InstantLemmas.{In-runs_of, In-times_of}
use Rattle.fm_model.proofs.Members.{In, In-map}
use Rattle.fm_model.proofs.RisingLemmas.{In-rising}
use Rattle.fm_list.specs.declared.by.By.{By}
use Rattle.fm_list.specs.declared.by.By.TheVariants.{Run, Time, Name}
use Rattle.fm_list.specs.Change.{added, changed, gone, keeps}
use Rattle.fm_list.specs.Code.{code_of}
use Rattle.fm_list.specs.Selected.{part, part_after, selects}
use Rattle.fm_edition.specs.Indexes.{codes_of, instants, is_among}

-- two selections in either order
pub filter-filter : {A : Type 0} (p q : A → Bool) (xs : List A) → filter p (filter q xs) ≡ filter q (filter p xs)
filter-filter p q [] = refl
filter-filter {A} p q (x ∷ xs) = by_tests (p x) (q x) refl refl (filter-filter p q xs)
  where
    by_tests : (a b : Bool) → p x ≡ a → q x ≡ b → filter p (filter q xs) ≡ filter q (filter p xs)
        → filter p (filter q (x ∷ xs)) ≡ filter q (filter p (x ∷ xs))
    by_tests true true pa qb more = simp (pa, qb) (ap (λ l. x ∷ l) more)
    by_tests true false pa qb more = simp (pa, qb) more
    by_tests false true pa qb more = simp (pa, qb) more
    by_tests false false pa qb more = simp (pa, qb) more

-- the files after an operation are those that it keeps and the one that it adds
pub after_op-is : (files : List Loaded) (op : Op) → after_op files op ≡ filter (keeps op) files ++ added op
unfolding after_op without kept_from keeps
after_op-is files (Put file) = refl
after_op-is files (Expire cutoff) = sym (append-nil _)
after_op-is files (Retract name) = sym (append-nil _)

-- a selection after an operation is the operation on the selection
pub filter-after : (selects : Loaded → Bool) (files : List Loaded) (op : Op)
    → filter selects (after_op files op) ≡ filter (keeps op) (filter selects files) ++ filter selects (added op)
filter-after selects files op = ap (filter selects) (after_op-is files op)
    ∙ filter-append selects (filter (keeps op) files) (added op)
    ∙ ap (λ l. l ++ filter selects (added op)) (filter-filter selects (keeps op) files)

-- the files by an instant after an operation
pub part-after : (by : By) (files : List Loaded) (op : Op) (key : ℤ)
    → part by (after_op files op) key ≡ part_after by key op (part by files key)
unfolding part part_after
part-after by files op key = filter-after (selects by key) files op

-- a list with an item isn't empty
no_item : {A : Type 0} (x : A) (xs : List A) → x ∷ xs ≡ [] → {P : Type 0} → P
no_item x xs e {P} = absurd (cc e)

-- what isn't taken out of a selection stays in it
all_kept : {A : Type 0} (selects keep : A → Bool) (xs : List A) → filter selects (filter (λ x. not (keep x)) xs) ≡ []
    → filter keep (filter selects xs) ≡ filter selects xs
all_kept selects keep [] none = refl
all_kept {A} selects keep (x ∷ xs) none = by_tests (selects x) (keep x) refl refl none (all_kept selects keep xs)
  where
    by_tests : (a b : Bool) → selects x ≡ a → keep x ≡ b → filter selects (filter (λ y. not (keep y)) (x ∷ xs)) ≡ []
        → (filter selects (filter (λ y. not (keep y)) xs) ≡ [] → filter keep (filter selects xs) ≡ filter selects xs)
        → filter keep (filter selects (x ∷ xs)) ≡ filter selects (x ∷ xs)
    by_tests true true sa kb none more = simp (sa, kb) (ap (λ l. x ∷ l) (more (simp kb at none)))
    by_tests true false sa kb none more = no_item x _ (simp (kb, sa) at none)
    by_tests false true sa kb none more = simp (sa, kb) (more (simp kb at none))
    by_tests false false sa kb none more = simp (sa, kb) (more (simp (kb, sa) at none))

both_empty : {A : Type 0} (xs ys : List A) → xs ++ ys ≡ [] → (xs ≡ []) × (ys ≡ [])
both_empty [] ys e = (refl, e)
both_empty (x ∷ xs) ys e = no_item x (xs ++ ys) e

-- a selection that nothing of is taken out or added to stays as it is
pub filter-untouched : (selects : Loaded → Bool) (files : List Loaded) (op : Op)
    → filter selects (changed files op) ≡ [] → filter selects (after_op files op) ≡ filter selects files
unfolding changed gone
filter-untouched selects files op none =
    let out = filter (λ file. not (keeps op file)) files in
    let parts = both_empty (filter selects out) (filter selects (added op))
    (sym (filter-append selects out (added op)) ∙ none) in
    filter-after selects files op
    ∙ ap (λ l. filter (keeps op) (filter selects files) ++ l) parts.1
    ∙ append-nil (filter (keeps op) (filter selects files))
    ∙ all_kept selects (keeps op) files parts.0

none_selected : {A : Type 0} (selects : A → Bool) (xs : List A) → ((x : A) → In x xs → selects x ≡ false)
    → filter selects xs ≡ []
none_selected selects [] none = refl
none_selected selects (x ∷ xs) none = rw (none x (inl refl)) (none_selected selects xs (λ y held. none y (inr held)))

passes_not : (b : Bool) → (b ≡ true → false ≡ true) → b ≡ false
passes_not true h = sym (h refl)
passes_not false h = refl

-- the code of a file's name is among those of all
In-codes_of : (files : List Loaded) (file : Loaded) → In file files → In (code_of file.name) (codes_of files)
unfolding codes_of
In-codes_of files file held = In-rising (code_of file.name) (map (λ (f : Loaded). code_of f.name) files)
    (In-map (λ (f : Loaded). code_of f.name) file files held)

-- what selects a file is one of its instants
pub one_of : (by : By) (files : List Loaded) (key : ℤ) (file : Loaded) → In file files → selects by key file ≡ true
    → is_among (instants by files) key ≡ true
unfolding selects instants has_time
one_of Run files key file held same = in-has key (runs_of files)
    (subst (λ r. In r (runs_of files)) ((signed_Decides file.run key).0 same) (In-runs_of files file held))
one_of Time files key file held has = in-has key (times_of files)
    (In-times_of files file key held (has-in key file.times has))
one_of Name files key file held same = in-has key (codes_of files)
    (subst (λ code. In code (codes_of files)) ((signed_Decides (code_of file.name) key).0 same)
    (In-codes_of files file held))

-- the files by an instant that an operation doesn't touch
pub part-untouched : (by : By) (files : List Loaded) (op : Op) (key : ℤ)
    → is_among (instants by (changed files op)) key ≡ false → part by (after_op files op) key ≡ part by files key
unfolding part
part-untouched by files op key apart = filter-untouched (selects by key) files op
    (none_selected (selects by key) (changed files op) (λ file held.
    passes_not (selects by key file) (λ selected. sym apart ∙ one_of by (changed files op) key file held selected)))

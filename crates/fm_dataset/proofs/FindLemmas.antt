-- What is found for one more of some numbers, and whether a number stands twice.
use Rattle.std.proofs.Common.{◌≡◌, ℕ, ◌+◌, ◌<◌, ◌≤◌, List, [], ◌∷◌, ◌++◌, drop, take, length, map, get_or, true, false, ◌||◌, Option, refl, sym, ap, ◌∙◌}
use Rattle.std.specs.List.{filter_map, cons_option}
use Rattle.std.proofs.lemmas.List.{take_more, drop_more, drop_all, map-append}
use Rattle.std.proofs.lemmas.List.Elements.{filter_map-append}
use Rattle.fm_model.specs.Variable.{lies_along}
use Rattle.fm_dataset.specs.Declarations.{repeats}

-- what is found for one number more, each as it is shown
pub shown_more : {A B : Type 0} (show : A → B) (found : ℕ → Option A) (ids : List ℕ) (n : ℕ) → n < length ids
    → map show (filter_map found (take (n + 1) ids))
    ≡ map show (filter_map found (take n ids)) ++ map show (cons_option (found (get_or ids n 0)) [])
shown_more show found ids n within =
    ap (λ some. map show (filter_map found some)) (take_more ids n 0 within)
    ∙ ap (map show) (filter_map-append found (take n ids) (get_or ids n 0 ∷ []))
    ∙ map-append show (filter_map found (take n ids)) (cons_option (found (get_or ids n 0)) [])

-- the search for a number that stands twice ends at one that stands again after it, and else goes on
repeats-more : (ids : List ℕ) (n : ℕ) → n < length ids
    → repeats (drop n ids) ≡ (lies_along (get_or ids n 0) (drop (n + 1) ids) || repeats (drop (n + 1) ids))
unfolding repeats
repeats-more ids n within = rw (drop_more ids n 0 within) refl

pub repeats-here : (ids : List ℕ) (n : ℕ) → n < length ids → repeats (drop n ids) ≡ repeats ids
    → lies_along (get_or ids n 0) (drop (n + 1) ids) ≡ true → true ≡ repeats ids
repeats-here ids n within left again =
    ap (λ b. b || repeats (drop (n + 1) ids)) (sym again) ∙ sym (repeats-more ids n within) ∙ left

pub repeats-later : (ids : List ℕ) (n : ℕ) → n < length ids → repeats (drop n ids) ≡ repeats ids
    → lies_along (get_or ids n 0) (drop (n + 1) ids) ≡ false → repeats (drop (n + 1) ids) ≡ repeats ids
repeats-later ids n within left other =
    ap (λ b. b || repeats (drop (n + 1) ids)) (sym other) ∙ sym (repeats-more ids n within) ∙ left

pub repeats-past : (ids : List ℕ) (n : ℕ) → length ids ≤ n → repeats (drop n ids) ≡ false
unfolding repeats
repeats-past ids n past = rw (drop_all n ids past) refl

pub ruleset repetitions = (repeats-here, repeats-later, repeats-past)

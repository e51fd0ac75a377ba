-- What pages hold once the page of a number is set, or taken out.
use Rattle.std.proofs.Common.{◌≡◌, Bool, true, false, cond, List, [], ◌∷◌, length, Option, None, ℤ, refl, ap, ◌∙◌, arith}
use Rattle.std.specs.Prelude.{option_and_then}
use Rattle.std.specs.BTreeMap.{BTreeMap, get}
use Rattle.std.specs.Ordering.{int_cmp, int_eq}
use Rattle.fm_model.specs.declared.loaded.Loaded.{Loaded}
use Rattle.fm_edition.specs.Indexes.{in_page, Pages}

nil_from : {A : Type 0} (items : List A) → length items ≡ 0 → items ≡ []
nil_from [] none = refl
nil_from (item ∷ items) none = absurd (omega (arith, none))

-- no instant stands in a page without entries
pub in_none : (page : BTreeMap ℤ (List Loaded)) → length page.entries ≡ 0 → (key : ℤ) → get int_cmp page key ≡ None
in_none page none key = rw (nil_from page.entries none) refl

-- what stands at an instant is what stands in the page that is set, or what stood there
pub in_page-set : (pages next : Pages) (number : ℤ) (page : Option (BTreeMap ℤ (List Loaded)))
    → ((other : ℤ) → get int_cmp next other ≡ cond (int_eq number other) page (get int_cmp pages other))
    → (other key : ℤ) → in_page next other key
    ≡ cond (int_eq number other) (option_and_then (λ p. get int_cmp p key) page) (in_page pages other key)
in_page-set pages next number page set other key =
    ap (option_and_then (λ (p : BTreeMap ℤ (List Loaded)). get int_cmp p key)) (set other)
    ∙ by_test (int_eq number other)
  where
    at_key : Option (BTreeMap ℤ (List Loaded)) → Option (List Loaded)
    at_key = option_and_then (λ (p : BTreeMap ℤ (List Loaded)). get int_cmp p key)

    by_test : (same : Bool) → at_key (cond same page (get int_cmp pages other))
        ≡ cond same (at_key page) (in_page pages other key)
    by_test true = refl
    by_test false = refl

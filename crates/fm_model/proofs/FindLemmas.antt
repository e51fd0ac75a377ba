-- The first item of a list that passes a test, and checks that refuse it.
use Rattle.std.proofs.Common.{◌≡◌, Bool, true, false, cond, List, [], ◌∷◌, Option, Some, None, Ok, refl, sym, ap, ◌∙◌, inl, inr}
use Rattle.std.specs.Prelude.{find}
use Rattle.std.specs.Option.{option_map}
use Rattle.std.proofs.lemmas.Option.{none-some, same_Some}
use Rattle.fm_base.specs.Chain.{refuse}
use Rattle.fm_base.proofs.OptionLemmas.{mapped_none}
use Rattle.fm_model.proofs.LastLemmas.{no_value}
use Rattle.fm_model.proofs.Members.{In, Each}

-- the first item that passes is there, and passes
pub in_find : {A : Type 0} (test : A → Bool) (items : List A) (item : A) → find test items ≡ Some item
    → In item items × (test item ≡ true)
in_find test [] item e = absurd (none-some item e)
in_find {A} test (first ∷ items) item e = by_test (test first) refl e (in_find test items item)
  where
    by_test : (b : Bool) → test first ≡ b → cond b (Some first) (find test items) ≡ Some item
        → (find test items ≡ Some item → In item items × (test item ≡ true))
        → In item (first ∷ items) × (test item ≡ true)
    by_test true is e more = let same = same_Some first item e in (inl same, ap test (sym same) ∙ is)
    by_test false is e more = let found = more e in (inr found.0, found.1)

find-none : {A : Type 0} (test : A → Bool) (items : List A) → find test items ≡ None
    → Each (λ item. test item ≡ false) items
find-none test [] e = tt
find-none {A} test (first ∷ items) e = by_test (test first) refl e (find-none test items)
  where
    by_test : (b : Bool) → test first ≡ b → cond b (Some first) (find test items) ≡ None
        → (find test items ≡ None → Each (λ item. test item ≡ false) items)
        → Each (λ item. test item ≡ false) (first ∷ items)
    by_test true is e more = absurd (no_value first e)
    by_test false is e more = (is, more e)

not_refused : {E : Type 0} (o : Option E) → refuse o ≡ Ok tt → o ≡ None
not_refused None e = refl
not_refused (Some fault) e = absurd cc

-- no item is refused where none of them is the first
pub each_passes : {A E : Type 0} (fault : A → E) (test : A → Bool) (items : List A)
    → refuse (option_map fault (find test items)) ≡ Ok tt → Each (λ item. test item ≡ false) items
each_passes fault test items e = find-none test items
    (mapped_none fault (find test items) (not_refused (option_map fault (find test items)) e))

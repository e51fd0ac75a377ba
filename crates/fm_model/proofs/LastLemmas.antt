-- The last item of a list that passes a test.
use Rattle.std.proofs.Common.{◌≡◌, Bool, true, false, cond, List, [], ◌∷◌, ◌++◌, Option, Some, None, refl, sym, ap, ◌∙◌}
use Rattle.std.specs.Option.{option_or}
use Rattle.std.proofs.lemmas.Option.{none-some, same_Some}
use Rattle.fm_model.specs.Cell.{last_such}
use Rattle.fm_model.proofs.Members.{Each}

-- a value that is there is not nothing
pub no_value : {A : Type 0} (x : A) → Some x ≡ None → ⊥
no_value x e = none-some x (sym e)

-- the last item that passes, between items before it and items that don't pass
pub record IsLast {A : Type 0} (test : A → Bool) (items : List A) (item : A) : Type 0 where
  pub before : List A
  pub after : List A
  pub split : items ≡ before ++ item ∷ after
  pub passes : test item ≡ true
  pub fails : Each (λ other. test other ≡ false) after

pub none_passes : {A : Type 0} (test : A → Bool) (items : List A) → last_such test items ≡ None
    → Each (λ item. test item ≡ false) items
none_passes test [] e = tt
none_passes test (item ∷ items) e = by_rest (last_such test items) refl e (test item) refl (none_passes test items)
  where
    by_rest : (o : Option _) → last_such test items ≡ o → option_or o (cond (test item) (Some item) None) ≡ None
        → (b : Bool) → test item ≡ b
        → (last_such test items ≡ None → Each (λ i. test i ≡ false) items) → Each (λ i. test i ≡ false) (item ∷ items)
    by_rest (Some later) is e b t more = absurd (no_value later e)
    by_rest None is e true t more = absurd (no_value item (rw t at e))
    by_rest None is e false t more = (t, more is)

pub last_such-none : {A : Type 0} (test : A → Bool) (items : List A) → Each (λ item. test item ≡ false) items
    → last_such test items ≡ None
last_such-none test [] each = refl
last_such-none test (item ∷ items) each = rw (last_such-none test items each.1, each.0) refl

-- the last item that passes, where none behind it passes
pub last_such-is : {A : Type 0} (test : A → Bool) (before : List A) (item : A) (after : List A) → test item ≡ true
    → Each (λ other. test other ≡ false) after
    → last_such test (before ++ item ∷ after) ≡ Some item
last_such-is test [] item after passes fails = rw (last_such-none test after fails, passes) refl
last_such-is test (first ∷ before) item after passes fails = rw (last_such-is test before item after passes fails) refl

pub is_last : {A : Type 0} (test : A → Bool) (items : List A) (item : A) → last_such test items ≡ Some item
    → IsLast test items item
is_last test [] item e = absurd (none-some item e)
is_last {A} test (first ∷ items) item e = by_rest (last_such test items) refl e (test first) refl (is_last test items)
  where
    by_rest : (o : Option A) → last_such test items ≡ o → option_or o (cond (test first) (Some first) None) ≡ Some item
        → (b : Bool) → test first ≡ b
        → ((x : A) → last_such test items ≡ Some x → IsLast test items x) → IsLast test (first ∷ items) item
    by_rest (Some later) is e b t more =
        let found = more item (is ∙ e) in
        record {
          before = first
              ∷ found.before;
          after = found.after;
          split = ap (λ l. first
              ∷ l) found.split;
          passes = found.passes;
          fails = found.fails;
        }
    by_rest None is e true t more =
        let same : first ≡ item = same_Some first item (rw t at e) in
        record {
          before = [];
          after = items;
          split = ap (λ x. x ∷ items) same;
          passes = ap test
              (sym same) ∙ t;
          fails = none_passes test items is;
        }
    by_rest None is e false t more = absurd (none-some item (rw t at e))

-- Items of a known number are read exactly.
use Rattle.std.proofs.Common.{◌≡◌, ℕ, zero, suc, List, [], ◌∷◌, ◌++◌, length, refl, sym, ap, subst, ◌∙◌, append_assoc, append-nil, arith}
use Rattle.std.proofs.lemmas.List.{nil_from_length}
use Rattle.std.specs.List.{AllByRecursion}
use Rattle.fm_base.proofs.Exact.{Then, Is}
use Rattle.nc_model.specs.Spelling.{Spelled}
use Rattle.dap_client.specs.Reading.{Reader, each_at, repeat_at}
use Rattle.dap_client.proofs.Exactly.{ExactTo, ExactTo-as, ExactTo-pure}
use Rattle.dap_client.proofs.Joined.{then_so}

-- those that were found, and n more
pub record Repeated {A : Type 0} (S : List ℕ → A → Type 0) (n : ℕ) (found : List A) (text : List ℕ)
    (all : List A) : Type 0 where
  pub more : List A
  pub all_is : all ≡ found ++ more
  pub count : length more ≡ n
  pub spelled : Spelled S text more

repeated_first : {A : Type 0} (S : List ℕ → A → Type 0) (n : ℕ) (found : List A) (text : List ℕ) (all more : List A)
    → all ≡ found ++ more → length more ≡ suc n → Spelled S text more
    → Then S (λ x. Repeated S n (found ++ x ∷ [])) text all
repeated_first S n found text all [] is count s = absurd (omega arith)
repeated_first S n found text all (x ∷ more) is count s = record {
  a = x;
  front = s.0;
  back = s.1;
  first = s.2;
  second = record {
    more = more;
    all_is = is ∙ sym (append_assoc found (x ∷ []) more);
    count = omega arith;
    spelled = s.3;
  };
  text_is = s.4;
}

-- n items are read exactly
pub ExactTo-repeat : {A : Type 0} (m : ℕ) (S : List ℕ → A → Type 0) (item : Reader A) → ExactTo m S item → (n : ℕ)
    (found : List A) → ExactTo m (Repeated S n found) (repeat_at item n found)
unfolding repeat_at
ExactTo-repeat {A} m S item ei zero found =
    ExactTo-as m (Is found) (Repeated S 0 found) (repeat_at item 0 found)
    (λ text all s. record {
      more = [];
      all_is = sym s.value ∙ sym (append-nil found);
      count = refl;
      spelled = s.text_is;
    })
    (λ text all s.
    let none : s.more ≡ [] = nil_from_length s.more s.count in
    record {
      value = sym (s.all_is ∙ ap (λ (l : List A). found ++ l) none ∙ append-nil found);
      text_is = subst (λ (l : List A). Spelled S text l) none s.spelled;
    })
    (ExactTo-pure m found)
ExactTo-repeat m S item ei (suc n) found =
    ExactTo-as m (Then S (λ x. Repeated S n (found ++ x ∷ []))) (Repeated S (suc n) found)
    (repeat_at item (suc n) found)
    (λ text all s. record {
      more = s.a ∷ s.second.more;
      all_is = s.second.all_is ∙ append_assoc found (s.a ∷ []) s.second.more;
      count = ap suc s.second.count;
      spelled = (s.front, s.back, s.first, s.second.spelled, s.text_is);
    })
    (λ text all s. repeated_first S n found text all s.more s.all_is s.count s.spelled)
    (then_so m S (λ x. Repeated S n (found ++ x ∷ [])) item _ ei
    (λ x front s. ExactTo-repeat m S item ei n (found ++ x ∷ [])))

-- an item for each of these, one after the other
unfoldable pub SpelledEach : {A B : Type 0} → (A → List ℕ → B → Type 0) → List A → List ℕ → List B → Type 0
SpelledEach S [] text [] = text ≡ []
SpelledEach S [] text (item ∷ items) = ⊥
SpelledEach S (a ∷ more) text [] = ⊥
SpelledEach S (a ∷ more) text (item ∷ items) = (first : List ℕ) × (others : List ℕ) × S a first item
    × SpelledEach S more others items × (text ≡ first ++ others)

-- those that were found, and one more for each of these
pub record EachMore {A B : Type 0} (S : A → List ℕ → B → Type 0) (xs : List A) (found : List B) (text : List ℕ)
    (all : List B) : Type 0 where
  pub more : List B
  pub all_is : all ≡ found ++ more
  pub spelled : SpelledEach S xs text more

pub each_none : {A B : Type 0} (S : A → List ℕ → B → Type 0) (found : List B) (text : List ℕ) (all more : List B)
    → all ≡ found ++ more → SpelledEach S [] text more → Is found text all
unfolding SpelledEach
each_none S found text all [] is s = record { value = sym (is ∙ append-nil found); text_is = s }
each_none S found text all (x ∷ more) is s = absurd s

pub each_first : {A B : Type 0} (S : A → List ℕ → B → Type 0) (a : A) (xs : List A) (found : List B) (text : List ℕ)
    (all more : List B) → all ≡ found ++ more → SpelledEach S (a ∷ xs) text more
    → Then (S a) (λ x. EachMore S xs (found ++ x ∷ [])) text all
unfolding SpelledEach
each_first S a xs found text all [] is s = absurd s
each_first S a xs found text all (x ∷ more) is s = record {
  a = x;
  front = s.0;
  back = s.1;
  first = s.2;
  second = record { more = more; all_is = is ∙ sym (append_assoc found (x ∷ []) more); spelled = s.3 };
  text_is = s.4;
}

pub each_spelled : {A B : Type 0} (S : A → List ℕ → B → Type 0) (found : List B) (text : List ℕ) (all : List B)
    → Is found text all → EachMore S [] found text all
unfolding SpelledEach
each_spelled S found text all s =
    record { more = []; all_is = sym s.value ∙ sym (append-nil found); spelled = s.text_is }

pub each_and : {A B : Type 0} (S : A → List ℕ → B → Type 0) (a : A) (xs : List A) (found : List B) (text : List ℕ)
    (all : List B) → Then (S a) (λ x. EachMore S xs (found ++ x ∷ [])) text all → EachMore S (a ∷ xs) found text all
unfolding SpelledEach
each_and S a xs found text all s = record {
  more = s.a ∷ s.second.more;
  all_is = s.second.all_is ∙ append_assoc found (s.a ∷ []) s.second.more;
  spelled = (s.front, s.back, s.first, s.second.spelled, s.text_is);
}

-- an item for each of these is read exactly
pub ExactTo-each : {A B : Type 0} (m : ℕ) (S : A → List ℕ → B → Type 0) (item : A → Reader B) (Good : A → Type 0)
    → ((a : A) → Good a → ExactTo m (S a) (item a)) → (xs : List A) → AllByRecursion Good xs → (found : List B)
    → ExactTo m (EachMore S xs found) (each_at item xs found)
unfolding each_at
ExactTo-each m S item Good ei [] good found =
    ExactTo-as m (Is found) (EachMore S [] found) (each_at item [] found)
    (each_spelled S found)
    (λ text all s. each_none S found text all s.more s.all_is s.spelled)
    (ExactTo-pure m found)
ExactTo-each m S item Good ei (a ∷ xs) good found =
    ExactTo-as m (Then (S a) (λ x. EachMore S xs (found ++ x ∷ []))) (EachMore S (a ∷ xs) found)
    (each_at item (a ∷ xs) found)
    (each_and S a xs found)
    (λ text all s. each_first S a xs found text all s.more s.all_is s.spelled)
    (then_so m (S a) (λ x. EachMore S xs (found ++ x ∷ [])) (item a) _ (ei a good.0)
    (λ x front s. ExactTo-each m S item Good ei xs good.1 (found ++ x ∷ [])))

-- Items one after the other, and the three lists of a header, are read exactly.
use Rattle.std.proofs.Common.{◌≡◌, ℕ, zero, suc, ◌^◌, ◌<◌, ◌⊎◌, Bool, false, not, ◌&&◌, ◌||◌, eqb, leb, List, [], ◌∷◌, ◌++◌, length, replicate, refl, sym, ap, ap₂, subst, ◌∙◌, append_assoc, append-nil, inl, inr, arith}
use Rattle.std.specs.Int.{w32, to_be_bytes}
use Rattle.std.proofs.lemmas.Bool.{eqb-true, eqb-false, eq-eqb, ne_eqb, cases_eq, lt-leb, not-false, not_from_true, or_cases, or_parts, or_from, or_left, or_right, and_cases, and_left, and_right}
use Rattle.std.proofs.lemmas.List.{nil_from_length}
use Rattle.nc_model.specs.declared.fault.HeaderFault.TheVariants.{BadTag, BadCount}
use Rattle.nc_model.specs.Reading.{items_from, tag_at, list_count, list_at, HeaderParser}
use Rattle.nc_model.specs.Spelling.{SpellsWord, SpellsCount, SpellsList, Spelled}
use Rattle.fm_base.proofs.Exact.{Then, Such, Is, Exact-pure}
use Rattle.nc_model.proofs.Fields.{Exact-tested, SpellsCount-from_word, SpellsWord-from_count}
use Rattle.nc_model.proofs.Steps.{ExactBytes, ExactBytes-then, ExactBytes-as}

-- this holds of each item and those that stand before it
abbrev pub EachFrom : {A : Type 0} → (List A → A → Type 0) → List A → List A → Type 0
EachFrom P found [] = Unit {0}
EachFrom P found (item ∷ items) = P found item × EachFrom P (found ++ item ∷ []) items

-- those that were found, and n more
pub record Adds {A : Type 0} (S : List ℕ → A → Type 0) (P : List A → A → Type 0) (found : List A) (n : ℕ)
    (text : List ℕ) (all : List A) : Type 0 where
  pub more : List A
  pub all_is : all ≡ found ++ more
  pub count : length more ≡ n
  pub spelled : Spelled S text more
  pub each : EachFrom P found more

-- the first of the items that follow, and the others
adds_first : {A : Type 0} (S : List ℕ → A → Type 0) (P : List A → A → Type 0) (found : List A) (n : ℕ) (text : List ℕ)
    (all more : List A)
    → all ≡ found ++ more → length more ≡ suc n → Spelled S text more → EachFrom P found more
    → Then (Such S (P found)) (λ x. Adds S P (found ++ x ∷ []) n) text all
adds_first S P found n text all [] is count s e = absurd (omega arith)
adds_first S P found n text all (x ∷ more) is count s e = record {
  a = x;
  front = s.0;
  back = s.1;
  first = record { spelled = s.2; holds = e.0 };
  second = record {
    more = more;
    all_is = is ∙ sym (append_assoc found (x ∷ []) more);
    count = omega arith;
    spelled =
        s.3;
    each = e.1;
  };
  text_is = s.4;
}

-- items, each of which may count on those before it
pub Exact-items_from : {A : Type 0} (S : List ℕ → A → Type 0) (P : List A → A → Type 0) (item : List A → HeaderParser A)
    → ((found : List A) → ExactBytes (Such S (P found)) (item found)) → (n : ℕ) (found : List A)
    → ExactBytes (Adds S P found n) (items_from item n found)
unfolding items_from
Exact-items_from {A} S P item ei zero found = ExactBytes-as (Is found) (Adds S P found 0) (items_from item zero found)
    (λ text all fits s. record {
      more = [];
      all_is = sym s.value ∙ sym (append-nil found);
      count = refl;
      spelled =
          s.text_is;
      each = tt;
    })
    (λ text all s.
    let none : s.more ≡ [] = nil_from_length s.more s.count in
    record {
      value = sym (s.all_is ∙ ap (λ (l : List A). found ++ l) none ∙ append-nil found);
      text_is =
          subst (λ (l : List A). Spelled S text l) none s.spelled;
    })
    (Exact-pure found)
Exact-items_from {A} S P item ei (suc n) found =
    ExactBytes-as (Then (Such S (P found)) (λ x. Adds S P (found ++ x ∷ []) n)) (Adds S P found (suc n))
    (items_from item (suc n) found)
    (λ text all fits s. record {
      more = s.a ∷ s.second.more;
      all_is = s.second.all_is ∙ append_assoc found (s.a ∷ []) s.second.more;
      count = ap suc s.second.count;
      spelled = (s.front, s.back, s.first.spelled, s.second.spelled, s.text_is);
      each = (s.first.holds, s.second.each);
    })
    (λ text all s. adds_first S P found n text all s.more s.all_is s.count s.spelled s.each)
    (ExactBytes-then _ _ (item found) _ (ei found) (λ x front first. Exact-items_from S P item ei n (found ++ x ∷ [])))

-- the tag of a list, its own or 0
pub record SpellsTag (tag : ℕ) (text : List ℕ) (found : ℕ) : Type 0 where
  pub own : (found ≡ tag) ⊎ (found ≡ 0)
  pub spelled : SpellsWord text found

abbrev is_no_tag : ℕ → ℕ → Bool
is_no_tag tag found = not (eqb found tag || eqb found 0)

no_tag-false : (tag found : ℕ) → is_no_tag tag found ≡ false → (found ≡ tag) ⊎ (found ≡ 0)
no_tag-false tag found e = elim (or_cases _ _ (not-false _ e)) [
  | inl own ↦ inl (eqb-true found tag own)
  | inr none ↦ inr (eqb-true found 0 none)
]

false-no_tag : (tag found : ℕ) → (found ≡ tag) ⊎ (found ≡ 0) → is_no_tag tag found ≡ false
false-no_tag tag found (inl own) = not_from_true _ (or_left _ _ (eq-eqb found tag own))
false-no_tag tag found (inr none) = not_from_true _ (or_right _ _ (eq-eqb found 0 none))

pub Exact-tag_at : (tag : ℕ) → ExactBytes (SpellsTag tag) (tag_at tag)
unfolding tag_at
Exact-tag_at tag = ExactBytes-as (Such SpellsWord (λ found. is_no_tag tag found ≡ false)) (SpellsTag tag) (tag_at tag)
    (λ text found fits s. record { own = no_tag-false tag found s.holds; spelled = s.spelled })
    (λ text found s. record { spelled = s.spelled; holds = false-no_tag tag found s.own })
    (Exact-tested (is_no_tag tag) BadTag)

-- the number of items of a list with this tag
pub record SpellsListCount (tag : ℕ) (text : List ℕ) (n : ℕ) : Type 0 where
  pub none : tag ≡ 0 → n ≡ 0
  pub counted : SpellsCount text n

abbrev is_no_list_count : ℕ → ℕ → Bool
is_no_list_count tag n = leb (2 ^ 31) n || (eqb tag 0 && not (eqb n 0))

none_absent : (tag n : ℕ) → (eqb tag 0 && not (eqb n 0)) ≡ false → tag ≡ 0 → n ≡ 0
none_absent tag n e absent = elim (and_cases _ _ e) [
  | inl other ↦ absurd (eqb-false tag 0 other absent)
  | inr none ↦ eqb-true n 0 (not-false _ none)
]

absent_none : (tag n : ℕ) → (tag ≡ 0 → n ≡ 0) → (eqb tag 0 && not (eqb n 0)) ≡ false
absent_none tag n none = elim (cases_eq tag 0) [
  | inl absent ↦ and_right _ _ (not_from_true _ (eq-eqb n 0 (none absent)))
  | inr other ↦ and_left _ _ (ne_eqb tag 0 other)
]

pub Exact-list_count : (tag : ℕ) → ExactBytes (SpellsListCount tag) (list_count tag)
unfolding list_count
Exact-list_count tag = ExactBytes-as (Such SpellsWord (λ n. is_no_list_count tag n ≡ false)) (SpellsListCount tag)
    (list_count tag)
    (λ text n fits s.
    let good = or_parts _ _ s.holds in
    record { none = none_absent tag n good.1; counted = SpellsCount-from_word text n s.spelled good.0 })
    (λ text n s. record {
      spelled = SpellsWord-from_count text n s.counted;
      holds =
          or_from _ _ (lt-leb (2 ^ 31) n s.counted.small) (absent_none tag n s.none);
    })
    (Exact-tested (is_no_list_count tag) BadCount)

-- a list as it is read: the tag that was found, a count, and the items
abbrev pub ListAsRead : {A : Type 0} → ℕ → (List ℕ → A → Type 0) → (List A → A → Type 0) → List ℕ → List A → Type 0
ListAsRead tag S P = Then (SpellsTag tag) (λ found. Then (SpellsListCount found) (λ n. Adds S P [] n))

pub list_spelled : {A : Type 0} (tag : ℕ) (S : List ℕ → A → Type 0) (P : List A → A → Type 0) (text : List ℕ)
    (items : List A)
    → ListAsRead tag S P text items → SpellsList tag S text items
list_spelled {A} tag S P text items s =
    let adds = s.second.second in
    let all : adds.more ≡ items = sym adds.all_is in
    elim s.first.own [
      | inl own ↦ inr (record {
        count_text = s.second.front;
        items_text = s.second.back;
        count = subst (SpellsCount s.second.front) (sym adds.count ∙ ap length all) s.second.first.counted;
        each = subst (Spelled S s.second.back) all adds.spelled;
        text_is = s.text_is ∙ ap₂ (λ (a b : List ℕ). a ++ b)
            (s.first.spelled.text_is ∙ ap (to_be_bytes w32) own) s.second.text_is;
      })
      | inr absent ↦
          let zero : s.second.a ≡ 0 = s.second.first.none absent in
          let none : adds.more ≡ [] = nil_from_length adds.more (adds.count ∙ zero) in
          let no_text : s.second.back ≡ [] = subst (Spelled S s.second.back) none adds.spelled in
          let front : s.front ≡ replicate 4 0 = s.first.spelled.text_is ∙ ap (to_be_bytes w32) absent in
          let counted : s.second.front ≡ replicate 4 0 = s.second.first.counted.text_is ∙ ap (to_be_bytes w32) zero in
          inl (record {
            none = sym all ∙ none;
            text_is = s.text_is ∙ ap₂ (λ (a b : List ℕ). a ++ b) front
                (s.second.text_is ∙ ap₂ (λ (a b : List ℕ). a ++ b) counted no_text);
          })
    ]

list_read : {A : Type 0} (tag : ℕ) (S : List ℕ → A → Type 0) (P : List A → A → Type 0) (text : List ℕ) (items : List A)
    → 0 < tag → tag < 2 ^ 32
    → EachFrom P [] items → SpellsList tag S text items → ListAsRead tag S P text items
list_read tag S P text items some small each (inl absent) = record {
  a = 0;
  front = replicate 4 0;
  back = replicate 4 0;
  first = record { own = inr refl; spelled = record { small = omega arith; text_is = refl } };
  second = record {
    a = 0;
    front = replicate 4 0;
    back = [];
    first = record { none = λ _. refl; counted = record { small = omega arith; text_is = refl } };
    second = record { more = []; all_is = absent.none; count = refl; spelled = refl; each = tt };
    text_is = refl;
  };
  text_is = absent.text_is;
}
list_read tag S P text items some small each (inr tagged) = record {
  a = tag;
  front = to_be_bytes w32 tag;
  back = tagged.count_text ++ tagged.items_text;
  first = record { own = inl refl; spelled = record { small = small; text_is = refl } };
  second = record {
    a = length items;
    front = tagged.count_text;
    back = tagged.items_text;
    first = record { none = λ absent. absurd (omega arith); counted = tagged.count };
    second = record { more = items; all_is = refl; count = refl; spelled = tagged.each; each = each };
    text_is = refl;
  };
  text_is = tagged.text_is;
}

pub Exact-list_at : {A : Type 0} (tag : ℕ) (S : List ℕ → A → Type 0) (P : List A → A → Type 0)
    (item : List A → HeaderParser A) → 0 < tag
    → tag < 2 ^ 32 → ((found : List A) → ExactBytes (Such S (P found)) (item found))
    → ExactBytes (Such (SpellsList tag S) (EachFrom P [])) (list_at tag item)
unfolding list_at
Exact-list_at tag S P item some small ei =
    ExactBytes-as (ListAsRead tag S P) (Such (SpellsList tag S) (EachFrom P [])) (list_at tag item)
    (λ text items fits s. record {
      spelled = list_spelled tag S P text items s;
      holds =
          subst (EachFrom P []) (sym s.second.second.all_is) s.second.second.each;
    })
    (λ text items s. list_read tag S P text items some small s.holds s.spelled)
    (ExactBytes-then (SpellsTag tag) _ (tag_at tag) _ (Exact-tag_at tag)
    (λ found front first. ExactBytes-then (SpellsListCount found) _ (list_count found) _ (Exact-list_count found)
    (λ n front first. Exact-items_from S P item ei n [])))

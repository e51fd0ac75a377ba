-- Items, each behind the mark of one more, are read exactly.
use Rattle.std.proofs.Common.{◌≡◌, ℕ, zero, suc, ◌<◌, Bool, true, false, cond, List, [], ◌++◌, length, refl, sym, ap, subst, ◌∙◌, append-nil, length-append, arith}
use Rattle.fm_base.specs.Parser.{◌>>=◌, pure}
use Rattle.fm_base.proofs.Exact.{Then, Is, onto}
use Rattle.fm_base.proofs.Local.{fault_is}
use Rattle.fm_base.proofs.Parts.{Example}
use Rattle.dap_client.specs.Reading.{Reader, items_at, many_at}
use Rattle.dap_client.proofs.Exactly.{ExactTo, ExactTo-as, ExactTo-by_left, ExactTo-pure}
use Rattle.dap_client.proofs.Joined.{ExactTo-then, then_so}

-- n items that lead from one value to another, each behind a mark, and the mark of the end
unfoldable pub Many : {A : Type 0} → (List ℕ → Bool → Type 0) → (A → List ℕ → A → Type 0) → ℕ → A → List ℕ → A → Type 0
Many M S zero found text all = M text false × (found ≡ all)
Many {A} M S (suc n) found text all =
    (mark : List ℕ) × (item : List ℕ) × (others : List ℕ) × (next : A) × M mark true × S found item next
    × Many M S n next others all × (text ≡ mark ++ (item ++ others))

-- some number of items
pub record AreMany {A : Type 0} (M : List ℕ → Bool → Type 0) (S : A → List ℕ → A → Type 0) (found : A) (text : List ℕ)
    (all : A) : Type 0 where
  pub count : ℕ
  pub spelled : Many M S count found text all

-- what is known of a mark and of items: a mark has a byte or more, and what holds of a value holds after an item
pub record IsLoop {A : Type 0} (M : List ℕ → Bool → Type 0) (S : A → List ℕ → A → Type 0) (Good : A
    → Type 0) : Type 0 where
  pub some : (text : List ℕ) (more : Bool) → M text more → 0 < length text
  pub end : List ℕ
  pub ends : M end false
  pub keeps : (found next : A) (text : List ℕ) → Good found → S found text next → Good next

many_some : {A : Type 0} (M : List ℕ → Bool → Type 0) (S : A → List ℕ → A → Type 0)
    → ((text : List ℕ) (more : Bool) → M text more → 0 < length text) → (n : ℕ) (found : A) (text : List ℕ) (all : A)
    → Many M S n found text all → 0 < length text
unfolding Many
many_some M S some zero found text all s = some text false s.0
many_some M S some (suc n) found text all s =
    let one = some s.0 true s.4 in
    omega (arith, one, ap length s.7, length-append s.0 (s.1 ++ s.2))

-- what follows a mark
abbrev Behind : {A : Type 0} → (List ℕ → Bool → Type 0) → (A → List ℕ → A → Type 0) → A → Bool → List ℕ → A → Type 0
Behind M S found true = Then (S found) (λ next. AreMany M S next)
Behind M S found false = Is found

many_spelled : {A : Type 0} (M : List ℕ → Bool → Type 0) (S : A → List ℕ → A → Type 0) (found : A) (text : List ℕ)
    (all : A) → Then M (Behind M S found) text all → AreMany M S found text all
unfolding Many
many_spelled {A} M S found text all s = by_mark s.a s.first s.second
  where
    by_mark : (more : Bool) → M s.front more → Behind M S found more s.back all → AreMany M S found text all
    by_mark false mark none =
        let whole : s.front ≡ text = sym (s.text_is ∙ onto s.front none.text_is ∙ append-nil s.front) in
        record { count = 0; spelled = (subst (λ (l : List ℕ). M l false) whole mark, none.value) }
    by_mark true mark one = record {
      count = suc one.second.count;
      spelled = (
        s.front,
        one.front,
        one.back,
        one.a,
        mark,
        one.first,
        one.second.spelled,
        s.text_is ∙ onto s.front one.text_is,
      );
    }

many_read : {A : Type 0} (M : List ℕ → Bool → Type 0) (S : A → List ℕ → A → Type 0) (n : ℕ) (found : A) (text : List ℕ)
    (all : A) → Many M S n found text all → Then M (Behind M S found) text all
unfolding Many
many_read M S zero found text all s = record {
  a = false;
  front = text;
  back = [];
  first = s.0;
  second = record { value = s.1; text_is = refl };
  text_is = sym (append-nil text);
}
many_read M S (suc n) found text all s = record {
  a = true;
  front = s.0;
  back = s.1 ++ s.2;
  first = s.4;
  second = record {
    a = s.3;
    front = s.1;
    back = s.2;
    first = s.5;
    second = record { count = n; spelled = s.6 };
    text_is = refl;
  };
  text_is = s.7;
}

-- items within as many turns as there are bytes
pub ExactTo-many : {A : Type 0} (M : List ℕ → Bool → Type 0) (S : A → List ℕ → A → Type 0) (Good : A → Type 0)
    (mark : Reader Bool) (item : A → Reader A) → IsLoop M S Good
    → ((m : ℕ) → ExactTo m M mark)
    → ((m : ℕ) (found : A) → Good found → ExactTo m (S found) (item found))
    → (n : ℕ) (found : A) → Good found → ExactTo n (AreMany M S found) (many_at mark item n found)
unfolding many_at Many
ExactTo-many {A} M S Good mark item loop em ei zero found good = record {
  some = ended;
  takes = λ i all j of fits e. absurd cc;
  fails = λ i at of fits e. record {
    front = [];
    others = i.rest;
    more = ended.text;
    a = ended.a;
    split = refl;
    offset = let same : at ≡ i.at = fault_is {A = A} at i.at (sym e) in omega (arith, same);
    spelled = ended.spelled;
    reach = λ front others more all split s. omega (arith, fits, ap length split, length-append front others);
  };
  again = λ at text rest all fits s.
      let one = many_some M S loop.some s.count found text all s.spelled in
      absurd (omega (arith, one, fits, length-append text rest));
}
  where
    ended : Example (AreMany M S found)
    ended = record { text = loop.end; a = found; spelled = record { count = 0; spelled = (loop.ends, refl) } }
ExactTo-many {A} M S Good mark item loop em ei (suc n) found good =
    ExactTo-as (suc n) (Then M (Behind M S found)) (AreMany M S found) (many_at mark item (suc n) found)
    (many_spelled M S found)
    (λ text all s. many_read M S s.count found text all s.spelled)
    (ExactTo-then (suc n) n M (Behind M S found) mark _
    (λ front more s. let one = loop.some front more s in omega (arith, one))
    (em (suc n)) (λ more front s. by_mark more (ExactTo-many M S Good mark item loop em ei n)))
  where
    by_mark : (more : Bool)
        → ((next : A) → Good next → ExactTo n (AreMany M S next) (many_at mark item n next))
        → ExactTo n (Behind M S found more)
        (cond more (item found >>= λ next. many_at mark item n next) (pure found))
    by_mark false later = ExactTo-pure n found
    by_mark true later =
        then_so n (S found) (λ next. AreMany M S next) (item found) (λ next. many_at mark item n next)
        (ei n found good)
        (λ next front s. later next (loop.keeps found next front good s))

-- items, up to the mark of the end
pub ExactTo-items : {A : Type 0} (n : ℕ) (M : List ℕ → Bool → Type 0) (S : A → List ℕ → A → Type 0) (Good : A → Type 0)
    (mark : Reader Bool) (item : A → Reader A) → IsLoop M S Good
    → ((m : ℕ) → ExactTo m M mark)
    → ((m : ℕ) (found : A) → Good found → ExactTo m (S found) (item found))
    → (found : A) → Good found → ExactTo n (AreMany M S found) (items_at mark item found)
ExactTo-items n M S Good mark item loop em ei found good =
    ExactTo-by_left n (AreMany M S found) (λ m. many_at mark item m found)
    (λ m. ExactTo-many M S Good mark item loop em ei m found good)

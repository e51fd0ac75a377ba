-- Exact readers one after the other are exact.
use Rattle.std.proofs.Common.{◌≡◌, ◌⊎◌, inl, inr, ℕ, ◌+◌, ◌≤◌, List, [], ◌∷◌, ◌++◌, length, Ok, Err, refl, sym, ap, ap₂, subst, ◌∙◌, append_assoc, append-nil, length-append, get_or, drop, arith}
use Rattle.fm_base.specs.Input.{Input}
use Rattle.fm_base.specs.Parser.{Outcome, and_then, ◌>>=◌, pure}
use Rattle.nc_model.specs.Format.{IsBytes}
use Rattle.fm_base.proofs.Exact.{input, Took, Then, Is, onto, bind_ok, ok_pair}
use Rattle.fm_base.proofs.Local.{stepped, fault_is}
use Rattle.fm_base.proofs.Parts.{example_then}
use Rattle.nc_model.proofs.Steps.{IsOfParts-bytes}
use Rattle.dap_client.specs.Reading.{Reader}
use Rattle.dap_client.proofs.Exactly.{Dies, ExactTo, ExactTo-as, ExactTo-pure, ReadsTo, Reaches}

-- one text that begins with another, or goes on with it
pub record Within (x f : List ℕ) : Type 0 where
  pub more : List ℕ
  pub f_is : f ≡ x ++ more

pub record Beyond (x y f g : List ℕ) : Type 0 where
  pub byte : ℕ
  pub more : List ℕ
  pub x_is : x ≡ f ++ byte ∷ more
  pub g_is : g ≡ byte ∷ (more ++ y)

-- of two cuts of a text, the second isn't before the first, or it is
pub overlap : (x y f g : List ℕ) → x ++ y ≡ f ++ g → Within x f ⊎ Beyond x y f g
overlap [] y f g e = inl (record { more = f; f_is = refl })
overlap (b ∷ x) y [] g e = inr (record { byte = b; more = x; x_is = refl; g_is = sym e })
overlap (b ∷ x) y (c ∷ f) g e =
    let whole : b ∷ (x ++ y) ≡ c ∷ (f ++ g) = e in
    let head : b ≡ c = ap (λ (l : List ℕ). get_or l 0 0) whole in
    let tails : x ++ y ≡ f ++ g = ap (λ (l : List ℕ). drop 1 l) whole in
    elim (overlap x y f g tails) [
      | inl w ↦ inl (record { more = w.more; f_is = ap₂ (λ (h : ℕ) (l : List ℕ). h ∷ l) (sym head) w.f_is })
      | inr o ↦ inr (record {
        byte = o.byte;
        more = o.more;
        x_is = ap₂ (λ (h : ℕ) (l : List ℕ). h ∷ l) head o.x_is;
        g_is = o.g_is;
      })
    ]

-- what is left behind the second cut
cut_rest : (rest front others f : List ℕ) (byte : ℕ) (more : List ℕ) → rest ≡ front ++ others
    → front ≡ f ++ byte ∷ more
    → rest ≡ f ++ (byte ∷ (more ++ others))
cut_rest rest front others f byte more split is =
    split ∙ ap (λ (l : List ℕ). l ++ others) is ∙ append_assoc f (byte ∷ more) others

-- the reach behind a first part that was read
reach_after : {A B : Type 0} (n len : ℕ) (S : List ℕ → A → Type 0) (T : A → List ℕ → B → Type 0) (p : Reader A)
    (i : Input) (a : A) (j : Input) → ExactTo n S p
    → length i.rest ≤ n → p i ≡ Ok (a, j) → (first : ReadsTo S i a j) → Reaches (T a) j.rest len
    → Reaches (Then S T) i.rest (length first.took.text + len)
reach_after {A} {B} n len S T p i a j ep fits read first second = λ front others more b split s.
    elim (overlap front more s.front s.back s.text_is) [
      | inl w ↦
          let whole : S (front ++ w.more) s.a = subst (λ (l : List ℕ). S l s.a) w.f_is s.first in
          let short = first.reach front others w.more s.a split whole in
          omega (arith, short)
      | inr o ↦
          let tail = o.byte ∷ (o.more ++ others) in
          let rest : i.rest ≡ s.front ++ tail = cut_rest i.rest front others s.front o.byte o.more split o.x_is in
          let fits_so : length (s.front ++ tail) ≤ n = subst (λ (l : List ℕ). length l ≤ n) rest fits in
          let again = ep.again i.at s.front tail s.a fits_so s.first in
          let pair = ok_pair {E = ℕ} a s.a j (input (i.at + length s.front) tail)
          (sym read ∙ ap (λ (l : List ℕ). p (input i.at l)) rest ∙ again) in
          let there : j.rest ≡ tail = ap (λ (k : Input). k.rest) pair.1 in
          let text : T s.a (o.byte ∷ (o.more ++ more)) b = subst (λ (l : List ℕ). T s.a l b) o.g_is s.second in
          let same : T a (o.byte ∷ (o.more ++ more)) b =
          subst (λ (x : A). T x (o.byte ∷ (o.more ++ more)) b) (sym pair.0) text in
          let beyond : length (o.byte ∷ o.more) ≤ len = second (o.byte ∷ o.more) others more b there same in
          let offset : j.at ≡ i.at + length s.front = ap (λ (k : Input). k.at) pair.1 in
          omega (arith, beyond, ap length o.x_is, length-append s.front (o.byte ∷ o.more), first.took.offset, offset)
    ]

-- the reach where a first part fails
reach_failed : {A B : Type 0} (n at : ℕ) (S : List ℕ → A → Type 0) (T : A → List ℕ → B → Type 0) (p : Reader A)
    (i : Input) → ExactTo n S p
    → length i.rest ≤ n → p i ≡ Err at → (first : Dies S i at) → Reaches (Then S T) i.rest (length first.front)
reach_failed {A} {B} n at S T p i ep fits failed first = λ front others more b split s.
    elim (overlap front more s.front s.back s.text_is) [
      | inl w ↦
          let whole : S (front ++ w.more) s.a = subst (λ (l : List ℕ). S l s.a) w.f_is s.first in
          first.reach front others w.more s.a split whole
      | inr o ↦
          let tail = o.byte ∷ (o.more ++ others) in
          let rest : i.rest ≡ s.front ++ tail = cut_rest i.rest front others s.front o.byte o.more split o.x_is in
          let fits_so : length (s.front ++ tail) ≤ n = subst (λ (l : List ℕ). length l ≤ n) rest fits in
          let again = ep.again i.at s.front tail s.a fits_so s.first in
          let isnt = sym failed ∙ ap (λ (l : List ℕ). p (input i.at l)) rest ∙ again in
          absurd cc
    ]

-- what is left behind a first part that was read
left_bytes : {A : Type 0} (S : List ℕ → A → Type 0) (i : Input) (a : A) (j : Input) → Took S i a j → IsBytes i.rest
    → IsBytes j.rest
left_bytes S i a j took of = IsOfParts-bytes.back took.text j.rest (subst IsBytes took.split of)

left_fits : {A : Type 0} (n m : ℕ) (S : List ℕ → A → Type 0) (i : Input) (a : A) (j : Input) → (took : Took S i a j)
    → n ≤ m + length took.text → length i.rest ≤ n → length j.rest ≤ m
left_fits n m S i a j took room fits = omega (arith, room, fits, ap length took.split, length-append took.text j.rest)

-- both parts were read
then_takes : {A B : Type 0} (n m : ℕ) (S : List ℕ → A → Type 0) (T : A → List ℕ → B → Type 0) (p : Reader A)
    (q : A → Reader B) → ((front : List ℕ) (a : A) → S front a → n ≤ m + length front) → ExactTo n S p
    → ((a : A) (front : List ℕ) → S front a → ExactTo m (T a) (q a))
    → (i : Input) (b : B) (k : Input) → IsBytes i.rest → length i.rest ≤ n → (p >>= q) i ≡ Ok (b, k)
    → ReadsTo (Then S T) i b k
then_takes {A} {B} n m S T p q room ep eq i b k of fits e =
    let x = bind_ok (p i) q (b, k) e in
    let a = x.0.0 in
    let j = x.0.1 in
    let first = ep.takes i a j of fits x.1 in
    let took = first.took in
    let left = left_bytes S i a j took of in
    let few = left_fits n m S i a j took (room took.text a took.spelled) fits in
    let second = (eq a took.text took.spelled).takes j b k left few x.2 in
    let both = second.took in
    let reach = reach_after n (length both.text) S T p i a j ep fits x.1 first second.reach in
    record {
      took = record {
        text = took.text ++ both.text;
        spelled = record {
          a = a;
          front = took.text;
          back = both.text;
          first = took.spelled;
          second = both.spelled;
          text_is = refl;
        };
        split = took.split ∙ onto took.text both.split ∙ sym (append_assoc took.text both.text k.rest);
        offset = omega (arith, took.offset, both.offset, length-append took.text both.text);
      };
      reach = λ front others more c split s.
          let short = reach front others more c split s in
          omega (arith, short, length-append took.text both.text);
    }

-- the first part fails
then_fails_first : {A B : Type 0} (n m at : ℕ) (S : List ℕ → A → Type 0) (T : A → List ℕ → B → Type 0) (p : Reader A)
    (q : A → Reader B) → ExactTo n S p
    → ((a : A) (front : List ℕ) → S front a → ExactTo m (T a) (q a))
    → (i : Input) → IsBytes i.rest → length i.rest ≤ n → p i ≡ Err at → Dies (Then S T) i at
then_fails_first {A} {B} n m at S T p q ep eq i of fits e =
    let first = ep.fails i at of fits e in
    let last = (eq first.a (first.front ++ first.more) first.spelled).some in
    record {
      front = first.front;
      others = first.others;
      more = first.more ++ last.text;
      a = last.a;
      split = first.split;
      offset = first.offset;
      spelled = record {
        a = first.a;
        front = first.front ++ first.more;
        back = last.text;
        first = first.spelled;
        second = last.spelled;
        text_is = sym (append_assoc first.front first.more last.text);
      };
      reach = reach_failed n at S T p i ep fits e first;
    }

-- the second part fails
then_fails_second : {A B : Type 0} (n m at : ℕ) (S : List ℕ → A → Type 0) (T : A → List ℕ → B → Type 0) (p : Reader A)
    (q : A → Reader B) → ((front : List ℕ) (a : A) → S front a → n ≤ m + length front) → ExactTo n S p
    → ((a : A) (front : List ℕ) → S front a → ExactTo m (T a) (q a))
    → (i : Input) (a : A) (j : Input) → IsBytes i.rest → length i.rest ≤ n → p i ≡ Ok (a, j) → q a j ≡ Err at
    → Dies (Then S T) i at
then_fails_second {A} {B} n m at S T p q room ep eq i a j of fits read e =
    let first = ep.takes i a j of fits read in
    let took = first.took in
    let left = left_bytes S i a j took of in
    let few = left_fits n m S i a j took (room took.text a took.spelled) fits in
    let second = (eq a took.text took.spelled).fails j at left few e in
    let reach = reach_after n (length second.front) S T p i a j ep fits read first second.reach in
    record {
      front = took.text ++ second.front;
      others = second.others;
      more = second.more;
      a = second.a;
      split = took.split ∙ onto took.text second.split ∙ sym (append_assoc took.text second.front second.others);
      offset = omega (arith, took.offset, second.offset, length-append took.text second.front);
      spelled = record {
        a = a;
        front = took.text;
        back = second.front ++ second.more;
        first = took.spelled;
        second = second.spelled;
        text_is = append_assoc took.text second.front second.more;
      };
      reach = λ front others more c split s.
          let short = reach front others more c split s in
          omega (arith, short, length-append took.text second.front);
    }

-- both parts again
then_again : {A B : Type 0} (n m : ℕ) (S : List ℕ → A → Type 0) (T : A → List ℕ → B → Type 0) (p : Reader A)
    (q : A → Reader B) → ((front : List ℕ) (a : A) → S front a → n ≤ m + length front) → ExactTo n S p
    → ((a : A) (front : List ℕ) → S front a → ExactTo m (T a) (q a))
    → (at : ℕ) (text rest : List ℕ) (b : B) → length (text ++ rest) ≤ n → Then S T text b
    → (p >>= q) (input at (text ++ rest)) ≡ Ok (b, input (at + length text) rest)
then_again {A} {B} n m S T p q room ep eq at text rest b fits s =
    let whole : text ++ rest ≡ s.front ++ (s.back ++ rest) = ap (λ (l : List ℕ). l ++ rest) s.text_is
    ∙ append_assoc s.front s.back rest in
    let fits_so : length (s.front ++ (s.back ++ rest)) ≤ n = subst (λ (l : List ℕ). length l ≤ n) whole fits in
    let few : length (s.back ++ rest) ≤ m =
    omega (arith, fits_so, room s.front s.a s.first, length-append s.front (s.back ++ rest)) in
    let first = ep.again at s.front (s.back ++ rest) s.a fits_so s.first in
    let second = (eq s.a s.front s.first).again (at + length s.front) s.back rest b few s.second in
    let len : at + length s.front + length s.back ≡ at + length text =
    omega (arith, ap length s.text_is, length-append s.front s.back) in
    ap (λ (l : List ℕ). and_then (p (input at l)) q) whole
    ∙ ap (λ (r : Outcome A ℕ). and_then r q) first
    ∙ second
    ∙ ap (λ (k : ℕ). Ok (b, input k rest)) len

-- one reader and then another, which may count on what the first has read, and on fewer bytes that are left
pub ExactTo-then : {A B : Type 0} (n m : ℕ) (S : List ℕ → A → Type 0) (T : A → List ℕ → B → Type 0) (p : Reader A)
    (q : A → Reader B) → ((front : List ℕ) (a : A) → S front a → n ≤ m + length front) → ExactTo n S p
    → ((a : A) (front : List ℕ) → S front a → ExactTo m (T a) (q a)) → ExactTo n (Then S T) (p >>= q)
ExactTo-then {A} {B} n m S T p q room ep eq = record {
  some = example_then {T = T} ep.some (eq ep.some.a ep.some.text ep.some.spelled).some;
  takes = then_takes n m S T p q room ep eq;
  fails = λ i at of fits e. elim (stepped {A = A} {B = B} (p i) q (Err at) e) [
    | inl f ↦
        let same : at ≡ f.0 = fault_is {A = B} at f.0 f.2 in
        then_fails_first n m at S T p q ep eq i of fits (f.1 ∙ ap (λ (k : ℕ). Err k) (sym same))
    | inr s ↦ then_fails_second n m at S T p q room ep eq i s.a s.j of fits s.first s.second
  ];
  again = then_again n m S T p q room ep eq;
}

-- one reader and then another, with as many bytes left
pub then_so : {A B : Type 0} (n : ℕ) (S : List ℕ → A → Type 0) (T : A → List ℕ → B → Type 0) (p : Reader A)
    (q : A → Reader B) → ExactTo n S p
    → ((a : A) (front : List ℕ) → S front a → ExactTo n (T a) (q a)) → ExactTo n (Then S T) (p >>= q)
then_so n S T p q ep eq = ExactTo-then n n S T p q (λ front a s. omega arith) ep eq

-- a value that is made of what was read
pub ExactTo-made : {A B : Type 0} (n : ℕ) (S : List ℕ → A → Type 0) (T : List ℕ → B → Type 0) (p : Reader A) (g : A → B)
    → ((text : List ℕ) (x : A) → S text x → T text (g x))
    → ((text : List ℕ) (y : B) → T text y → (x : A) × S text x × (g x ≡ y))
    → ExactTo n S p → ExactTo n T (p >>= λ x. pure (g x))
ExactTo-made {A} {B} n S T p g to from ep =
    ExactTo-as n (Then S (λ x. Is (g x))) T (p >>= λ x. pure (g x))
    (λ text y s.
    let whole : text ≡ s.front = s.text_is ∙ onto s.front s.second.text_is ∙ append-nil s.front in
    subst (λ (l : List ℕ). T l y) (sym whole) (subst (T s.front) s.second.value (to s.front s.a s.first)))
    (λ text y t.
    let x = from text y t in
    record {
      a = x.0;
      front = text;
      back = [];
      first = x.1;
      second = record { value = x.2; text_is = refl };
      text_is = sym (append-nil text);
    })
    (then_so n S (λ x. Is (g x)) p (λ x. pure (g x)) ep (λ x front s. ExactTo-pure n (g x)))

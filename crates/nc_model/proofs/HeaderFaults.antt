-- Where the faults of a header stand, and the fields of a header: each depends on its own bytes and fails where it
-- begins.
use Rattle.std.proofs.Common.{◌≡◌, ◌⊎◌, inl, inr, ℕ, ◌+◌, ◌<◌, ◌≤◌, Bool, true, false, cond, ltb, List, length, take, Option, Some, None, Ok, Err, refl, sym, ap, subst, ◌∙◌, length-take, arith}
use Rattle.std.proofs.lemmas.Bool.{ltb-false, le-ltb, ltb-true, lt-ltb}
use Rattle.nc_model.specs.declared.fault.HeaderFault.{HeaderFault}
use Rattle.nc_model.specs.declared.fault.HeaderFault.TheVariants.{Truncated}
use Rattle.nc_model.specs.FaultOffsets.{StandsAt}
use Rattle.fm_base.specs.Input.{Input}
use Rattle.fm_base.specs.Parser.{Outcome, and_then, ◌>>=◌, pure, unless, known}
use Rattle.nc_model.specs.Reading.{HeaderParser, field}
use Rattle.fm_base.proofs.Exact.{input, ok_pair}
use Rattle.fm_base.proofs.ListLemmas.{agree_less, Agree}
use Rattle.fm_base.proofs.Local.{Offsets, Beyond, Local, after, failed, fault_is, Local-then}
use Rattle.fm_base.proofs.LocalSteps.{Local-pure}

-- a field that is cut short stands at this offset or later
abbrev pub IsCutLater : ℕ → HeaderFault → Type 0
IsCutLater n (Truncated at) = n ≤ at
IsCutLater n fault = Unit {0}

-- a field that is cut short stands at this offset
abbrev pub IsCutAt : ℕ → HeaderFault → Type 0
IsCutAt n (Truncated at) = at ≡ n
IsCutAt n fault = ⊥

pub cut_later : (m n : ℕ) (fault : HeaderFault) → m ≤ n → IsCutLater n fault → IsCutLater m fault
cut_later m n (Truncated at) less h = omega arith
cut_later m n fault less h = tt

-- the fault isn't that of a field that is cut short
abbrev pub IsUncut : HeaderFault → Type 0
IsUncut fault = (n : ℕ) → IsCutLater n fault

-- the faults of a header; nothing is looked at beyond a field
abbrev pub offsets : Offsets HeaderFault
offsets = record {
  ahead = 0;
  Stands = StandsAt;
  IsCut = IsCutAt;
  Later = IsCutLater;
  IsUncut = λ size. IsUncut;
  later_less = cut_later;
}

-- all faults of this parser stand where it begins
abbrev pub IsLeaf : {A : Type 0} → HeaderParser A → Type 0
IsLeaf p = (at : ℕ) (rest : List ℕ) (fault : HeaderFault) → p (input at rest) ≡ Err fault → StandsAt fault at

-- a parser takes a byte at least
abbrev pub Advances : {A : Type 0} → HeaderParser A → Type 0
Advances {A} p = (at : ℕ) (rest : List ℕ) (a : A) (j : Input) → p (input at rest) ≡ Ok (a, j) → at < j.at

field_by : {A : Type 0} (b : Bool) (fault : HeaderFault) (x : A) (y : A) (i j : Input)
    → cond b (failed {A = A} fault) (Ok (x, i)) ≡ Ok (y, j)
    → (b ≡ false) × (x ≡ y) × (i ≡ j)
field_by true fault x y i j e = absurd cc
field_by false fault x y i j e = let k = ok_pair x y i j e in (refl, k.0, k.1)

field_fault : {A : Type 0} (b : Bool) (cut fault : HeaderFault) (x : A) (i : Input)
    → cond b (failed {A = A} cut) (Ok (x, i)) ≡ Err fault → (b ≡ true) × (cut ≡ fault)
field_fault {A} true cut fault x i e = (refl, fault_is {A = A} cut fault e)
field_fault false cut fault x i e = absurd cc

field_again : (n at : ℕ) (other : List ℕ) → n ≤ length other
    → field n (input at other) ≡ Ok (take n other, after n (input at other))
field_again n at other long = rw (le-ltb (length other) n long) refl

length_agrees : (n : ℕ) (rest other : List ℕ) → n ≤ length rest → Agree n rest other → n ≤ length other
length_agrees n rest other within same = omega (arith, length-take n rest, length-take n other, ap length same)

pub Local-field : (n : ℕ) → Local offsets (field n)
Local-field n = record {
  takes = λ at rest a j e.
      let k = field_by (ltb (length rest) n) (Truncated at) (take n rest) a (after n (input at rest)) j e in
      let within : n ≤ length rest = ltb-false _ _ k.0 in
      record {
        count = n;
        input_is = sym k.2;
        within = within;
        again = λ other looked.
            let same : Agree n rest other = agree_less n (n + 0) rest other (omega arith) looked in
            field_again n at other (length_agrees n rest other within same)
            ∙ ap (λ (l : List ℕ). Ok (l, after n (input at other))) (sym same ∙ k.1);
      };
  fails = λ at rest fault e.
      let k = field_fault (ltb (length rest) n) (Truncated at) fault (take n rest) (after n (input at rest)) e in
      let short : length rest < n = ltb-true _ _ k.0 in
      let offset : at ≡ at + 0 = omega arith in
      record {
        count = 0;
        size = n;
        some = omega arith;
        why = inr (record {
          blind = refl;
          within = omega arith;
          short = omega arith;
          fault_is = subst (λ (f : HeaderFault). IsCutAt (at + 0) f) k.1 offset;
          again = λ other same ends. rw (lt-ltb (length other) n (omega arith), k.1) refl;
          long = λ other same goes_on. rw (field_again n at other (omega arith)) (omega arith);
        });
      };
  forward = λ at rest. by_length at rest (ltb (length rest) n);
}
  where
    by_length : (at : ℕ) (rest : List ℕ) (b : Bool)
        → Beyond offsets at (cond b (failed {A = List ℕ} (Truncated at)) (Ok (take n rest, after n (input at rest))))
    by_length at rest true = omega arith
    by_length at rest false = omega arith

pub leaf_field : (n : ℕ) → IsLeaf (field n)
leaf_field n at rest fault e =
    let k = field_fault (ltb (length rest) n) (Truncated at) fault (take n rest) (after n (input at rest)) e in
    subst (λ (y : HeaderFault). StandsAt y at) k.1 refl

pub leaf_map : {A B : Type 0} (p : HeaderParser A) (g : A → B) → IsLeaf p → IsLeaf (p >>= λ x. pure (g x))
leaf_map {A} {B} p g lp at rest fault e = by_outcome (p (input at rest)) refl e
  where
    by_outcome : (r : Outcome A HeaderFault) → p (input at rest) ≡ r → and_then r (λ x. pure (g x)) ≡ Err fault
        → StandsAt fault at
    by_outcome (Ok x) is f = absurd cc
    by_outcome (Err first) is f = subst (λ (y : HeaderFault). StandsAt y at) (fault_is {A = B} first fault f)
        (lp at rest first is)

-- a field of a byte or more
pub record OneField {A : Type 0} (p : HeaderParser A) : Type 0 where
  pub local : Local offsets p
  pub leaf : IsLeaf p
  pub moves : Advances p

pub OneField-field : (n : ℕ) → 0 < n → OneField (field n)
OneField-field n some = record {
  local = Local-field n;
  leaf = leaf_field n;
  moves = λ at rest a j e.
      let k = field_by (ltb (length rest) n) (Truncated at) (take n rest) a (after n (input at rest)) j e in
      let offset : at + n ≡ j.at = ap (λ (i : Input). i.at) k.2 in
      omega arith;
}

pub advances_then : {A B : Type 0} (p : HeaderParser A) (q : A → HeaderParser B) → Advances p
    → ((a : A) → Local offsets (q a)) → Advances (p >>= q)
advances_then {A} {B} p q moves lq at rest b k e = by_first (p (input at rest)) refl e
  where
    by_first : (r : Outcome A HeaderFault) → p (input at rest) ≡ r → and_then r q ≡ Ok (b, k) → at < k.at
    by_first (Err fault) is f = absurd cc
    by_first (Ok x) is f =
        let first = moves at rest x.0 x.1 is in
        let later : x.1.at ≤ k.at = subst (λ (r : Outcome B HeaderFault). Beyond offsets x.1.at r) f
        ((lq x.0).forward x.1.at x.1.rest) in
        omega arith

pub OneField-map : {A B : Type 0} {p : HeaderParser A} (g : A → B) → OneField p → OneField (p >>= λ x. pure (g x))
OneField-map {p = p} g fp = record {
  local = Local-then fp.local (λ x. Local-pure (g x));
  leaf = leaf_map p g fp.leaf;
  moves = advances_then p (λ x. pure (g x)) fp.moves (λ x. Local-pure (g x));
}

-- a step that reads nothing: it has a value, or a fault that stands at this offset
abbrev pub Decides : {A : Type 0} → ℕ → HeaderParser A → Type 0
Decides {A} at p = ((a : A) × ((i : Input) → p i ≡ Ok (a, i)))
    ⊎ ((fault : HeaderFault) × StandsAt fault at × IsUncut fault × ((i : Input) → p i ≡ Err fault))

pub Decides-unless : {A : Type 0} (at : ℕ) (bad : Bool) (fault : HeaderFault) (x : A) → StandsAt fault at
    → IsUncut fault → Decides at (unless bad fault x)
Decides-unless at true fault x stands uncut = inr (fault, stands, uncut, λ i. refl)
Decides-unless at false fault x stands uncut = inl (x, λ i. refl)

pub Decides-known : {A : Type 0} (at : ℕ) (fault : HeaderFault) (found : Option A) → StandsAt fault at
    → IsUncut fault → Decides at (known fault found)
Decides-known at fault None stands uncut = inr (fault, stands, uncut, λ i. refl)
Decides-known at fault (Some x) stands uncut = inl (x, λ i. refl)

pub Decides-then : {A B : Type 0} (at : ℕ) (p : HeaderParser A) (q : A → HeaderParser B) → Decides at p
    → ((a : A) → Decides at (q a)) → Decides at (p >>= q)
Decides-then at p q (inl ok) dq = elim (dq ok.0) [
  | inl then ↦ inl (then.0, λ i. ap (λ r. and_then r q) (ok.1 i) ∙ then.1 i)
  | inr bad ↦ inr (bad.0, bad.1, bad.2, λ i. ap (λ r. and_then r q) (ok.1 i) ∙ bad.3 i)
]
Decides-then at p q (inr bad) dq = inr (bad.0, bad.1, bad.2, λ i. ap (λ r. and_then r q) (bad.3 i))

-- Which bytes a parser depends on: those that it takes, and as many more as it looks at. Where it fails, it depends on
-- those up to the end of the field at fault; where that field is cut short, on those before it and how many follow.
use Rattle.std.proofs.Common.{◌≡◌, ◌⊎◌, inl, inr, ℕ, ◌+◌, ◌<◌, ◌≤◌, List, length, drop, Ok, Err, refl, sym, ap, subst, ◌∙◌, arith}
use Rattle.std.proofs.lemmas.List.{drop-drop, length-drop}
use Rattle.fm_base.specs.Input.{Input}
use Rattle.fm_base.specs.Parser.{Outcome, Parser, and_then, ◌>>=◌}
use Rattle.fm_base.proofs.Exact.{input, done}
use Rattle.fm_base.proofs.ListLemmas.{agree_less, agree_drop, Agree}

-- Where the faults of a kind of parser stand. `ahead` bytes are looked at after those that are taken. A fault stands at
-- an offset; it is that of a field that is cut short there, or later, or that of a field of this size which isn't.
pub record Offsets (E : Type 0) : Type 1 where
  pub ahead : ℕ
  pub Stands : E → ℕ → Type 0
  pub IsCut : ℕ → E → Type 0
  pub Later : ℕ → E → Type 0
  pub IsUncut : ℕ → E → Type 0
  pub later_less : (m n : ℕ) (fault : E) → m ≤ n → Later n fault → Later m fault

-- an input after n bytes more
abbrev pub after : ℕ → Input → Input
after n i = record { at = i.at + n; rest = drop n i.rest }

after_after : (m n at : ℕ) (rest : List ℕ) → after n (after m (input at rest)) ≡ after (m + n) (input at rest)
after_after m n at rest = let offset : at + m + n ≡ at + (m + n) = omega arith in rw (drop-drop, offset) refl

pub after_none : (at : ℕ) (rest : List ℕ) → input at rest ≡ after 0 (input at rest)
after_none at rest = let offset : at ≡ at + 0 = omega arith in ap (λ (n : ℕ). input n rest) offset

-- reading gets past this offset, unless another fault stands before it
abbrev pub Beyond : {A E : Type 0} → Offsets E → ℕ → Outcome A E → Type 0
Beyond P n (Ok read) = n ≤ read.1.at
Beyond P n (Err fault) = P.Later n fault

pub beyond_less : {A E : Type 0} (P : Offsets E) (m n : ℕ) (r : Outcome A E) → m ≤ n → Beyond P n r → Beyond P m r
beyond_less P m n (Ok read) less h = omega arith
beyond_less P m n (Err fault) less h = P.later_less m n fault less h

-- what was read is read of all bytes that begin with those that were looked at
pub record Taken {A E : Type 0} (P : Offsets E) (p : Parser A E) (at : ℕ) (rest : List ℕ) (a : A)
    (j : Input) : Type 0 where
  pub count : ℕ
  pub input_is : j ≡ after count (input at rest)
  pub within : count ≤ length rest
  pub again : (other : List ℕ) → Agree (count + P.ahead) rest other
      → p (input at other) ≡ Ok (a, after count (input at other))

-- the field at fault lies whole in the bytes, and all bytes with the same up to its end have the fault
pub record IsWhole {A E : Type 0} (P : Offsets E) (p : Parser A E) (at : ℕ) (rest : List ℕ) (fault : E)
    (count size : ℕ) : Type 0 where
  pub wide : P.ahead ≤ size
  pub within : count + size ≤ length rest + P.ahead
  pub stands : P.Stands fault (at + count)
  pub uncut : P.IsUncut size fault
  pub again : (other : List ℕ) → Agree (count + size) rest other → p (input at other) ≡ Err fault

-- the field at fault is cut short, as in all bytes with the same before it that end as early, and in no longer ones
pub record IsShort {A E : Type 0} (P : Offsets E) (p : Parser A E) (at : ℕ) (rest : List ℕ) (fault : E)
    (count size : ℕ) : Type 0 where
  pub blind : P.ahead ≡ 0
  pub within : count ≤ length rest
  pub short : length rest < count + size
  pub fault_is : P.IsCut (at + count) fault
  pub again : (other : List ℕ) → Agree count rest other → length other < count + size → p (input at other) ≡ Err fault
  pub long : (other : List ℕ) → Agree count rest other → count + size ≤ length other
      → Beyond P (at + (count + size)) (p (input at other))

-- how reading failed: the bytes before the field at fault, and those of the field
pub record Failed {A E : Type 0} (P : Offsets E) (p : Parser A E) (at : ℕ) (rest : List ℕ) (fault : E) : Type 0 where
  pub count : ℕ
  pub size : ℕ
  pub some : 0 < size
  pub why : IsWhole P p at rest fault count size ⊎ IsShort P p at rest fault count size

-- a parser depends on no other bytes
pub record Local {A E : Type 0} (P : Offsets E) (p : Parser A E) : Type 0 where
  pub takes : (at : ℕ) (rest : List ℕ) (a : A) (j : Input) → p (input at rest) ≡ Ok (a, j) → Taken P p at rest a j
  pub fails : (at : ℕ) (rest : List ℕ) (fault : E) → p (input at rest) ≡ Err fault → Failed P p at rest fault
  pub forward : (at : ℕ) (rest : List ℕ) → Beyond P at (p (input at rest))

-- how a step after which others come went
pub record Stepped {A B E : Type 0} (r : Outcome A E) (f : A → Parser B E) (y : Outcome B E) : Type 0 where
  pub a : A
  pub j : Input
  pub first : r ≡ Ok (a, j)
  pub second : f a j ≡ y

pub stepped : {A B E : Type 0} (r : Outcome A E) (f : A → Parser B E) (y : Outcome B E) → and_then r f ≡ y
    → ((fault : E) × (r ≡ Err fault) × (y ≡ Err fault)) ⊎ Stepped r f y
stepped (Ok x) f y e = inr (record { a = x.0; j = x.1; first = refl; second = e })
stepped (Err fault) f y e = inl (fault, refl, sym e)

-- the fault of an outcome
abbrev pub failed : {A E : Type 0} → E → Outcome A E
failed fault = Err fault

pub fault_is : {A E : Type 0} (x y : E) → failed {A = A} x ≡ failed y → x ≡ y
fault_is x y e = cc

-- the same failure of a parser that returns the same, by the bytes that the failure depends on
pub refit : {A B E : Type 0} {P : Offsets E} {p : Parser A E} {q : Parser B E} {at : ℕ} {rest : List ℕ} {fault : E}
    → ((n : ℕ) (other : List ℕ) → P.ahead ≤ n → Agree n rest other → p (input at other) ≡ Err fault
    → q (input at other) ≡ Err fault)
    → ((n m : ℕ) (other : List ℕ) → P.ahead ≤ n → Agree n rest other → Beyond P m (p (input at other))
    → Beyond P m (q (input at other)))
    → Failed P p at rest fault → Failed P q at rest fault
refit fails beyond f = record {
  count = f.count;
  size = f.size;
  some = f.some;
  why = elim f.why [
    | inl w ↦ inl (record {
      wide = w.wide;
      within = w.within;
      stands = w.stands;
      uncut = w.uncut;
      again = λ other same. fails (f.count + f.size) other (let wide = w.wide in omega arith) same (w.again other same);
    })
    | inr c ↦ inr (record {
      blind = c.blind;
      within = c.within;
      short = c.short;
      fault_is = c.fault_is;
      again = λ other same ends.
          fails f.count other (let none = c.blind in omega arith) same (c.again other same ends);
      long = λ other same goes_on.
          beyond f.count _ other (let none = c.blind in omega arith) same (c.long other same goes_on);
    })
  ];
}

-- what comes after a step is as far on as the step
pub beyond_then : {A B E : Type 0} (P : Offsets E) (n : ℕ) (r : Outcome A E) (q : A → Parser B E)
    → ((a : A) (at : ℕ) (rest : List ℕ) → Beyond P at (q a (input at rest)))
    → Beyond P n r → Beyond P n (and_then r q)
beyond_then P n (Ok x) q fq h = beyond_less P n x.1.at (q x.0 x.1) h (fq x.0 x.1.at x.1.rest)
beyond_then P n (Err fault) q fq h = h

-- a step after one that was taken
after_takes : {A B E : Type 0} {P : Offsets E} (p : Parser A E) (q : A → Parser B E) (at : ℕ) (rest : List ℕ) (a : A)
    (j : Input) (b : B) (k : Input)
    (t : Taken P p at rest a j) → Taken P (q a) (at + t.count) (drop t.count rest) b k → Taken P (p >>= q) at rest b k
after_takes {B = B} {P = P} p q at rest a j b k t u = record {
  count = t.count + u.count;
  input_is = u.input_is ∙ after_after t.count u.count at rest;
  within = let first = t.within in let second = u.within in omega (arith, length-drop t.count rest);
  again = λ other same.
      let sum : t.count + u.count + P.ahead ≡ t.count + (u.count + P.ahead) = omega arith in
      let first = t.again other (agree_less (t.count + P.ahead) (t.count + u.count + P.ahead) rest other
      (omega arith) same) in
      let second = u.again (drop t.count other) (agree_drop t.count (u.count + P.ahead) rest other
      (subst (λ (n : ℕ). Agree n rest other) sum same)) in
      ap (λ r. and_then r q) first ∙ second
      ∙ ap (λ (i : Input). done {A = B × Input} (b, i)) (after_after t.count u.count at other);
}

pub after_fails : {A B E : Type 0} {P : Offsets E} (p : Parser A E) (q : A → Parser B E) (at : ℕ) (rest : List ℕ)
    (a : A) (j : Input) (fault : E)
    (t : Taken P p at rest a j) → Failed P (q a) (at + t.count) (drop t.count rest) fault
    → Failed P (p >>= q) at rest fault
after_fails {P = P} p q at rest a j fault t f =
    let offset : at + t.count + f.count ≡ at + (t.count + f.count) = omega arith in
    record {
      count = t.count + f.count;
      size = f.size;
      some = f.some;
      why = elim f.why [
        | inl w ↦ inl (record {
          wide = w.wide;
          within = let first = t.within in let second = w.within in omega (arith, length-drop t.count rest);
          stands = subst (λ (n : ℕ). P.Stands fault n) offset w.stands;
          uncut = w.uncut;
          again = λ other same.
              let wide = w.wide in
              let sum : t.count + f.count + f.size ≡ t.count + (f.count + f.size) = omega arith in
              let first = t.again other (agree_less (t.count + P.ahead) (t.count + f.count + f.size) rest other
              (omega arith) same) in
              let second = w.again (drop t.count other)
              (agree_drop t.count (f.count + f.size) rest other
              (subst (λ (n : ℕ). Agree n rest other) sum same)) in
              ap (λ r. and_then r q) first ∙ second;
        })
        | inr c ↦
            let none = c.blind in
            let taken : (other : List ℕ) → Agree (t.count + f.count) rest other
            → p (input at other) ≡ Ok (a, after t.count (input at other)) =
            λ other same. t.again other (agree_less (t.count + P.ahead) (t.count + f.count) rest other
            (omega arith) same) in
            inr (record {
              blind = c.blind;
              within = let first = t.within in let second = c.within in omega (arith, length-drop t.count rest);
              short = let first = t.within in let second = c.short in omega (arith, length-drop t.count rest);
              fault_is = subst (λ (n : ℕ). P.IsCut n fault) offset c.fault_is;
              again = λ other same ends.
                  let some = f.some in
                  let left : length (drop t.count other) < f.count + f.size =
                  omega (arith, length-drop t.count other) in
                  ap (λ r. and_then r q) (taken other same) ∙ c.again (drop t.count other)
                  (agree_drop t.count f.count rest other same) left;
              long = λ other same goes_on.
                  let left : f.count + f.size ≤ length (drop t.count other) =
                  omega (arith, length-drop t.count other) in
                  let second = c.long (drop t.count other) (agree_drop t.count f.count rest other same) left in
                  let end : at + t.count + (f.count + f.size) ≡ at + (t.count + f.count + f.size) = omega arith in
                  subst (λ r. Beyond P (at + (t.count + f.count + f.size)) r)
                  (sym (ap (λ r. and_then r q) (taken other same)))
                  (subst (λ (n : ℕ). Beyond P n (q a (input (at + t.count) (drop t.count other)))) end second);
            })
      ];
    }

pub Local-then : {A B E : Type 0} {P : Offsets E} {p : Parser A E} {q : A → Parser B E} → Local P p
    → ((a : A) → Local P (q a)) → Local P (p >>= q)
Local-then {A} {B} {E} {P} {p} {q} lp lq = record {
  takes = λ at rest b k e. elim (stepped (p (input at rest)) q (Ok (b, k)) e) [
    | inl bad ↦ let no = bad.2 in absurd cc
    | inr s ↦
        let t = lp.takes at rest s.a s.j s.first in
        after_takes p q at rest s.a s.j b k t
        ((lq s.a).takes (at + t.count) (drop t.count rest) b k
        (subst (λ (i : Input). q s.a i ≡ Ok (b, k)) t.input_is s.second))
  ];
  fails = λ at rest fault e. elim (stepped (p (input at rest)) q (Err fault) e) [
    | inl wrong ↦ subst (λ (x : E). Failed P (p >>= q) at rest x) (sym (fault_is {A = B} fault wrong.0 wrong.2))
        (refit (λ n other wide same f. ap (λ r. and_then r q) f)
        (λ n m other wide same h. beyond_then P m (p (input at other)) q forwards h)
        (lp.fails at rest wrong.0 wrong.1))
    | inr s ↦
        let t = lp.takes at rest s.a s.j s.first in
        after_fails p q at rest s.a s.j fault t
        ((lq s.a).fails (at + t.count) (drop t.count rest) fault
        (subst (λ (i : Input). q s.a i ≡ Err fault) t.input_is s.second))
  ];
  forward = λ at rest. beyond_then P at (p (input at rest)) q forwards (lp.forward at rest);
}
  where
    forwards : (a : A) (at : ℕ) (rest : List ℕ) → Beyond P at (q a (input at rest))
    forwards a at rest = (lq a).forward at rest

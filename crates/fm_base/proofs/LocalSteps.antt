-- A step that reads nothing depends on no bytes, and a choice on those that are looked at.
use Rattle.std.proofs.Common.{◌≡◌, ℕ, ◌+◌, ◌≤◌, Bool, true, false, cond, List, Ok, Err, refl, sym, ap, subst, ◌∙◌, arith}
use Rattle.fm_base.specs.Input.{Input}
use Rattle.fm_base.specs.Parser.{Parser, pure}
use Rattle.fm_base.proofs.Exact.{input, done, ok_pair}
use Rattle.fm_base.proofs.ListLemmas.{agree_less, Agree}
use Rattle.fm_base.proofs.Local.{Offsets, Beyond, Taken, Failed, Local, after_none, refit}

pub Local-pure : {A E : Type 0} {P : Offsets E} (x : A) → Local P (pure x)
Local-pure {A = A} x = record {
  takes = λ at rest a j e.
      let k = ok_pair x a (input at rest) j e in
      record {
        count = 0;
        input_is = sym k.1 ∙ after_none at rest;
        within = omega arith;
        again = λ other same. ap (λ (y : A). Ok (y, input at other)) k.0
            ∙ ap (λ (i : Input). done {A = A × Input} (a, i)) (after_none at other);
      };
  fails = λ at rest fault e. absurd cc;
  forward = λ at rest. omega arith;
}

-- one parser or the other, by the bytes that are looked at
pub Local-cond : {A E : Type 0} {P : Offsets E} {p q : Parser A E} (test : Input → Bool)
    → ((at : ℕ) (xs ys : List ℕ) → Agree P.ahead xs ys → test (input at xs) ≡ test (input at ys))
    → Local P p → Local P q → Local P (λ i. cond (test i) (p i) (q i))
Local-cond {A} {E} {P} {p} {q} test looks lp lq = record {
  takes = λ at rest a j e. taken_by at rest a j (test (input at rest)) refl e;
  fails = λ at rest fault e. failed_by at rest fault (test (input at rest)) refl e;
  forward = λ at rest. forward_by at rest (test (input at rest));
}
  where
    chosen : Bool → Parser A E
    chosen b = λ i. cond b (p i) (q i)

    either : Parser A E
    either = λ i. cond (test i) (p i) (q i)

    local : (b : Bool) → Local P (chosen b)
    local true = lp
    local false = lq

    same_choice : (at : ℕ) (rest other : List ℕ) (b : Bool) (n : ℕ) → test (input at rest) ≡ b → P.ahead ≤ n
        → Agree n rest other → either (input at other) ≡ chosen b (input at other)
    same_choice at rest other b n is wide same =
        ap (λ (c : Bool). cond c (p (input at other)) (q (input at other)))
        (sym (looks at rest other (agree_less P.ahead n rest other wide same)) ∙ is)

    taken_by : (at : ℕ) (rest : List ℕ) (a : A) (j : Input) (b : Bool) → test (input at rest) ≡ b
        → chosen b (input at rest) ≡ Ok (a, j) → Taken P either at rest a j
    taken_by at rest a j b is e =
        let t = (local b).takes at rest a j e in
        record {
          count = t.count;
          input_is = t.input_is;
          within = t.within;
          again = λ other same. same_choice at rest other b (t.count + P.ahead) is (omega arith) same
              ∙ t.again other same;
        }

    failed_by : (at : ℕ) (rest : List ℕ) (fault : E) (b : Bool) → test (input at rest) ≡ b
        → chosen b (input at rest) ≡ Err fault → Failed P either at rest fault
    failed_by at rest fault b is e =
        refit (λ n other wide same f. same_choice at rest other b n is wide same ∙ f)
        (λ n m other wide same h. subst (λ r. Beyond P m r) (sym (same_choice at rest other b n is wide same)) h)
        ((local b).fails at rest fault e)

    forward_by : (at : ℕ) (rest : List ℕ) (b : Bool) → Beyond P at (chosen b (input at rest))
    forward_by at rest b = (local b).forward at rest

-- the same of a parser that returns the same
pub Local-same : {A E : Type 0} {P : Offsets E} {p q : Parser A E}
    → ((at : ℕ) (rest : List ℕ) → p (input at rest) ≡ q (input at rest)) → Local P p → Local P q
Local-same {P = P} same lp = record {
  takes = λ at rest a j e.
      let t = lp.takes at rest a j (same at rest ∙ e) in
      record {
        count = t.count;
        input_is = t.input_is;
        within = t.within;
        again = λ other agree. sym (same at other) ∙ t.again other agree;
      };
  fails = λ at rest fault e.
      refit (λ n other wide agree f. sym (same at other) ∙ f)
      (λ n m other wide agree h. subst (λ r. Beyond P m r) (same at other) h)
      (lp.fails at rest fault (same at rest ∙ e));
  forward = λ at rest. subst (λ r. Beyond P at r) (same at rest) (lp.forward at rest);
}

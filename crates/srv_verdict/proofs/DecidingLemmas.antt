-- Finding a verdict, in one step after another.
use Rattle.std.proofs.Common.{◌≡◌, ℕ, ◌+◌, ◌<◌, ◌≤◌, List, [], ◌∷◌, length, sym, subst, ◌∙◌, append-nil, arith}
use Rattle.std.proofs.lemmas.Option.{slice_get_within}
use Rattle.fm_model.specs.declared.op.Op.{Op}
use Rattle.pub_look.specs.History.{History}
use Rattle.srv_verdict.specs.Attempts.{Decides, OnlyLearnt, RiseBetween, Sees}
use Rattle.srv_verdict.specs.Verdicts.{IsNumbered}
use Rattle.srv_verdict.proofs.SeesLemmas.{IsPickedFrom-none, Sees-itself, Sees-then}

-- the numbers that a verdict says and speaks of
Decides-as : {a b : History} {s t : ℕ} {published published' looked looked' : List ℕ} → Decides a b s t published looked
    → published' ≡ published → looked' ≡ looked → Decides a b s t published' looked'
Decides-as {a} {b} {s} {t} {published} {published'} {looked} {looked'} decides same same' =
    subst (λ (l : List ℕ). Decides a b s t l looked') (sym same)
    (subst (λ (l : List ℕ). Decides a b s t published l) (sym same') decides)

-- nothing was done
pub Decides-itself : {pass : History} {share : ℕ} → Decides pass pass share share [] []
Decides-itself {pass} {share} = record { sees = Sees-itself pass; counted = omega arith }

-- an attempt changed nothing, and the verdict speaks of nothing
pub Decides-unchanged : {a b : History} {s t : ℕ} {published looked : List ℕ} → b ≡ a → t ≡ s → published ≡ []
    → looked ≡ [] → Decides a b s t published looked
Decides-unchanged {a} {b} {s} {t} same same' none none' = Decides-as (record {
  sees = subst (λ (h : History). Sees a h [] []) (sym same) (Sees-itself a);
  counted = omega (arith, same');
}) none none'

-- an attempt changed nothing, and then a look was made, of which the verdict speaks
pub Decides-looked : {a b c : History} {s t : ℕ} {found published looked : List ℕ} → b ≡ a → t ≡ s
    → Sees b c [] found → published ≡ [] → looked ≡ found → Decides a c s t published looked
Decides-looked {a} {b} {c} {s} {t} {found} same same' sees none looked = Decides-as (record {
  sees = subst (λ (h : History). Sees h c [] found) same sees;
  counted = omega (arith, same');
}) none looked

-- a step that published nothing and of which no look is spoken, and then another
pub Decides-after : {a b c : History} {s t u : ℕ} {published looked : List ℕ} → Decides a b s t [] []
    → Decides b c t u published looked → Decides a c s u published looked
Decides-after {a} {b} {c} {s} {t} {u} {published} {looked} first second = record {
  sees = Sees-then a b c [] published [] looked first.sees second.sees;
  counted = omega (arith, first.counted, second.counted);
}

-- an operation that has a number was seen
pub IsNumbered-within : (ops : List Op) (number : ℕ) (op : Op) → IsNumbered ops number op → number ≤ length ops
IsNumbered-within ops number op is = omega (arith, is.number_is, slice_get_within ops is.index op is.op_is)

-- an operation was published, and the verdict says its number
pub Decides-done : {op : Op} {a b : History} {s t number : ℕ} {published looked : List ℕ}
    → IsNumbered b.seen number op → length a.seen < number → t ≡ s + 1 → OnlyLearnt a b
    → published ≡ number ∷ [] → looked ≡ [] → Decides a b s t published looked
unfolding RiseBetween
Decides-done {op} {a} {b} {s} {t} {number} numbered above counted learnt says none = Decides-as (record {
  sees = record {
    proto = learnt.proto;
    later = learnt.later;
    rise = (above, IsNumbered-within b.seen number op numbered);
    more = [];
    looks = learnt.looks ∙ sym (append-nil a.looks);
    picked = IsPickedFrom-none [];
  };
  counted = counted;
}) says none

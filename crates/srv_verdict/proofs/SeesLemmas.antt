-- What was seen and looked at, in one step after another.
use Rattle.std.proofs.Common.{ℕ, ◌≤◌, List, [], ◌∷◌, ◌++◌, length, inl, inr, refl, sym, ap, subst, ◌∙◌, append_assoc, append-nil, arith}
use Rattle.pub_look.specs.History.{History}
use Rattle.pub_look.proofs.HistoryLemmas.{continues_on}
use Rattle.srv_verdict.specs.Attempts.{IsPickedFrom, RiseBetween, Sees}

-- the bounds between which numbers rise are in order
pub RiseBetween-le : (low high : ℕ) (numbers : List ℕ) → RiseBetween low high numbers → low ≤ high
unfolding RiseBetween
RiseBetween-le low high [] rise = rise
RiseBetween-le low high (x ∷ more) rise = omega (arith, rise.0, RiseBetween-le x high more rise.1)

-- numbers that rise from above a bound rise from above a lower one
pub RiseBetween-lower : (low from high : ℕ) (numbers : List ℕ) → low ≤ from → RiseBetween from high numbers
    → RiseBetween low high numbers
unfolding RiseBetween
RiseBetween-lower low from high [] below rise = omega (arith, below, rise)
RiseBetween-lower low from high (x ∷ more) below rise = (omega (arith, below, rise.0), rise.1)

-- numbers that rise up to a bound rise up to a higher one
pub RiseBetween-higher : (low high top : ℕ) (numbers : List ℕ) → high ≤ top → RiseBetween low high numbers
    → RiseBetween low top numbers
unfolding RiseBetween
RiseBetween-higher low high top [] below rise = omega (arith, below, rise)
RiseBetween-higher low high top (x ∷ more) below rise = (rise.0, RiseBetween-higher x high top more below rise.1)

-- numbers that rise up to a bound, and then others from it
pub RiseBetween-append : (low mid high : ℕ) (numbers more : List ℕ) → RiseBetween low mid numbers
    → RiseBetween mid high more → RiseBetween low high (numbers ++ more)
unfolding RiseBetween
RiseBetween-append low mid high [] more rise rise' = RiseBetween-lower low mid high more rise rise'
RiseBetween-append low mid high (x ∷ numbers) more rise rise' =
    (rise.0, RiseBetween-append x mid high numbers more rise.1 rise')

-- none is picked from any list
pub IsPickedFrom-none : (xs : List ℕ) → IsPickedFrom [] xs
unfolding IsPickedFrom
IsPickedFrom-none [] = refl
IsPickedFrom-none (x ∷ xs) = inl (IsPickedFrom-none xs)

-- one is picked from the list that has it alone
pub IsPickedFrom-one : (x : ℕ) → IsPickedFrom (x ∷ []) (x ∷ [])
unfolding IsPickedFrom
IsPickedFrom-one x = inr ([], refl, refl)

-- some are picked from a list, and then some from another
pub IsPickedFrom-append : (picked picked' xs ys : List ℕ) → IsPickedFrom picked xs → IsPickedFrom picked' ys
    → IsPickedFrom (picked ++ picked') (xs ++ ys)
unfolding IsPickedFrom
IsPickedFrom-append picked picked' [] ys first second =
    subst (λ (p : List ℕ). IsPickedFrom (p ++ picked') ys) (sym first) second
IsPickedFrom-append picked picked' (x ∷ xs) ys first second = elim first [
  | inl without ↦ inl (IsPickedFrom-append picked picked' xs ys without second)
  | inr rest ↦ inr (
    rest.0 ++ picked',
    ap (λ (p : List ℕ). p ++ picked') rest.1,
    IsPickedFrom-append rest.0 picked' xs ys rest.2 second,
  )
]

-- nothing was done
pub Sees-itself : (pass : History) → Sees pass pass [] []
unfolding IsPickedFrom RiseBetween
Sees-itself pass = record {
  proto = refl;
  later = ([], sym (append-nil pass.seen));
  rise = omega arith;
  more = [];
  looks = sym (append-nil pass.looks);
  picked = refl;
}

-- one step after another
pub Sees-then : (a b c : History) (published published' looked looked' : List ℕ) → Sees a b published looked
    → Sees b c published' looked' → Sees a c (published ++ published') (looked ++ looked')
Sees-then a b c published published' looked looked' first second = record {
  proto = second.proto ∙ first.proto;
  later = continues_on a.seen b.seen c.seen first.later second.later;
  rise = RiseBetween-append (length a.seen) (length b.seen) (length c.seen) published published' first.rise second.rise;
  more = first.more ++ second.more;
  looks = second.looks ∙ ap (λ (l : List ℕ). l ++ second.more) first.looks
      ∙ append_assoc a.looks first.more second.more;
  picked = IsPickedFrom-append looked looked' first.more second.more first.picked second.picked;
}

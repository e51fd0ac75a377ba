-- Equal items that are taken off and put elsewhere, one after the other.
use Rattle.std.proofs.Common.{◌≡◌, ℕ, zero, suc, ◌+◌, ◌-◌, ◌<◌, List, [], ◌∷◌, ◌++◌, length, drop, replicate, slice_index_or, sym, ap, ap₂, ◌∙◌, arith}
use Rattle.std.proofs.lemmas.List.{length-replicate, replicate_more}
use Rattle.pub_look.specs.History.{History}
use Rattle.srv_workers.specs.declared.one.OwnHand.{OwnHand}

-- the first of equal items, and the others
replicate-first : {X : Type 0} (n : ℕ) (u x : X) (more : List X) → replicate n u ≡ x ∷ more
    → (x ≡ u) × (more ≡ replicate (n - 1) u)
replicate-first {X} zero u x more is = absurd (omega (arith, ap (λ (l : List X). length l) is))
replicate-first {X} (suc n) u x more is = (
  ap (λ (l : List X). slice_index_or l 0 u) (sym is),
  ap (λ (l : List X). drop 1 l) (sym is) ∙ ap (λ (k : ℕ). replicate k u) (omega arith),
)

-- the equal items that are left after the next
pub equals-next : {X : Type 0} (len n : ℕ) (u : X) (items more : List X) (item : X)
    → items ≡ replicate (len - n) u → items ≡ item ∷ more → more ≡ replicate (len - (n + 1)) u
equals-next len n u items more item are first =
    (replicate-first (len - n) u item more (sym are ∙ first)).1 ∙ ap (λ (k : ℕ). replicate k u) (omega arith)

-- the next of equal items
pub equal-first : {X : Type 0} (len n : ℕ) (u : X) (items more : List X) (item : X)
    → items ≡ replicate (len - n) u → items ≡ item ∷ more → item ≡ u
equal-first len n u items more item are first = (replicate-first (len - n) u item more (sym are ∙ first)).0

-- some of equal items are left
pub equals-some : {X : Type 0} (len n : ℕ) (u : X) (items : List X) → n < len → items ≡ replicate (len - n) u
    → 0 < length items
equals-some {X} len n u items below are =
    omega (arith, below, ap (λ (l : List X). length l) are, length-replicate (len - n) u)

-- it was put behind the others
pub equals-put : {X : Type 0} (n : ℕ) (u x : X) (before after : List X) → before ≡ replicate n u → x ≡ u
    → after ≡ before ++ x ∷ [] → after ≡ replicate (n + 1) u
equals-put {X} n u x before after are is put =
    put ∙ ap₂ (λ (l : List X) (y : X). l ++ y ∷ []) are is ∙ replicate_more n u

-- one hand more
pub hands-put : {N : Type 0} (n : ℕ) (own unseen : History) (share : ℕ) (before after : List (OwnHand N))
    → before ≡ replicate n (record { own = unseen; share = 0 }) → own ≡ unseen → share ≡ 0
    → after ≡ before ++ (record { own = own; share = share }) ∷ []
    → after ≡ replicate (n + 1) (record { own = unseen; share = 0 })
hands-put {N} n own unseen share before after are one two put =
    equals-put n (hand unseen 0) (hand own share) before after are (ap₂ hand one two) put
  where
    hand : History → ℕ → OwnHand N
    hand own share = record { own = own; share = share }

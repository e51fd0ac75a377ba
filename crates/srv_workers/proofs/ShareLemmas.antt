-- The shares of new hands at several desks.
use Rattle.std.proofs.Common.{◌≡◌, ℕ, zero, suc, ◌+◌, ◌<◌, List, [], ◌∷◌, ◌++◌, length, map, All, replicate, Bool, refl, sym, ap, subst, ◌∙◌, length-append, arith}
use Rattle.std.specs.Prelude.{if◌then◌else◌}
use Rattle.std.proofs.lemmas.Bool.{eq-eqb, ne_eqb}
use Rattle.std.proofs.lemmas.List.{length-map}
use Rattle.std.proofs.lemmas.List.Elements.{All-same}
use Rattle.dev_traits.specs.declared.world.Devices.{Devices}
use Rattle.srv_workers.specs.declared.given.Given.{Given}
use Rattle.srv_workers.specs.Desks.{counted_at, IsNew, IsUnseen, Means, Publisher}
use Rattle.srv_workers.specs.Given.{AreNewHands, each_of, IsGiven, new_at}
use Rattle.srv_workers.specs.Opened.{HasOneEach}
use Rattle.srv_workers.specs.Workers.{counted_with}
use Rattle.srv_workers.proofs.EachLemmas.{all-back, all-each, length-each, length-once}

-- what shares have counted at the desk of a number
abbrev counted_of : ℕ → List Publisher → List ℕ
counted_of number [] = []
counted_of number (publisher ∷ publishers) = counted_at number publisher ++ counted_of number publishers

-- the same of those that publish by hands
counted-hands : {E H : Type 0} (means : Means E H) (number : ℕ) (hands : List H)
    → counted_with means number hands ≡ counted_of number (map means.publisher hands)
counted-hands means number [] = refl
counted-hands means number (hand ∷ hands) =
    ap (λ (l : List ℕ). counted_at number (means.publisher hand) ++ l) (counted-hands means number hands)

-- of two parts
counted-parts : (number : ℕ) (xs ys : List Publisher)
    → length (counted_of number (xs ++ ys)) ≡ length (counted_of number xs) + length (counted_of number ys)
counted-parts number [] ys = omega arith
counted-parts number (x ∷ xs) ys = omega (
  arith,
  length-append (counted_at number x) (counted_of number (xs ++ ys)),
  length-append (counted_at number x) (counted_of number xs),
  counted-parts number xs ys,
)

-- one of that desk has a share there
one-share : (number : ℕ) (p : Publisher) → p.desk ≡ number → length (counted_at number p) ≡ 1
one-share number p is =
    ap (λ (b : Bool). length (if b then p.share ∷ [] else [])) (eq-eqb p.desk number is)

-- one of another desk has none
no-share : (number : ℕ) (p : Publisher) → (p.desk ≡ number → ⊥) → length (counted_at number p) ≡ 0
no-share number p differs =
    ap (λ (b : Bool). length (if b then p.share ∷ [] else [])) (ne_eqb p.desk number differs)

-- equals of that desk
counted-same : (number times : ℕ) (p : Publisher) → p.desk ≡ number
    → length (counted_of number (replicate times p)) ≡ times
counted-same number zero p is = refl
counted-same number (suc times) p is = omega (
  arith,
  length-append (counted_at number p) (counted_of number (replicate times p)),
  one-share number p is,
  counted-same number times p is,
)

-- equals of another one
counted-other : (number times : ℕ) (p : Publisher) → (p.desk ≡ number → ⊥)
    → length (counted_of number (replicate times p)) ≡ 0
counted-other number zero p differs = refl
counted-other number (suc times) p differs = omega (
  arith,
  length-append (counted_at number p) (counted_of number (replicate times p)),
  no-share number p differs,
  counted-other number times p differs,
)

-- n of each of other desks
counted-none : (number times count : ℕ) (made : ℕ → Publisher) → ((n : ℕ) → (made n).desk ≡ number → ⊥)
    → length (counted_of number (each_of times count made)) ≡ 0
counted-none number times zero made differs = refl
counted-none number times (suc count) made differs = omega (
  arith,
  counted-parts number (replicate times (made 0)) (each_of times count (λ (n : ℕ). made (suc n))),
  counted-other number times (made 0) (differs 0),
  counted-none number times count (λ (n : ℕ). made (suc n)) (λ n. differs (suc n)),
)

-- n of each of desks that follow one another: n at each
counted-each : (first number times count : ℕ) (made : ℕ → Publisher) → ((n : ℕ) → (made n).desk ≡ first + n)
    → number < count → length (counted_of (first + number) (each_of times count made)) ≡ times
counted-each first number times zero made desks below = absurd (omega (arith, below))
counted-each first zero times (suc count) made desks below = omega (
  arith,
  counted-parts (first + 0) (replicate times (made 0)) (each_of times count (λ (n : ℕ). made (suc n))),
  counted-same (first + 0) times (made 0) (desks 0),
  counted-none (first + 0) times count (λ (n : ℕ). made (suc n)) (λ n is. omega (arith, is, desks (suc n))),
)
counted-each first (suc number) times (suc count) made desks below = omega (
  arith,
  counted-parts (first + suc number) (replicate times (made 0)) (each_of times count (λ (n : ℕ). made (suc n))),
  counted-other (first + suc number) times (made 0) (λ is. omega (arith, is, desks 0)),
  subst (λ (k : ℕ). length (counted_of k (each_of times count (λ (n : ℕ). made (suc n)))) ≡ times) next
      (counted-each (suc first) number times count (λ (n : ℕ). made (suc n))
      (λ n. omega (arith, desks (suc n))) (omega (arith, below))),
)
  where
    next : suc first + number ≡ first + suc number
    next = omega arith

-- new hands at each desk, n of each
new-each : {E H : Type 0} (means : Means E H) (times : ℕ) (hands : List H)
    → map means.publisher hands ≡ each_of times means.them.count (new_at means.them)
    → AreNewHands means (length (each_of times means.them.count (λ (n : ℕ). n))) hands
new-each {E} {H} means times hands are = record {
  each = sym (length-map hands means.publisher) ∙ ap (λ (l : List Publisher). length l) are
      ∙ length-each times means.them.count (new_at means.them) (λ (n : ℕ). n);
  new = all-back (IsNew means.them) means.publisher hands (All-same (IsNew means.them) (map means.publisher hands)
      (each_of times means.them.count (new_at means.them)) are (all-each (IsNew means.them) times means.them.count
      (new_at means.them) (λ n below. record { within = below; pass_is = refl; share_is = refl })));
}

-- n shares at each
shares-each : {E H : Type 0} (means : Means E H) (times : ℕ) (hands : List H) (number : ℕ) → number < means.them.count
    → map means.publisher hands ≡ each_of times means.them.count (new_at means.them)
    → length (counted_with means number hands) ≡ times
shares-each means times hands number below are =
    ap (λ (l : List ℕ). length l) (counted-hands means number hands)
    ∙ ap (λ (l : List Publisher). length (counted_of number l)) are
    ∙ subst (λ (k : ℕ). length (counted_of k (each_of times means.them.count (new_at means.them))) ≡ times) same
    (counted-each 0 number times means.them.count (new_at means.them) (λ n. omega arith) below)
  where
    same : 0 + number ≡ number
    same = omega arith

-- the workers of a run over several desks are given what those gave out
pub IsGiven-all : {D I C E H : Type 0} (means : Means E H) (parts : ℕ → ℕ) (clocks : ℕ) (devices : Devices D I C)
    (given : Given E H) → HasOneEach means.them.count clocks devices
    → ((number : ℕ) → number < means.them.count → parts number ≡ 1 + clocks)
    → length given.eyes ≡ length devices.doors → All (λ (those : E). IsUnseen (means.views those)) given.eyes
    → map means.publisher given.at_inboxes ≡ each_of 1 means.them.count (new_at means.them)
    → map means.publisher given.at_clocks ≡ each_of clocks means.them.count (new_at means.them)
    → IsGiven means parts devices given
IsGiven-all means parts clocks devices given has all each unseen taken gone = record {
  eyes_are = each;
  unseen = unseen;
  at_inboxes = subst (λ (k : ℕ). AreNewHands means k given.at_inboxes)
      (length-once means.them.count (λ (n : ℕ). n) ∙ sym has.inboxes_are) (new-each means 1 given.at_inboxes taken);
  at_clocks = subst (λ (k : ℕ). AreNewHands means k given.at_clocks) (sym has.clocks_are)
      (new-each means clocks given.at_clocks gone);
  shares = λ number below. omega (
    arith,
    all number below,
    shares-each means 1 given.at_inboxes number below taken,
    shares-each means clocks given.at_clocks number below gone,
  );
}

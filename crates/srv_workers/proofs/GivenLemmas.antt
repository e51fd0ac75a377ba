-- What the workers at one desk are given.
use Rattle.std.proofs.Common.{◌≡◌, ℕ, zero, suc, ◌+◌, List, [], length, All, replicate, false, refl, ap, subst, ◌∙◌, arith}
use Rattle.std.proofs.lemmas.List.{length-replicate}
use Rattle.std.proofs.lemmas.List.Elements.{All-replicate, All-same}
use Rattle.fm_model.specs.declared.proto.Proto.{Proto}
use Rattle.pub_look.specs.History.{History}
use Rattle.pub_snap.specs.Opening.{unused}
use Rattle.dap_reply.specs.Collections.{alone, only}
use Rattle.srv_conn.specs.Sight.{views_of}
use Rattle.dev_traits.specs.declared.world.Devices.{Devices}
use Rattle.srv_workers.specs.declared.given.Given.{Given}
use Rattle.srv_workers.specs.declared.one.OwnHand.{OwnHand}
use Rattle.srv_workers.specs.Desks.{IsNew, IsUnseen}
use Rattle.srv_workers.specs.Given.{AreNewHands, IsGiven}
use Rattle.srv_workers.specs.One.{one_means}
use Rattle.srv_workers.specs.Places.{new_hand}
use Rattle.srv_workers.specs.Work.{sight}
use Rattle.srv_workers.specs.Workers.{counted_with}
use Rattle.srv_workers.proofs.OneLemmas.{for-one}

-- as many equal items, counted in another way
pub of-many : {X : Type 0} (n m : ℕ) (u : X) (items : List X) → items ≡ replicate n u → n ≡ m
    → items ≡ replicate m u
of-many n m u items are same = are ∙ ap (λ (k : ℕ). replicate k u) same

pub many-length : {X : Type 0} (n : ℕ) (u : X) (items : List X) → items ≡ replicate n u → length items ≡ n
many-length {X} n u items are = ap (λ (l : List X). length l) are ∙ length-replicate n u

-- nothing is in the first of no lists
none-only : {A : Type 0} (number : ℕ) → only {A = A} [] number ≡ []
none-only zero = refl
none-only (suc number) = refl

-- all passes have seen nothing
pub all-unseen : (proto : Proto) (n : ℕ) (eyes : List History) → eyes ≡ replicate n (unused proto)
    → All (λ (those : History). IsUnseen (views_of (sight those))) eyes
all-unseen proto n eyes are =
    All-same (λ (those : History). IsUnseen (views_of (sight those))) eyes (replicate n (unused proto)) are
    (All-replicate (λ (those : History). IsUnseen (views_of (sight those))) n (unused proto)
    (record { seen = none-only; looks = none-only }))

-- hands that are all new
pub new-hands : {N : Type 0} (proto : Proto) (n : ℕ) (hands : List (OwnHand N)) → hands ≡ replicate n (new_hand proto)
    → AreNewHands (one_means proto) n hands
new-hands {N} proto n hands are = record {
  each = many-length n (new_hand proto) hands are;
  new = All-same IsNewHand hands (replicate n (new_hand proto)) are
      (All-replicate IsNewHand n (new_hand proto)
      (record { within = omega arith; pass_is = refl; share_is = refl }));
}
  where
    IsNewHand : OwnHand N → Type 0
    IsNewHand hand = IsNew (alone proto false) ((one_means proto).publisher hand)

-- one share for each of equal hands
counted-equal : {N : Type 0} (proto : Proto) (n : ℕ) (hand : OwnHand N)
    → length (counted_with (one_means proto) 0 (replicate n hand)) ≡ n
counted-equal proto zero hand = refl
counted-equal proto (suc n) hand = ap suc (counted-equal proto n hand)

counted-one : {N : Type 0} (proto : Proto) (n : ℕ) (hand : OwnHand N) (hands : List (OwnHand N))
    → hands ≡ replicate n hand → length (counted_with (one_means proto) 0 hands) ≡ n
counted-one {N} proto n hand hands are =
    ap (λ (l : List (OwnHand N)). length (counted_with (one_means proto) 0 l)) are ∙ counted-equal proto n hand

-- the workers of a desk are given a pass each, and all its shares
pub IsGiven-one : {D I C N : Type 0} (proto : Proto) (parts doors inboxes clocks : ℕ) (devices : Devices D I C)
    (given : Given History (OwnHand N)) → doors ≡ length devices.doors → inboxes ≡ length devices.inboxes
    → clocks ≡ length devices.clocks → parts ≡ inboxes + clocks → given.eyes ≡ replicate doors (unused proto)
    → given.at_inboxes ≡ replicate inboxes (new_hand proto) → given.at_clocks ≡ replicate clocks (new_hand proto)
    → IsGiven (one_means {N = N} proto) (λ _. parts) devices given
IsGiven-one {D} {I} {C} {N} proto parts doors inboxes clocks devices given one two three all eyes taken gone = record {
  eyes_are = many-length doors (unused proto) given.eyes eyes ∙ one;
  unseen = all-unseen proto doors given.eyes eyes;
  at_inboxes = subst (λ (k : ℕ). AreNewHands (one_means proto) k given.at_inboxes) two
      (new-hands proto inboxes given.at_inboxes taken);
  at_clocks = subst (λ (k : ℕ). AreNewHands (one_means proto) k given.at_clocks) three
      (new-hands proto clocks given.at_clocks gone);
  shares = for-one (λ number. length (counted_with (one_means proto) number given.at_inboxes)
      + length (counted_with (one_means proto) number given.at_clocks) ≡ parts) (omega (
        arith,
        all,
        counted-one proto inboxes (new_hand proto) given.at_inboxes taken,
        counted-one proto clocks (new_hand proto) given.at_clocks gone,
      ));
}

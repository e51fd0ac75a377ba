-- What is given out by desks that are opened.
use Rattle.std.proofs.Common.{◌≡◌, ℕ, zero, suc, ◌+◌, ◌≤◌, List, [], ◌∷◌, ◌++◌, length, map, All, replicate, false, refl, sym, ap, ap₂, ◌∙◌, append-nil, arith}
use Rattle.std.proofs.lemmas.List.{length-map, map-append}
use Rattle.std.proofs.lemmas.List.Elements.{All-cons, All-head, All-nil, All-replicate, All-same, All-tail}
use Rattle.fm_model.specs.declared.proto.Proto.{Proto}
use Rattle.pub_look.specs.History.{History}
use Rattle.pub_snap.specs.Opening.{unused}
use Rattle.dap_reply.specs.Collections.{alone, Collections, Views}
use Rattle.srv_many.specs.declared.several.Several.{Several}
use Rattle.srv_many.specs.Several.{nth, Rowed, views_in}
use Rattle.srv_workers.specs.declared.both.OneOf.{OneOf}
use Rattle.srv_workers.specs.declared.both.OneOf.TheVariants.{Other, This}
use Rattle.srv_workers.specs.declared.given.Given.{Given}
use Rattle.srv_workers.specs.declared.given.Vacant.{Vacant}
use Rattle.srv_workers.specs.declared.one.OwnHand.{OwnHand}
use Rattle.srv_workers.specs.Both.{all_collections, among_all, publisher_of, rowed_with}
use Rattle.srv_workers.specs.Desks.{IsUnseen, Publisher}
use Rattle.srv_workers.specs.Given.{AreGivenOut, each_of, IsVacant, new_at}
use Rattle.srv_workers.specs.Joined.{rows}
use Rattle.srv_workers.specs.One.{one_means, row_of_one}
use Rattle.srv_workers.specs.Places.{new_hand}
use Rattle.srv_workers.proofs.BothLemmas.{proto-behind}
use Rattle.srv_workers.proofs.EachLemmas.{each-same, length-each-le, map-each, map-equals}
use Rattle.srv_workers.proofs.GivenLemmas.{many-length}

-- what one desk gave out
pub AreGivenOut-one : {N : Type 0} (proto : Proto) (doors clocks : ℕ) (given : Given History (OwnHand N))
    → given.eyes ≡ replicate doors (unused proto) → given.at_inboxes ≡ replicate 1 (new_hand proto)
    → given.at_clocks ≡ replicate clocks (new_hand proto)
    → AreGivenOut (alone proto false) (λ (own : History). views_in (row_of_one proto own))
    (one_means {N = N} proto).publisher doors clocks given
AreGivenOut-one {N} proto doors clocks given eyes taken gone = record {
  eyes_are = many-length doors (unused proto) given.eyes eyes;
  unseen = All-same IsNewPass given.eyes (replicate doors (unused proto)) eyes
      (All-replicate IsNewPass doors (unused proto) (record { seen = none-row; looks = none-row }));
  at_inboxes_are = hands 1 given.at_inboxes taken;
  at_clocks_are = hands clocks given.at_clocks gone;
}
  where
    IsNewPass : History → Type 0
    IsNewPass own = IsUnseen (views_in (row_of_one proto own))

    none-row : {A : Type 0} (number : ℕ) → nth {A = List A} [] ([] ∷ []) number ≡ []
    none-row zero = refl
    none-row (suc number) = refl

    hands : (times : ℕ) (those : List (OwnHand N)) → those ≡ replicate times (new_hand proto)
        → map (one_means {N = N} proto).publisher those ≡ each_of times 1 (new_at (alone proto false))
    hands times those are =
        ap (λ (l : List (OwnHand N)). map (one_means {N = N} proto).publisher l) are
        ∙ map-equals (one_means {N = N} proto).publisher times (new_hand proto)
        ∙ sym (append-nil (replicate times (new_at (alone proto false) 0)))

-- as many pairs as there are on either side
rows-length : {A B : Type 0} (xs : List A) (ys : List B) → length ys ≡ length xs → length (rows xs ys) ≡ length xs
rows-length [] ys same = refl
rows-length (x ∷ xs) [] same = absurd (omega (arith, same))
rows-length (x ∷ xs) (y ∷ ys) same = ap suc (rows-length xs ys (omega (arith, same)))

-- what holds of each pair
rows-all : {A B : Type 0} (P : A → Type 0) (Q : B → Type 0) (R : Several A B → Type 0) (xs : List A) (ys : List B)
    → ((x : A) (y : B) → P x → Q y → R (record { first = x; others = y })) → All P xs → All Q ys → All R (rows xs ys)
rows-all P Q R [] ys both one two = All-nil R
rows-all P Q R (x ∷ xs) [] both one two = All-nil R
rows-all P Q R (x ∷ xs) (y ∷ ys) both one two =
    All-cons R (record { first = x; others = y }) (rows xs ys)
    (both x y (All-head P x xs one) (All-head Q y ys two))
    (rows-all P Q R xs ys both (All-tail P x xs one) (All-tail Q y ys two))

-- a function of the hands of the others
map-behind : (N : Type 0) {H : Type 0} (publisher : H → Publisher) (hands : List H)
    → map (publisher_of {N = N} publisher) (map (λ (hand : H). Other hand) hands) ≡ map among_all (map publisher hands)
map-behind N publisher [] = refl
map-behind N publisher (hand ∷ hands) =
    ap (λ (l : List Publisher). among_all (publisher hand) ∷ l) (map-behind N publisher hands)

-- new hands of the first desk and of the others are new hands of all
hands-all : {N H : Type 0} (proto : Proto) (others : Collections) (publisher : H → Publisher) (times : ℕ)
    (first : List (OwnHand N)) (behind : List H) (all : List (OneOf (OwnHand N) H))
    → first ≡ replicate times (new_hand proto) → map publisher behind ≡ each_of times others.count (new_at others)
    → all ≡ map (λ (hand : OwnHand N). This hand) first ++ map (λ (hand : H). Other hand) behind
    → map (publisher_of publisher) all ≡ each_of times (suc others.count) (new_at (all_collections proto others))
hands-all {N} {H} proto others publisher times first behind all are behind_are joined =
    ap (λ (l : List (OneOf (OwnHand N) H)). map (publisher_of publisher) l) joined
    ∙ map-append (publisher_of publisher) (map (λ (hand : OwnHand N). This hand) first)
    (map (λ (hand : H). Other hand) behind)
    ∙ ap₂ (λ (l m : List Publisher). l ++ m)
    (ap (λ (l : List (OwnHand N)). map (publisher_of publisher) (map (λ (hand : OwnHand N). This hand) l)) are
    ∙ ap (λ (l : List (OneOf (OwnHand N) H)). map (publisher_of publisher) l)
    (map-equals {A = OwnHand N} {B = OneOf (OwnHand N) H} (λ hand. This hand) times (new_hand proto))
    ∙ map-equals (publisher_of publisher) times (This (new_hand proto)))
    (map-behind N publisher behind ∙ ap (λ (l : List Publisher). map among_all l) behind_are
    ∙ map-each among_all times others.count (new_at others)
    ∙ each-same times others.count (λ (n : ℕ). among_all (new_at others n))
    (λ (n : ℕ). new_at (all_collections proto others) (suc n))
    (λ n below. ap (λ (p : Proto). record { desk = suc n; pass = unused p; share = 0 })
    (sym (proto-behind proto others n below))))

-- what a desk and others gave out together
pub AreGivenOut-all : {N P H : Type 0} (proto : Proto) (others : Collections) (row : P → Rowed)
    (publisher : H → Publisher) (doors clocks : ℕ) (first : Given History (OwnHand N)) (behind : Given P H)
    (all : Given (Several History P) (OneOf (OwnHand N) H)) → first.eyes ≡ replicate doors (unused proto)
    → first.at_inboxes ≡ replicate 1 (new_hand proto) → first.at_clocks ≡ replicate clocks (new_hand proto)
    → AreGivenOut others (λ (p : P). views_in (row p)) publisher doors clocks behind
    → all.eyes ≡ rows first.eyes behind.eyes
    → all.at_inboxes ≡ map (λ (hand : OwnHand N). This hand) first.at_inboxes
    ++ map (λ (hand : H). Other hand) behind.at_inboxes
    → all.at_clocks ≡ map (λ (hand : OwnHand N). This hand) first.at_clocks
    ++ map (λ (hand : H). Other hand) behind.at_clocks
    → AreGivenOut (all_collections proto others) (λ (p : Several History P). views_in (rowed_with proto row p))
    (publisher_of publisher) doors clocks all
AreGivenOut-all {N} {P} {H} proto others row publisher doors clocks first behind all eyes taken gone out rowed
    inboxes clocked = record {
      eyes_are = ap (λ (l : List (Several History P)). length l) rowed
          ∙ rows-length first.eyes behind.eyes (out.eyes_are ∙ sym as-many) ∙ as-many;
      unseen = All-same IsNewRow all.eyes (rows first.eyes behind.eyes) rowed
          (rows-all IsNewPass (λ (p : P). IsUnseen (views_in (row p))) IsNewRow first.eyes behind.eyes both
          (All-same IsNewPass first.eyes (replicate doors (unused proto)) eyes
          (All-replicate IsNewPass doors (unused proto) (refl, refl))) out.unseen);
      at_inboxes_are = hands-all proto others publisher 1 first.at_inboxes behind.at_inboxes all.at_inboxes taken
          out.at_inboxes_are inboxes;
      at_clocks_are = hands-all proto others publisher clocks first.at_clocks behind.at_clocks all.at_clocks gone
          out.at_clocks_are clocked;
    }
  where
    as-many : length first.eyes ≡ doors
    as-many = many-length doors (unused proto) first.eyes eyes

    IsNewPass : History → Type 0
    IsNewPass own = (own.seen ≡ []) × (own.looks ≡ [])

    IsNewRow : Several History P → Type 0
    IsNewRow p = IsUnseen (views_in (rowed_with proto row p))

    both : (own : History) (p : P) → IsNewPass own → IsUnseen (views_in (row p))
        → IsNewRow (record { first = own; others = p })
    both own p new unseen = record { seen = seen; looks = looks }
      where
        seen : (number : ℕ) → nth [] (own.seen ∷ (row p).seen) number ≡ []
        seen zero = new.0
        seen (suc number) = unseen.seen number

        looks : (number : ℕ) → nth [] (own.looks ∷ (row p).looks) number ≡ []
        looks zero = new.1
        looks (suc number) = unseen.looks number

-- there is room for what they are given together
pub IsVacant-all : {N P H : Type 0} (proto : Proto) (others : Collections) (views : P → Views)
    (publisher : H → Publisher) (doors clocks : ℕ) (first : Given History (OwnHand N)) (behind : Given P H)
    (vacant : Vacant (Several History P) (OneOf (OwnHand N) H)) → clocks ≤ 1
    → first.eyes ≡ replicate doors (unused proto) → first.at_inboxes ≡ replicate 1 (new_hand proto)
    → first.at_clocks ≡ replicate clocks (new_hand proto) → AreGivenOut others views publisher doors clocks behind
    → IsVacant doors (suc others.count) (suc others.count) vacant
    → IsVacant (length first.eyes) (length first.at_inboxes + length behind.at_inboxes)
    (length first.at_clocks + length behind.at_clocks) vacant
IsVacant-all {N} {P} {H} proto others views publisher doors clocks first behind vacant few eyes taken gone out
    room = record {
      no_eyes = room.no_eyes;
      eyes = omega (arith, room.eyes, many-length doors (unused proto) first.eyes eyes);
      no_at_inboxes = room.no_at_inboxes;
      at_inboxes = omega (
        arith,
        room.at_inboxes,
        many-length 1 (new_hand proto) first.at_inboxes taken,
        hands-few 1 behind.at_inboxes (omega arith) out.at_inboxes_are,
      );
      no_at_clocks = room.no_at_clocks;
      at_clocks = omega (
        arith,
        few,
        room.at_clocks,
        many-length clocks (new_hand proto) first.at_clocks gone,
        hands-few clocks behind.at_clocks few out.at_clocks_are,
      );
    }
  where
    hands-few : (times : ℕ) (hands : List H) → times ≤ 1
        → map publisher hands ≡ each_of times others.count (new_at others) → length hands ≤ others.count
    hands-few times hands most are = omega (
      arith,
      length-map hands publisher,
      ap (λ (l : List Publisher). length l) are,
      length-each-le times others.count (new_at others) most,
    )

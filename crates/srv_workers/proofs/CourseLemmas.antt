-- Workers that have learnt logs, again and again until each has seen just those.
use Rattle.std.proofs.Common.{◌≡◌, ℕ, zero, suc, ◌+◌, ◌<◌, List, [], ◌∷◌, ◌++◌, length, take, All, refl, sym, ap, subst, ◌∙◌, append-nil, arith}
use Rattle.std.specs.Prelude.{get_or, slice_set}
use Rattle.std.proofs.lemmas.List.{take_more_set}
use Rattle.std.proofs.lemmas.List.Elements.{All-nil, All-cons, All-head, All-push, All-same, All-tail}
use Rattle.std.specs.List.{AllZip, filter_map}
use Rattle.fm_edition.specs.Log.{IsLog}
use Rattle.fm_model.specs.declared.op.Op.{Op}
use Rattle.pub_look.specs.History.{Continues}
use Rattle.pub_look.proofs.HistoryLemmas.{continues_on, same_length}
use Rattle.srv_workers.specs.declared.worker.Worker.{Worker}
use Rattle.srv_workers.specs.declared.worker.Worker.TheVariants.{Serve, TakeIn, LetGo}
use Rattle.srv_workers.specs.Course.{Begins, HasLearnt, HasSeen, Keeps}
use Rattle.srv_workers.specs.Desks.{Means}
use Rattle.srv_workers.specs.Workers.{door_of, LooksAt, seen_by}
use Rattle.srv_workers.proofs.PairLemmas.{AllZip-then}

-- the first n items were changed so, and the others not at all
abbrev pub FirstChanged : {A : Type 0} → (A → A → Type 0) → ℕ → List A → List A → Type 0
FirstChanged Is zero xs ys = ys ≡ xs
FirstChanged Is (suc n) [] ys = ys ≡ []
FirstChanged Is (suc n) (x ∷ xs) [] = ⊥
FirstChanged Is (suc n) (x ∷ xs) (y ∷ ys) = Is x y × FirstChanged Is n xs ys

-- the next one is changed too
pub FirstChanged-next : {A : Type 0} (Is : A → A → Type 0) (n : ℕ) (xs ys : List A) (d y : A) → n < length ys
    → FirstChanged Is n xs ys → Is (get_or ys n d) y → FirstChanged Is (n + 1) xs (slice_set ys n y)
FirstChanged-next Is n xs [] d y below changed is = absurd (omega (arith, below))
FirstChanged-next {A} Is zero xs (z ∷ zs) d y below changed is =
    subst (λ (l : List A). FirstChanged Is 1 l (y ∷ zs)) changed (is, refl)
FirstChanged-next {A} Is (suc n) [] (z ∷ zs) d y below changed is =
    absurd (omega (arith, ap (λ (l : List A). length l) changed))
FirstChanged-next {A} Is (suc n) (x ∷ xs) (z ∷ zs) d y below changed is =
    let more : suc n + 1 ≡ suc (n + 1) = omega arith in
    subst (λ (k : ℕ). FirstChanged Is k (x ∷ xs) (z ∷ slice_set zs n y)) (sym more)
    (changed.0, FirstChanged-next Is n xs zs d y (omega (arith, below)) changed.1 is)

-- all were
pub FirstChanged-all : {A : Type 0} (Is : A → A → Type 0) (n : ℕ) (xs ys : List A) → length xs ≡ n
    → FirstChanged Is n xs ys → AllZip Is xs ys
FirstChanged-all {A} Is zero [] ys whole changed = subst (λ (l : List A). AllZip Is [] l) (sym changed) tt
FirstChanged-all Is zero (x ∷ xs) ys whole changed = absurd (omega (arith, whole))
FirstChanged-all Is (suc n) [] ys whole changed = absurd (omega (arith, whole))
FirstChanged-all Is (suc n) (x ∷ xs) [] whole changed = absurd changed
FirstChanged-all Is (suc n) (x ∷ xs) (y ∷ ys) whole changed =
    (changed.0, FirstChanged-all Is n xs ys (omega (arith, whole)) changed.1)

-- a worker that has learnt nothing keeps what it has
keeps-itself : {D I C E H : Type 0} (means : Means E H) (worker : Worker D I C E H) → Keeps means worker worker
keeps-itself means worker = record {
  door = refl;
  door_told = refl;
  inbox = refl;
  inbox_told = refl;
  clock = refl;
  clock_told = refl;
  counted = λ number. refl;
  looks = λ number looks. looks;
  later = λ number. ([], sym (append-nil (seen_by means worker number)));
}

pub keeps-start : {D I C E H : Type 0} (means : Means E H) (staff : List (Worker D I C E H))
    → AllZip (Keeps means) staff staff
keeps-start means [] = tt
keeps-start means (worker ∷ more) = (keeps-itself means worker, keeps-start means more)

-- a worker that kept what it has and then has learnt keeps it
keeps-both : {D I C E H : Type 0} (means : Means E H) (log : ℕ → List Op) (u v w : Worker D I C E H)
    → Keeps means u v → HasLearnt means log v w → Keeps means u w
keeps-both means log u v w one two = record {
  door = two.keeps.door ∙ one.door;
  door_told = two.keeps.door_told ∙ one.door_told;
  inbox = two.keeps.inbox ∙ one.inbox;
  inbox_told = two.keeps.inbox_told ∙ one.inbox_told;
  clock = two.keeps.clock ∙ one.clock;
  clock_told = two.keeps.clock_told ∙ one.clock_told;
  counted = λ number. two.keeps.counted number ∙ one.counted number;
  looks = λ number looks. two.keeps.looks number (one.looks number looks);
  later = λ number. continues_on (seen_by means u number) (seen_by means v number) (seen_by means w number)
      (one.later number) (two.keeps.later number);
}

pub keeps-turn : {D I C E H : Type 0} (means : Means E H) (log : ℕ → List Op) (us vs ws : List (Worker D I C E H))
    → AllZip (Keeps means) us vs → AllZip (HasLearnt means log) vs ws → AllZip (Keeps means) us ws
keeps-turn means log us vs ws one two =
    AllZip-then (Keeps means) (HasLearnt means log) (Keeps means) us vs ws one two (keeps-both means log)

-- what a worker has seen of a desk is its log, once it has learnt that and has seen its length
its-log : {D I C E H : Type 0} (means : Means E H) (log : ℕ → List Op) (v w : Worker D I C E H) (number : ℕ)
    → HasLearnt means log v w → HasSeen means log w → LooksAt means w number → seen_by means w number ≡ log number
its-log means log v w number learnt seen looks =
    same_length (log number) (seen_by means w number) (learnt.told number looks) (seen.level number looks)

-- what workers had seen begins the logs
pub begin-turn : {D I C E H : Type 0} (means : Means E H) (log : ℕ → List Op) (us vs ws : List (Worker D I C E H))
    → AllZip (Keeps means) us vs → AllZip (HasLearnt means log) vs ws → All (HasSeen means log) ws
    → All (Begins means log) us
begin-turn means log [] vs ws one two seen = All-nil (Begins means log)
begin-turn means log (u ∷ us) [] ws one two seen = absurd one
begin-turn means log (u ∷ us) (v ∷ vs) [] one two seen = absurd two
begin-turn means log (u ∷ us) (v ∷ vs) (w ∷ ws) one two seen =
    All-cons (Begins means log) u us begins
    (begin-turn means log us vs ws one.1 two.1 (All-tail (HasSeen means log) w ws seen))
  where
    begins : Begins means log u
    begins = λ number looks. subst (λ (l : List Op). Continues (seen_by means u number) l)
        (its-log means log v w number two.0 (All-head (HasSeen means log) w ws seen)
        (two.0.keeps.looks number (one.0.looks number looks)))
        ((keeps-both means log u v w one.0 two.0).later number)

-- each log is sound where a door's worker has seen just that
pub sound-turn : {D I C E H : Type 0} (means : Means E H) (log : ℕ → List Op) (us vs ws : List (Worker D I C E H))
    → 0 < length (filter_map door_of us)
    → AllZip (Keeps means) us vs → AllZip (HasLearnt means log) vs ws → All (HasSeen means log) ws
    → (number : ℕ) → number < means.them.count → IsLog (means.them.proto number) (log number)
sound-turn means log [] vs ws some one two seen number below = absurd (omega (arith, some))
sound-turn means log (u ∷ us) [] ws some one two seen number below = absurd one
sound-turn means log (u ∷ us) (v ∷ vs) [] some one two seen number below = absurd two
sound-turn means log (Serve d n e r ∷ us) (v ∷ vs) (w ∷ ws) some one two seen number below =
    subst (λ (l : List Op). IsLog (means.them.proto number) l)
    (its-log means log v w number two.0 (All-head (HasSeen means log) w ws seen) looks)
    ((All-head (HasSeen means log) w ws seen).sound number looks)
  where
    looks : LooksAt means w number
    looks = two.0.keeps.looks number (one.0.looks number below)
sound-turn means log (TakeIn i h r ∷ us) (v ∷ vs) (w ∷ ws) some one two seen number below =
    sound-turn means log us vs ws some one.1 two.1 (All-tail (HasSeen means log) w ws seen) number below
sound-turn means log (LetGo c h r ∷ us) (v ∷ vs) (w ∷ ws) some one two seen number below =
    sound-turn means log us vs ws some one.1 two.1 (All-tail (HasSeen means log) w ws seen) number below

-- what holds of the first items and of the one that was changed next
pub seen-next : {A : Type 0} (P : A → Type 0) (n : ℕ) (xs : List A) (y : A) → n < length xs → All P (take n xs) → P y
    → All P (take (n + 1) (slice_set xs n y))
seen-next P n xs y below all is =
    All-same P (take (n + 1) (slice_set xs n y)) (take n xs ++ y ∷ []) (take_more_set xs n y below)
    (All-push P (take n xs) y all is)

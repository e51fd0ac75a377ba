-- The parts of workers that are taken apart one after the other.
use Rattle.std.proofs.Common.{◌≡◌, ℕ, ◌+◌, ◌≤◌, List, [], ◌∷◌, ◌++◌, length, take, drop, Option, refl, sym, ap, subst, ◌∙◌, append_assoc, append-nil, length-append, arith}
use Rattle.std.proofs.lemmas.List.{take-append-drop, take_all}
use Rattle.std.proofs.lemmas.List.Elements.{filter_map-append}
use Rattle.std.specs.List.{filter_map}
use Rattle.srv_workers.specs.declared.parts.Parts.{Parts}
use Rattle.srv_workers.specs.declared.worker.Worker.{Worker}
use Rattle.srv_workers.specs.Desks.{counted_at, Means}
use Rattle.srv_workers.specs.Parts.{HasRoom, PutsParts, TakesShares}
use Rattle.srv_workers.specs.Slots.{PutsItems, Slotted}
use Rattle.srv_workers.specs.Workers.{clock_of, clock_told, counted_by, counted_with, door_of, door_told, hand_of, inbox_of, inbox_told}
use Rattle.srv_workers.proofs.StaffLemmas.{take-next}

-- nothing was put behind others
PutsItems-none : {T : Type 0} (slots : Slotted T) → PutsItems [] slots slots
PutsItems-none slots = record { items_are = sym (append-nil slots.items); free_is = omega arith }

-- items were put behind others in two steps
PutsItems-both : {X : Type 0} (xs ys all : List X) (before middle after : Slotted X) → all ≡ xs ++ ys
    → PutsItems xs before middle → PutsItems ys middle after → PutsItems all before after
PutsItems-both {X} xs ys all before middle after are one two = record {
  items_are = two.items_are ∙ ap (λ (l : List X). l ++ ys) one.items_are ∙ append_assoc before.items xs ys
      ∙ ap (λ (l : List X). before.items ++ l) (sym are);
  free_is = omega (arith, one.free_is, two.free_is, ap (λ (l : List X). length l) are, length-append xs ys);
}

-- what hands have counted, in two parts
counted-append : {E H : Type 0} (means : Means E H) (number : ℕ) (xs ys : List H)
    → counted_with means number (xs ++ ys) ≡ counted_with means number xs ++ counted_with means number ys
counted-append means number [] ys = refl
counted-append means number (x ∷ xs) ys =
    ap (λ (l : List ℕ). counted_at number (means.publisher x) ++ l) (counted-append means number xs ys)
    ∙ sym (append_assoc (counted_at number (means.publisher x)) (counted_with means number xs)
    (counted_with means number ys))

counted-both : {D I C E H : Type 0} (means : Means E H) (number : ℕ) (ts us : List (Worker D I C E H))
    → counted_by means number (ts ++ us) ≡ counted_by means number ts ++ counted_by means number us
counted-both {H = H} means number ts us =
    ap (λ (l : List H). counted_with means number l) (filter_map-append hand_of ts us)
    ∙ counted-append means number (filter_map hand_of ts) (filter_map hand_of us)

-- a list is its first n items, the next one and what follows
split-at : {X : Type 0} (n : ℕ) (xs rest : List X) (x : X) (more : List X) → rest ≡ drop n xs → rest ≡ x ∷ more
    → xs ≡ take n xs ++ (x ∷ [] ++ more)
split-at {X} n xs rest x more is first =
    sym (take-append-drop n xs) ∙ ap (λ (l : List X). take n xs ++ l) (sym is ∙ first)

-- there is room for the next item
room-next : {T X : Type 0} (made : T → Option X) (n : ℕ) (ts rest : List T) (t : T) (more : List T)
    (before now : Slotted X) → length (filter_map made ts) ≤ before.free
    → PutsItems (filter_map made (take n ts)) before now
    → rest ≡ drop n ts → rest ≡ t ∷ more → length (filter_map made (t ∷ [])) ≤ now.free
room-next {T} {X} made n ts rest t more before now room puts is first = omega (
  arith,
  room,
  puts.free_is,
  ap (λ (l : List T). length (filter_map made l)) (split-at n ts rest t more is first),
  ap (λ (l : List X). length l) (filter_map-append made (take n ts) (t ∷ [] ++ more)),
  length-append (filter_map made (take n ts)) (filter_map made (t ∷ [] ++ more)),
  ap (λ (l : List X). length l) (filter_map-append made (t ∷ []) more),
  length-append (filter_map made (t ∷ [])) (filter_map made more),
)

-- the same of shares at a desk
shares-next : {D I C E H : Type 0} (means : Means E H) (number : ℕ) (n : ℕ) (ts rest : List (Worker D I C E H))
    (t : Worker D I C E H) (more : List (Worker D I C E H)) (before now : Slotted ℕ)
    → length (counted_by means number ts) ≤ before.free
    → PutsItems (counted_by means number (take n ts)) before now
    → rest ≡ drop n ts → rest ≡ t ∷ more → length (counted_by means number (t ∷ [])) ≤ now.free
shares-next {D} {I} {C} {E} {H} means number n ts rest t more before now room puts is first = omega (
  arith,
  room,
  puts.free_is,
  ap (λ (l : List (Worker D I C E H)). length (counted_by means number l)) (split-at n ts rest t more is first),
  ap (λ (l : List ℕ). length l) (counted-both means number (take n ts) (t ∷ [] ++ more)),
  length-append (counted_by means number (take n ts)) (counted_by means number (t ∷ [] ++ more)),
  ap (λ (l : List ℕ). length l) (counted-both means number (t ∷ []) more),
  length-append (counted_by means number (t ∷ [])) (counted_by means number more),
)

-- no parts were put behind others
pub PutsParts-none : {D I C E H B : Type 0} (means : Means E H) (slots : B → ℕ → Slotted ℕ) (parts : Parts D I C B)
    → PutsParts means slots [] parts parts
PutsParts-none means slots parts = record {
  doors = PutsItems-none parts.doors;
  inboxes = PutsItems-none parts.inboxes;
  clocks = PutsItems-none parts.clocks;
  doors_told = PutsItems-none parts.doors_told;
  inboxes_told = PutsItems-none parts.inboxes_told;
  clocks_told = PutsItems-none parts.clocks_told;
  shares = λ number below. PutsItems-none (slots parts.back number);
}

-- parts were put behind others in two steps
PutsParts-both : {D I C E H B : Type 0} (means : Means E H) (slots : B → ℕ → Slotted ℕ)
    (ts us : List (Worker D I C E H)) (before middle after : Parts D I C B) → PutsParts means slots ts before middle
    → PutsParts means slots us middle after → PutsParts means slots (ts ++ us) before after
PutsParts-both means slots ts us before middle after one two = record {
  doors = PutsItems-both (filter_map door_of ts) (filter_map door_of us) (filter_map door_of (ts ++ us)) before.doors
      middle.doors after.doors (filter_map-append door_of ts us) one.doors two.doors;
  inboxes = PutsItems-both (filter_map inbox_of ts) (filter_map inbox_of us) (filter_map inbox_of (ts ++ us))
      before.inboxes
      middle.inboxes after.inboxes (filter_map-append inbox_of ts us) one.inboxes two.inboxes;
  clocks = PutsItems-both (filter_map clock_of ts) (filter_map clock_of us) (filter_map clock_of (ts ++ us))
      before.clocks
      middle.clocks after.clocks (filter_map-append clock_of ts us) one.clocks two.clocks;
  doors_told = PutsItems-both (filter_map door_told ts) (filter_map door_told us) (filter_map door_told (ts ++
      us)) before.doors_told
      middle.doors_told after.doors_told (filter_map-append door_told ts us) one.doors_told two.doors_told;
  inboxes_told = PutsItems-both (filter_map inbox_told ts) (filter_map inbox_told us) (filter_map inbox_told
      (ts ++ us)) before.inboxes_told
      middle.inboxes_told after.inboxes_told (filter_map-append inbox_told ts us) one.inboxes_told two.inboxes_told;
  clocks_told = PutsItems-both (filter_map clock_told ts) (filter_map clock_told us) (filter_map clock_told (ts
      ++ us)) before.clocks_told
      middle.clocks_told after.clocks_told (filter_map-append clock_told ts us) one.clocks_told two.clocks_told;
  shares = λ number below. PutsItems-both (counted_by means number ts) (counted_by means number us)
      (counted_by means number (ts ++ us)) (slots before.back number) (slots middle.back number)
      (slots after.back number) (counted-both means number ts us) (one.shares number below) (two.shares number below);
}

-- there is room for the devices and the reports of the next worker
pub HasRoom-next : {D I C E H B : Type 0} (means : Means E H) (slots : B → ℕ → Slotted ℕ) (n : ℕ)
    (ts rest : List (Worker D I C E H)) (t : Worker D I C E H) (more : List (Worker D I C E H))
    (before now : Parts D I C B) → HasRoom ts before → PutsParts means slots (take n ts) before now
    → rest ≡ drop n ts → rest ≡ t ∷ more → HasRoom (t ∷ []) now
HasRoom-next means slots n ts rest t more before now room puts is first = record {
  doors = room-next door_of n ts rest t more before.doors now.doors room.doors puts.doors is first;
  inboxes = room-next inbox_of n ts rest t more before.inboxes now.inboxes room.inboxes puts.inboxes is first;
  clocks = room-next clock_of n ts rest t more before.clocks now.clocks room.clocks puts.clocks is first;
  doors_told = room-next door_told n ts rest t more before.doors_told now.doors_told room.doors_told
      puts.doors_told is first;
  inboxes_told = room-next inbox_told n ts rest t more before.inboxes_told now.inboxes_told room.inboxes_told
      puts.inboxes_told is first;
  clocks_told = room-next clock_told n ts rest t more before.clocks_told now.clocks_told room.clocks_told
      puts.clocks_told is first;
}

-- there is room for its share
pub TakesShares-next : {D I C E H B : Type 0} (means : Means E H) (slots : B → ℕ → Slotted ℕ) (n : ℕ)
    (ts rest : List (Worker D I C E H)) (t : Worker D I C E H) (more : List (Worker D I C E H))
    (before now : Parts D I C B) → TakesShares means slots ts before.back
    → PutsParts means slots (take n ts) before now → rest ≡ drop n ts → rest ≡ t ∷ more
    → TakesShares means slots (t ∷ []) now.back
TakesShares-next means slots n ts rest t more before now room puts is first number below =
    shares-next means number n ts rest t more (slots before.back number) (slots now.back number) (room number below)
    (puts.shares number below) is first

-- the parts of the next worker were put behind the others
pub PutsParts-next : {D I C E H B : Type 0} (means : Means E H) (slots : B → ℕ → Slotted ℕ) (n : ℕ)
    (ts rest : List (Worker D I C E H)) (t : Worker D I C E H) (more : List (Worker D I C E H))
    (before now after : Parts D I C B) → PutsParts means slots (take n ts) before now → rest ≡ drop n ts
    → rest ≡ t ∷ more → PutsParts means slots (t ∷ []) now after → PutsParts means slots (take (n + 1) ts) before after
PutsParts-next {D} {I} {C} {E} {H} means slots n ts rest t more before now after puts is first one =
    subst (λ (l : List (Worker D I C E H)). PutsParts means slots l before after)
    (sym (take-next n ts rest t more is first))
    (PutsParts-both means slots (take n ts) (t ∷ []) before now after puts one)

-- the parts of all workers were put behind the others
pub PutsParts-all : {D I C E H B : Type 0} (means : Means E H) (slots : B → ℕ → Slotted ℕ) (n : ℕ)
    (ts : List (Worker D I C E H)) (before after : Parts D I C B) → PutsParts means slots (take n ts) before after
    → n ≡ length ts → PutsParts means slots ts before after
PutsParts-all {D} {I} {C} {E} {H} means slots n ts before after puts is =
    subst (λ (l : List (Worker D I C E H)). PutsParts means slots l before after)
    (take_all n ts (omega (arith, is))) puts

-- Doors after links came and were given back.
use Rattle.std.proofs.Common.{◌≡◌, ◌<◌, ℕ, ◌+◌, ◌-◌, Bool, cond, List, [], ◌∷◌, ◌++◌, length, map, take, drop, Option, Some, None, refl, sym, ap, ap₂, ◌∙◌, append_assoc, arith, length-append, take-add, drop-drop}
use Rattle.std.specs.Prelude.{is_some, IfSome}
use Rattle.std.proofs.lemmas.List.{map-append}
use Rattle.std.proofs.lemmas.List.Sums.{sum_by-set}
use Rattle.std.proofs.lemmas.Option.{none-some, same_Some}
use Rattle.slab.specs.Slab.{get, slab_len, ContainsKey, Slab}
use Rattle.slab.proofs.SlabLemmas.{ContainsKey-within}
use Rattle.dev_traits.specs.Door.{after_coming, after_done, first_of, Doorway}
use Rattle.dev_traits.specs.declared.door.Coming.TheVariants.{Came}
use Rattle.srv_door.specs.AtDoor.{with_out, IsOutSome}
use Rattle.srv_door.specs.DoorTurns.{after_turns, Turn}

-- the length of a list with one more
pub length-more : {A : Type 0} (xs : List A) (x : A) → length (xs ++ x ∷ []) ≡ length xs + 1
length-more xs x = length-append xs (x ∷ [])

-- ---- doors

-- a door at which one link more came
pub door-came : {L : Type 0} (count out : ℕ) (turns : List (Turn L)) (link : L) (door : Option (Doorway L))
    → after_coming (Came link) (with_out out (after_turns count turns door))
    ≡ with_out (out + 1) (after_turns (count + 1) turns door)
door-came count out turns link None = refl
door-came {L} count out turns link (Some doorway) =
    let given : List L = doorway.given ++ map (λ turn. turn.left) turns in
    let out_is : doorway.out + out + 1 ≡ doorway.out + (out + 1) = omega arith in
    ap (λ (l : List L). Some (record doorway { left = l; out = doorway.out + out + 1; given = given }))
    (drop-drop 1 count doorway.left)
    ∙ ap (λ (n : ℕ). Some (record doorway { left = drop (count + 1) doorway.left; out = n; given = given })) out_is

-- a door at which one link more was given back
pub door-done : {L : Type 0} (count out : ℕ) (turns : List (Turn L)) (turn : Turn L) (door : Option (Doorway L))
    → after_done turn.left (with_out (out + 1) (after_turns count turns door))
    ≡ with_out out (after_turns count (turns ++ turn ∷ []) door)
door-done count out turns turn None = refl
door-done {L} count out turns turn (Some doorway) =
    let left : List L = drop count doorway.left in
    let out_is : doorway.out + (out + 1) - 1 ≡ doorway.out + out = omega arith in
    ap (λ (n : ℕ). Some (record doorway {
      left = left;
      out = n;
      given = (doorway.given ++ map (λ it. it.left) turns) ++ turn.left ∷ [];
    })) out_is
    ∙ ap (λ (l : List L). Some (record doorway { left = left; out = doorway.out + out; given = l }))
    (append_assoc doorway.given (map (λ it. it.left) turns) (turn.left ∷ [])
    ∙ ap (λ (l : List L). doorway.given ++ l) (sym (map-append (λ it. it.left) turns (turn ∷ []))))

-- a door of which none is out
pub door-all : {L : Type 0} (count : ℕ) (turns : List (Turn L)) (door : Option (Doorway L))
    → with_out 0 (after_turns count turns door) ≡ after_turns count turns door
door-all count turns None = refl
door-all {L} count turns (Some doorway) =
    let out_is : doorway.out + 0 ≡ doorway.out = omega arith in
    ap (λ (n : ℕ). Some (record doorway {
      left = drop count doorway.left;
      out = n;
      given = doorway.given ++ map (λ turn. turn.left) turns;
    })) out_is

-- a list with a first item begins with it
take_first : {A : Type 0} (xs : List A) (first : A) → first_of xs ≡ Some first → take 1 xs ≡ first ∷ []
take_first [] first is = absurd (none-some first is)
take_first {A} (x ∷ xs) first is = ap (λ (y : A). y ∷ []) (same_Some x first is)

-- the link that came is the next of those that were left
pub came-more : {L : Type 0} (came : List L) (out : ℕ) (turns : List (Turn L)) (link : L) (door : Option (Doorway L))
    → IfSome door (λ it. came ≡ take (length came) it.left)
    → IfSome (with_out out (after_turns (length came) turns door)) (λ it. first_of it.left ≡ Some link)
    → IfSome door (λ it. came ++ link ∷ [] ≡ take (length (came ++ link ∷ [])) it.left)
came-more came out turns link None is next = tt
came-more {L} came out turns link (Some doorway) is next =
    ap₂ (λ (xs ys : List L). xs ++ ys) is (sym (take_first (drop (length came) doorway.left) link next))
    ∙ sym (take-add (length came) 1 doorway.left)
    ∙ ap (λ (n : ℕ). take n doorway.left) (sym (length-more came link))

-- a link that is out
pub out-some : {L : Type 0} (count out : ℕ) (turns : List (Turn L)) (door : Option (Doorway L)) → 0 < out
    → IfSome (with_out out (after_turns count turns door)) IsOutSome
out-some count out turns None some = tt
out-some count out turns (Some doorway) some = omega (arith, some)

-- some key has a value
pub len-some : {A : Type 0} (s : Slab A) (key : ℕ) → ContainsKey s key → 0 < slab_len s
len-some {A} s key there =
    let sums = sum_by-set (λ (o : Option A). cond (is_some o) 1 0) s.slots key None None
    (ContainsKey-within s key there) in
    let one : ◌≡◌ {A = ℕ} (cond (is_some (get s key)) 1 0) 1 = ap (λ (b : Bool). cond b 1 0) there in
    omega (arith, sums, one)

-- What the loops of the readers do, turn by turn.
use Rattle.std.proofs.Common.{◌≡◌, ℕ, suc, ◌+◌, ◌-◌, ◌<◌, ◌≤◌, Bool, true, false, if◌then◌else◌, List, [], ◌∷◌, ◌++◌, length, drop, get_or, Ok, Err, refl, sym, ap, ap₂, ◌∙◌, arith}
use Rattle.std.proofs.Math.Seq.{drop-cons}
use Rattle.std.proofs.lemmas.List.{at_drop_all}
use Rattle.fm_base.specs.Input.{Input}
use Rattle.fm_base.specs.Parser.{Outcome, and_then, ◌>>=◌, pure}
use Rattle.nc_model.specs.UnitsReading.{byte_at}
use Rattle.dap_client.specs.Reading.{Reader, each_at, fixed_at, many_at, repeat_at, turn_at}

-- what is left from an index on begins with what stands there
pub drop_here : {A : Type 0} (xs : List A) (n : ℕ) (x d : A) → n < length xs → x ≡ get_or xs n d
    → drop n xs ≡ x ∷ drop (n + 1) xs
drop_here {A} xs n x d below there =
    let next : suc n ≡ n + 1 = omega arith in
    drop-cons xs n d below ∙ ap₂ (λ (y : A) (m : ℕ). y ∷ drop m xs) (sym there) next

-- one byte more
pub fixed-more : (bytes : List ℕ) (n byte d : ℕ) (unit : Unit {0}) (i next : Input) → n < length bytes
    → byte ≡ get_or bytes n d → byte_at byte i ≡ Ok (unit, next)
    → fixed_at (drop n bytes) i ≡ fixed_at (drop (n + 1) bytes) next
unfolding fixed_at
fixed-more bytes n byte d unit i next below there e =
    ap (λ (l : List ℕ). fixed_at l i) (drop_here bytes n byte d below there)
    ∙ ap (λ (r : Outcome (Unit {0}) ℕ). and_then r (λ done. fixed_at (drop (n + 1) bytes))) e

pub fixed-bad : (bytes : List ℕ) (n byte d fault : ℕ) (i : Input) → n < length bytes
    → byte ≡ get_or bytes n d → byte_at byte i ≡ Err fault
    → fixed_at (drop n bytes) i ≡ Err fault
unfolding fixed_at
fixed-bad bytes n byte d fault i below there e =
    ap (λ (l : List ℕ). fixed_at l i) (drop_here bytes n byte d below there)
    ∙ ap (λ (r : Outcome (Unit {0}) ℕ). and_then r (λ done. fixed_at (drop (n + 1) bytes))) e

pub fixed-done : (bytes : List ℕ) (n : ℕ) (i : Input) → length bytes ≤ n → fixed_at (drop n bytes) i ≡ Ok (tt, i)
unfolding fixed_at
fixed-done bytes n i past = at_drop_all (λ (l : List ℕ). fixed_at l i) bytes n past

pub ruleset bytes_in_turn = (fixed-more, fixed-bad, fixed-done)

-- an item for the next of these
pub each-more : {A B : Type 0} (item : A → Reader B) (xs : List A) (n : ℕ) (x d : A) (y : B) (found : List B)
    (i next : Input) → n < length xs → x ≡ get_or xs n d → item x i ≡ Ok (y, next)
    → each_at item (drop n xs) found i ≡ each_at item (drop (n + 1) xs) (found ++ y ∷ []) next
unfolding each_at
each-more {A} {B} item xs n x d y found i next below there e =
    ap (λ (l : List A). each_at item l found i) (drop_here xs n x d below there)
    ∙ ap (λ (r : Outcome B ℕ). and_then r (λ y. each_at item (drop (n + 1) xs) (found ++ y ∷ []))) e

pub each-bad : {A B : Type 0} (item : A → Reader B) (xs : List A) (n : ℕ) (x d : A) (found : List B) (i : Input)
    (fault : ℕ) → n < length xs → x ≡ get_or xs n d → item x i ≡ Err fault
    → each_at item (drop n xs) found i ≡ Err fault
unfolding each_at
each-bad {A} {B} item xs n x d found i fault below there e =
    ap (λ (l : List A). each_at item l found i) (drop_here xs n x d below there)
    ∙ ap (λ (r : Outcome B ℕ). and_then r (λ y. each_at item (drop (n + 1) xs) (found ++ y ∷ []))) e

pub each-done : {A B : Type 0} (item : A → Reader B) (xs : List A) (n : ℕ) (found : List B) (i : Input)
    → length xs ≤ n → each_at item (drop n xs) found i ≡ Ok (found, i)
unfolding each_at
each-done {A} {B} item xs n found i past = at_drop_all (λ (l : List A). each_at item l found i) xs n past

pub ruleset each_in_turn = (each-more, each-bad, each-done)

-- the items behind a turn
abbrev after_turn : {S : Type 0} → Reader Bool → (S → Reader S) → ℕ → Bool × S → Reader S
after_turn mark item n turn = if turn.0 then many_at mark item n turn.1 else pure turn.1

-- a turn and the items behind it, where items are left to come
many_at-turn : {S : Type 0} (mark : Reader Bool) (item : S → Reader S) (n at : ℕ) (found : S) (i : Input) → at < n
    → many_at mark item (n - at) found i
    ≡ and_then (turn_at mark item found i) (after_turn mark item (n - (at + 1)))
unfolding many_at turn_at
many_at-turn {S} mark item n at found i below = let more : n - at ≡ suc (n - (at + 1)) = omega arith in
    ap (λ k. many_at mark item k found i) more ∙ by_mark (mark i)
  where
    by_item : (r : Outcome S ℕ) → and_then r (λ next. many_at mark item (n - (at + 1)) next)
        ≡ and_then (and_then r (λ next. pure (true, next))) (after_turn mark item (n - (at + 1)))
    by_item (Ok read) = refl
    by_item (Err fault) = refl

    by_more : (more : Bool) (j : Input)
        → (if more then (item found >>= λ next. many_at mark item (n - (at + 1)) next) else pure found) j
        ≡ and_then ((if more then (item found >>= λ next. pure (true, next)) else pure (false, found)) j)
        (after_turn mark item (n - (at + 1)))
    by_more true j = by_item (item found j)
    by_more false j = refl

    by_mark : (r : Outcome Bool ℕ)
        → and_then r
        (λ more. if more then (item found >>= λ next. many_at mark item (n - (at + 1)) next) else pure found)
        ≡ and_then
        (and_then r (λ more. if more then (item found >>= λ next. pure (true, next)) else pure (false, found)))
        (after_turn mark item (n - (at + 1)))
    by_mark (Ok read) = by_more read.0 read.1
    by_mark (Err fault) = refl

-- one item more
pub many-more : {S : Type 0} (mark : Reader Bool) (item : S → Reader S) (n at : ℕ) (more : Bool) (found next : S)
    (i j : Input) → at < n → turn_at mark item found i ≡ Ok ((more, next), j) → more ≡ true
    → many_at mark item (n - at) found i ≡ many_at mark item (n - (at + 1)) next j
many-more {S} mark item n at more found next i j below e is =
    many_at-turn mark item n at found i below
    ∙ ap (λ (r : Outcome (Bool × S) ℕ). and_then r (after_turn mark item (n - (at + 1)))) e
    ∙ ap (λ (b : Bool). after_turn mark item (n - (at + 1)) (b, next) j) is

-- the last turn
pub many-ended : {S : Type 0} (mark : Reader Bool) (item : S → Reader S) (n at : ℕ) (more : Bool) (found next : S)
    (i j : Input) → at < n → turn_at mark item found i ≡ Ok ((more, next), j) → more ≡ false
    → many_at mark item (n - at) found i ≡ Ok (next, j)
many-ended {S} mark item n at more found next i j below e is =
    many_at-turn mark item n at found i below
    ∙ ap (λ (r : Outcome (Bool × S) ℕ). and_then r (after_turn mark item (n - (at + 1)))) e
    ∙ ap (λ (b : Bool). after_turn mark item (n - (at + 1)) (b, next) j) is

pub many-bad : {S : Type 0} (mark : Reader Bool) (item : S → Reader S) (n at : ℕ) (found : S) (i : Input) (fault : ℕ)
    → at < n → turn_at mark item found i ≡ Err fault → many_at mark item (n - at) found i ≡ Err fault
many-bad {S} mark item n at found i fault below e =
    many_at-turn mark item n at found i below
    ∙ ap (λ (r : Outcome (Bool × S) ℕ). and_then r (after_turn mark item (n - (at + 1)))) e

pub many-none : {S : Type 0} (mark : Reader Bool) (item : S → Reader S) (n at : ℕ) (found : S) (i : Input) → n ≤ at
    → many_at mark item (n - at) found i ≡ Err i.at
unfolding many_at
many-none mark item n at found i past = let none : n - at ≡ 0 = omega arith in
    ap (λ k. many_at mark item k found i) none

pub ruleset turns = (many-more, many-ended, many-bad, many-none)

-- one item, and then the others
pub repeat-turn : {A : Type 0} (item : Reader A) (n at : ℕ) (found : List A) (i : Input) → at < n
    → repeat_at item (n - at) found i ≡ and_then (item i) (λ x. repeat_at item (n - (at + 1)) (found ++ x ∷ []))
unfolding repeat_at
repeat-turn item n at found i below = let e : n - at ≡ suc (n - (at + 1)) = omega arith in
    ap (λ k. repeat_at item k found i) e

-- no item is left
pub repeat-done : {A : Type 0} (item : Reader A) (n at : ℕ) (found : List A) (i : Input) → n ≤ at
    → repeat_at item (n - at) found i ≡ Ok (found, i)
unfolding repeat_at
repeat-done item n at found i done = let e : n - at ≡ 0 = omega arith in ap (λ k. repeat_at item k found i) e

pub ruleset repeats = (repeat-turn, repeat-done)

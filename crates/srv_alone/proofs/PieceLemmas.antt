-- Pieces that are appended one after the other.
use Rattle.std.proofs.Common.{◌≡◌, ℕ, suc, ◌+◌, ◌<◌, ◌≤◌, List, ◌++◌, length, get_or, take, drop, drop-cons, length-append, take-append-drop, arith, Option, Some, None, Result, Ok, Err, refl, sym, ap, ◌∙◌, append_assoc}
use Rattle.std.specs.List.{flat_map}
use Rattle.std.proofs.Math.Seq.{take-append-add}
use Rattle.std.proofs.lemmas.List.{take-append-le}
use Rattle.std.proofs.lemmas.List.Concat.{flat_map-append}
use Rattle.dev_traits.specs.Sink.{after_append}
use Rattle.srv_alone.specs.Report.{Appends}

-- first these bytes, and then those
pub after_append-append : (xs ys : List ℕ) (told : Option (List ℕ))
    → after_append ys (after_append xs told) ≡ after_append (xs ++ ys) told
after_append-append xs ys None = refl
after_append-append xs ys (Some all) = ap (λ (l : List ℕ). Some l) (append_assoc all xs ys)

-- a front of one piece, after the pieces before it, is a front of all
flat_map-cut : {X : Type 0} (f : X → List ℕ) (xs : List X) (i n : ℕ) (d : X) → i < length xs
    → n ≤ length (f (get_or xs i d)) → (k : ℕ) × (k ≤ length (flat_map f xs))
    × (take k (flat_map f xs) ≡ flat_map f (take i xs) ++ take n (f (get_or xs i d)))
flat_map-cut {X} f xs i n d below within =
    let piece = f (get_or xs i d) in
    let front = flat_map f (take i xs) in
    let back = flat_map f (drop (suc i) xs) in
    let whole : flat_map f xs ≡ front ++ (piece ++ back) =
    ap (flat_map f) (sym (take-append-drop i xs)) ∙ flat_map-append f (take i xs) (drop i xs)
    ∙ ap (λ (ys : List X). front ++ flat_map f ys) (drop-cons xs i d below) in
    let long : length (flat_map f xs) ≡ length front + (length piece + length back) =
    ap length whole ∙ length-append front (piece ++ back)
    ∙ ap (λ (m : ℕ). length front + m) (length-append piece back) in (
      length front + n,
      omega arith,
      rw (
        whole,
        take-append-add front (piece
            ++ back) n,
        take-append-le n piece back within,
      ) refl,
    )

-- the appended bytes where a piece was cut
pub appended-cut : {X : Type 0} (f : X → List ℕ) (xs : List X) (i : ℕ) (d : X) (before now after : Option (List ℕ))
    → i < length xs → now ≡ after_append (flat_map f (take i xs)) before → (n : ℕ) × (n ≤ length (f (get_or xs i d)))
    × (after ≡ after_append (take n (f (get_or xs i d))) now) → (k : ℕ) × (k ≤ length (flat_map f xs))
    × (after ≡ after_append (take k (flat_map f xs)) before)
appended-cut f xs i d before now after below put cut =
    let front = flat_map f (take i xs) in
    let piece = take cut.0 (f (get_or xs i d)) in
    let k = flat_map-cut f xs i cut.0 d below cut.1 in (
      k.0,
      k.1,
      cut.2 ∙ ap (after_append piece) put ∙ after_append-append front piece before
          ∙ ap (λ (l : List ℕ). after_append l before) (sym k.2),
    )

-- a text was appended, and then another, whole or cut
pub Appends-then : {X E : Type 0} (xs ys : List ℕ) (before now after : Option (List ℕ)) (result : Result X E)
    → now ≡ after_append xs before → Appends ys now after result → Appends (xs ++ ys) before after result
Appends-then xs ys before now after (Ok x) put put' =
    put' ∙ ap (after_append ys) put ∙ after_append-append xs ys before
Appends-then xs ys before now after (Err e) put cut = (
  length xs + cut.0,
  omega (arith, length-append xs ys, cut.1),
  cut.2 ∙ ap (after_append (take cut.0 ys)) put ∙ after_append-append xs (take cut.0 ys) before
      ∙ ap (λ (l : List ℕ). after_append l before) (sym (take-append-add xs ys cut.0)),
)

-- the first of two texts was cut
pub Appends-cut : (xs ys : List ℕ) (before after : Option (List ℕ))
    → (n : ℕ) × (n ≤ length xs) × (after ≡ after_append (take n xs) before)
    → (n : ℕ) × (n ≤ length (xs ++ ys)) × (after ≡ after_append (take n (xs ++ ys)) before)
Appends-cut xs ys before after cut = (
  cut.0,
  omega (arith, length-append xs ys, cut.1),
  cut.2 ∙ ap (λ (l : List ℕ). after_append l before) (sym (take-append-le cut.0 xs ys cut.1)),
)

pub ruleset pieces = (after_append-append)

pub ruleset texts = (Appends-then, Appends-cut)

-- Bytes that are taken or sent in two steps.
use Rattle.std.proofs.Common.{◌≡◌, ℕ, ◌+◌, List, ◌++◌, take, drop, Option, Some, None, refl, sym, ap, ◌∙◌, append_assoc, append-nil}
use Rattle.std.proofs.Math.Seq.{take-add}
use Rattle.std.proofs.lemmas.List.{drop-drop}
use Rattle.dev_traits.specs.Link.{Wire, wire_at, after_take, after_put}

-- a link of which nothing was taken
pub after_take_nothing : (t : Option Wire) → t ≡ after_take 0 t
after_take_nothing None = refl
after_take_nothing (Some w) =
    ap (λ (bytes : List ℕ). Some (record { taken = bytes; left = w.left; put = w.put })) (sym (append-nil w.taken))

-- a link over which nothing was sent
pub after_put_nothing : (bytes : List ℕ) (t : Option Wire) → t ≡ after_put (take 0 bytes) t
after_put_nothing bytes None = refl
after_put_nothing bytes (Some w) =
    ap (λ (put : List ℕ). Some (record { taken = w.taken; left = w.left; put = put })) (sym (append-nil w.put))

-- first these bytes, and then those
pub after_put-append : (xs ys : List ℕ) (t : Option Wire) → after_put ys (after_put xs t) ≡ after_put (xs ++ ys) t
after_put-append xs ys None = refl
after_put-append xs ys (Some w) =
    ap (λ (bytes : List ℕ). Some (record { taken = w.taken; left = w.left; put = bytes })) (append_assoc w.put xs ys)

-- the first i bytes, and then n more
pub after_put_more : (i n : ℕ) (bytes : List ℕ) (t : Option Wire)
    → after_put (take (i + n) bytes) t ≡ after_put (take n (drop i bytes)) (after_put (take i bytes) t)
after_put_more i n bytes t =
    ap (λ (l : List ℕ). after_put l t) (take-add i n bytes)
    ∙ sym (after_put-append (take i bytes) (take n (drop i bytes)) t)

-- a link of whose input the first i bytes were taken, after n more
pub after_take_more : (i n : ℕ) (input put : List ℕ)
    → Some (wire_at input (i + n) put) ≡ after_take n (Some (wire_at input i put))
after_take_more i n input put =
    ap (λ (bytes : List ℕ). Some (record { taken = bytes; left = drop (i + n) input; put = put })) (take-add i n input)
    ∙ ap (λ (bytes : List ℕ). Some (record { taken = taken; left = bytes; put = put })) (sym (drop-drop n i input))
  where
    taken : List ℕ
    taken = take i input ++ take n (drop i input)

-- Runs of bytes that pass.
use Rattle.std.proofs.Common.{◌≡◌, ℕ, suc, ◌+◌, ◌<◌, Bool, true, false, cond, List, [], ◌∷◌, ◌++◌, length, take, refl, ap, arith}
use Rattle.std.proofs.lemmas.Bool.{and_parts}
use Rattle.std.specs.List.{list_all, prefix_len}

-- a word is as long as the run that it begins
pub word_len : (test : ℕ → Bool) (word : List ℕ) (byte : ℕ) (rest : List ℕ) → list_all test word ≡ true
    → test byte ≡ false → prefix_len test (word ++ byte ∷ rest) ≡ length word
word_len test [] byte rest all stops = rw stops refl
word_len test (x ∷ word) byte rest all stops =
    let parts = and_parts (test x) (list_all test word) all in
    rw (parts.0, word_len test word byte rest parts.1 stops) (omega arith)

-- all bytes of a run pass
pub run_passes : (test : ℕ → Bool) (xs : List ℕ) → list_all test (take (prefix_len test xs) xs) ≡ true
run_passes test [] = refl
run_passes test (x ∷ xs) = by_first (test x) refl (run_passes test xs)
  where
    by_first : (b : Bool) → test x ≡ b → list_all test (take (prefix_len test xs) xs) ≡ true
        → list_all test (take (cond b (1 + prefix_len test xs) 0) (x ∷ xs)) ≡ true
    by_first true e all = let longer : 1 + prefix_len test xs ≡ suc (prefix_len test xs) = omega arith in
        rw longer (rw (e, all) refl)
    by_first false e all = refl

-- a run that ends in the front of a text is the same whatever follows the front
pub run_same : (test : ℕ → Bool) (front others more : List ℕ) → prefix_len test (front ++ others) < length front
    → prefix_len test (front ++ more) ≡ prefix_len test (front ++ others)
run_same test [] others more below = absurd (omega arith)
run_same test (x ∷ front) others more below = by_first (test x) below (run_same test front others more)
  where
    by_first : (b : Bool) → cond b (1 + prefix_len test (front ++ others)) 0 < length (x ∷ front)
        → (prefix_len test (front ++ others) < length front
        → prefix_len test (front ++ more) ≡ prefix_len test (front ++ others))
        → cond b (1 + prefix_len test (front ++ more)) 0 ≡ cond b (1 + prefix_len test (front ++ others)) 0
    by_first true less later = ap (λ (n : ℕ). 1 + n) (later (omega (arith, less)))
    by_first false less later = refl

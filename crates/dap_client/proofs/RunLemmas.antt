-- Reading n numbers of one length each, of which too few bytes are left.
use Rattle.std.proofs.Common.{◌≡◌, ℕ, zero, suc, ◌+◌, ◌*◌, ◌<◌, ◌≤◌, List, [], ◌∷◌, ◌++◌, length, take, drop, Bool, true, false, cond, nat_lt, Ok, Err, ap, ◌∙◌, arith, slice_index, refl}
use Rattle.std.proofs.lemmas.Bool.{ltb-false}
use Rattle.std.proofs.lemmas.List.{length-drop}
use Rattle.std.specs.Int.{w32, w64, from_be_bytes}
use Rattle.fm_base.specs.Input.{Input}
use Rattle.fm_base.specs.Parser.{and_then, ◌>>=◌, pure}
use Rattle.nc_model.specs.UnitsReading.{past}
use Rattle.dap_client.specs.DataReading.{octet_at, word_of_4_at, word_of_8_at}
use Rattle.dap_client.specs.Reading.{Reader, bytes_at, repeat_at}

-- a number of this many bytes
abbrev of_bytes : (List ℕ → ℕ) → List ℕ → Reader ℕ
of_bytes value bytes = pure (value bytes)

abbrev number_of : ℕ → (List ℕ → ℕ) → Reader ℕ
number_of size value = bytes_at size >>= of_bytes value

-- n numbers behind one that was found
abbrev more_of : ℕ → (List ℕ → ℕ) → ℕ → List ℕ → ℕ → Reader (List ℕ)
more_of size value n found next = repeat_at (number_of size value) n (found ++ next ∷ [])

repeat-short : (size n : ℕ) (value : List ℕ → ℕ) (found : List ℕ) (i : Input) → length i.rest < n * size
    → repeat_at (number_of size value) n found i ≡ Err (i.at + length i.rest)
unfolding repeat_at bytes_at
repeat-short size zero value found i few = absurd (omega (arith, few))
repeat-short size (suc n) value found i few =
    by_test (nat_lt (length i.rest) size) refl
    (repeat-short size n value (found ++ value (take size i.rest) ∷ []) (past size i))
  where
    by_test : (b : Bool) → nat_lt (length i.rest) size ≡ b
        → (length (drop size i.rest) < n * size
        → more_of size value n found (value (take size i.rest)) (past size i)
        ≡ Err (i.at + size + length (drop size i.rest)))
        → and_then
        (and_then (cond b (Err (i.at + length i.rest)) (Ok (take size i.rest, past size i))) (of_bytes value))
        (more_of size value n found)
        ≡ Err (i.at + length i.rest)
    by_test true is later = refl
    by_test false is later =
        let enough : size ≤ length i.rest = ltb-false (length i.rest) size is in
        let all : suc n * size ≡ size + n * size = omega arith in
        let left : length (drop size i.rest) < n * size = omega (arith, few, enough, all, length-drop size i.rest) in
        let same : i.at + size + length (drop size i.rest) ≡ i.at + length i.rest =
        omega (arith, enough, length-drop size i.rest) in
        later left ∙ ap (λ (k : ℕ). Err k) same

pub octets-short : (n : ℕ) (i : Input) → length i.rest < n
    → repeat_at octet_at n [] i ≡ Err (i.at + length i.rest)
unfolding octet_at
octets-short n i few =
    let fewer : length i.rest < n * 1 = omega (arith, few) in
    repeat-short 1 n (λ bytes. slice_index bytes 0) [] i fewer

pub words_of_4-short : (n : ℕ) (i : Input) → length i.rest < 4 * n
    → repeat_at word_of_4_at n [] i ≡ Err (i.at + length i.rest)
unfolding word_of_4_at
words_of_4-short n i few =
    let fewer : length i.rest < n * 4 = omega (arith, few) in
    repeat-short 4 n (from_be_bytes w32) [] i fewer

pub words_of_8-short : (n : ℕ) (i : Input) → length i.rest < 8 * n
    → repeat_at word_of_8_at n [] i ≡ Err (i.at + length i.rest)
unfolding word_of_8_at
words_of_8-short n i few =
    let fewer : length i.rest < n * 8 = omega (arith, few) in
    repeat-short 8 n (from_be_bytes w64) [] i fewer

pub ruleset shorts = (octets-short, words_of_4-short, words_of_8-short)

-- Reading bytes from left to right. A fault is the offset of the first byte with which nothing that may stand there
-- goes on, or that of the end.
use Rattle.std.specs.Prelude.{◌≡◌, ℕ, zero, suc, ◌+◌, ◌-◌, ◌*◌, List, [], ◌∷◌, ◌++◌, length, take, slice_get, Bool, true, false, ◌&&◌, ◌==◌, nat_lt, nat_le, if◌then◌else◌, Option, option_and_then, Result, Ok, Err}
use Rattle.std.specs.Char.{is_ascii_digit}
use Rattle.std.specs.List.{prefix_len}
use Rattle.std.specs.Option.{option_map_or}
use Rattle.fm_base.specs.declared.fail.Fail.{Fail}
use Rattle.fm_base.specs.declared.fail.Fail.TheVariants as fails
use Rattle.fm_base.specs.Input.{Input}
use Rattle.fm_base.specs.Parser.{Outcome, Parser, ◌>>=◌, pure}
use Rattle.nc_model.specs.UnitsReading.{byte_at, next_is, past}

-- a parser whose fault is an offset
abbrev pub Reader : Type 0 → Type 0
Reader A = Parser A ℕ

-- what a reader returned, and where it stands then, is the outcome of this parser, unless memory ran out
abbrev pub Reads : {X Y : Type 0} → (X → Y) → Outcome Y ℕ → Result X (Fail ℕ) → Input → Type 0
Reads view outcome (Ok x) new = outcome ≡ Ok (view x, new)
Reads view outcome (Err fails.NoMemory) new = Unit {0}
Reads view outcome (Err (fails.Fault at)) new = outcome ≡ Err at

-- the next byte, as what it stands for
unfoldable pub byte_as : {A : Type 0} → (ℕ → Option A) → Reader A
byte_as meaning = λ i.
    option_map_or (λ a. Ok (a, past 1 i)) (option_and_then meaning (slice_get i.rest 0)) (Err i.at)

-- whether the first or the other of two bytes stands there
unfoldable pub mark_at : ℕ → ℕ → Reader Bool
mark_at first other = λ i. if next_is first i then Ok (true, past 1 i)
    else (if next_is other i then Ok (false, past 1 i) else Err i.at)

-- these bytes
unfoldable pub fixed_at : List ℕ → Reader (Unit {0})
fixed_at [] = pure tt
fixed_at (byte ∷ bytes) = byte_at byte >>= λ done. fixed_at bytes

-- the next n bytes, whatever they are
unfoldable pub bytes_at : ℕ → Reader (List ℕ)
bytes_at n = λ i. if nat_lt (length i.rest) n then Err (i.at + length i.rest) else Ok (take n i.rest, past n i)

-- the longest run of bytes that pass, of which there is one
unfoldable pub run_at : (ℕ → Bool) → Reader (List ℕ)
run_at test = λ i. if prefix_len test i.rest == 0 then Err i.at
    else Ok (take (prefix_len test i.rest) i.rest, past (prefix_len test i.rest) i)

-- a word of bytes that pass, and which of two bytes stands behind it
unfoldable pub word_at : (ℕ → Bool) → ℕ → ℕ → Reader (List ℕ × Bool)
word_at test first other = do
  word ← run_at test
  mark ← mark_at first other
  pure (word, mark)

-- a number with one digit more
abbrev pub with_digit : ℕ → ℕ → ℕ
with_digit value byte = value * 10 + (byte - 48)

-- a digit that goes on from the digits of a number, from 1 to the limit
abbrev pub is_next_digit : ℕ → ℕ → ℕ → Bool
is_next_digit limit value byte =
    is_ascii_digit byte && (nat_lt 0 (with_digit value byte) && nat_le (with_digit value byte) limit)

-- the end of a number of this value: a closing bracket, where the number has a digit
unfoldable pub bracket_at : ℕ → Reader ℕ
bracket_at value = λ i. if next_is 93 i && nat_lt 0 value then Ok (value, past 1 i) else Err i.at

-- the rest of a number whose digits so far give this value, and the bracket behind it
unfoldable pub size_from : ℕ → ℕ → ℕ → List ℕ → Outcome ℕ ℕ
size_from limit value at [] = bracket_at value (record { at = at; rest = [] })
size_from limit value at (byte ∷ rest) =
    if is_next_digit limit value byte then size_from limit (with_digit value byte) (at + 1) rest
    else bracket_at value (record { at = at; rest = byte ∷ rest })

-- a decimal number from 1 to the limit without zeros in front, and a closing bracket
unfoldable pub size_at : ℕ → Reader ℕ
size_at limit = λ i. size_from limit 0 i.at i.rest

-- the mark of one item more and that item after those that were found, or the mark of the end
unfoldable pub turn_at : {S : Type 0} → Reader Bool → (S → Reader S) → S → Reader (Bool × S)
turn_at mark item found =
    mark >>= λ more. if more then (item found >>= λ next. pure (true, next)) else pure (false, found)

-- items after those that were found, each behind the mark of one more, up to the mark of the end; at most n of them
unfoldable pub many_at : {S : Type 0} → Reader Bool → (S → Reader S) → ℕ → S → Reader S
many_at mark item zero found = λ i. Err i.at
many_at mark item (suc n) found =
    mark >>= λ more. if more then (item found >>= λ next. many_at mark item n next) else pure found

-- the same, where each item has a byte at least, so that no more can stand there
abbrev pub items_at : {S : Type 0} → Reader Bool → (S → Reader S) → S → Reader S
items_at mark item found = λ i. many_at mark item (length i.rest) found i

-- n items after those that were found
unfoldable pub repeat_at : {A : Type 0} → Reader A → ℕ → List A → Reader (List A)
repeat_at item zero found = pure found
repeat_at item (suc n) found = item >>= λ next. repeat_at item n (found ++ next ∷ [])

-- an item for each of these, after those that were found
unfoldable pub each_at : {A B : Type 0} → (A → Reader B) → List A → List B → Reader (List B)
each_at item [] found = pure found
each_at item (a ∷ more) found = item a >>= λ next. each_at item more (found ++ next ∷ [])

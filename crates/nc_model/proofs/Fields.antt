-- The numbers, the padding, the names and the kinds of a header are read exactly.
use Rattle.std.proofs.Common.{◌≡◌, ℕ, ◌^◌, ◌<◌, Bool, true, false, cond, not, eqb, leb, Option, Some, None, Ok, List, ◌++◌, length, take, drop, refl, sym, ap, subst, ◌∙◌, length-take-le, take-append-drop, arith}
use Rattle.std.specs.Int.{w32, w64, from_be_bytes, to_be_bytes}
use Rattle.std.proofs.lemmas.Bool.{eqb-true, lt-leb, leb-false, not-false, not_from_true}
use Rattle.std.proofs.lemmas.List.{take_at}
use Rattle.std.proofs.lemmas.Nat.{be_bytes_4, be_bytes_8, from_be_bytes-to_be_bytes_4, from_be_bytes-to_be_bytes_8}
use Rattle.nc_model.specs.declared.fault.HeaderFault.{HeaderFault}
use Rattle.nc_model.specs.declared.fault.HeaderFault.TheVariants.{BadCount, BadName, BadType, RepeatedName}
use Rattle.nc_model.specs.declared.kind.Kind.{Kind}
use Rattle.nc_model.specs.declared.kind.Kind.TheVariants.{Byte, Char, Short, Int, Float, Double}
use Rattle.nc_model.specs.Format.{padded_len, is_name_text, has_name}
use Rattle.fm_base.specs.Input.{Input}
use Rattle.nc_model.specs.Kind.{code_of}
use Rattle.nc_model.specs.Reading.{field, word, long_word, count, padded, name_at, kind_of, kind_at}
use Rattle.nc_model.specs.Spelling.{SpellsWord, SpellsCount, SpellsPadded, SpellsKind, SpellsName}
use Rattle.fm_base.proofs.Exact.{Then, Such, Exact-located, ok_pair}
use Rattle.nc_model.proofs.Steps.{Tests, Through, IsField, Exact-field, Tests-pure, ExactBytes, ExactBytes-then, ExactBytes-as, ExactBytes-test, ExactBytes-unless, ExactBytes-unless_both}
use Rattle.fm_base.specs.Parser.{◌>>=◌, located, unless, known}

-- a value that is read from a field of `len` bytes
abbrev Decoded : ℕ → (List ℕ → ℕ) → List ℕ → ℕ → Type 0
Decoded len decode = Through (IsField len) (λ bytes n. decode bytes ≡ n)

pub Exact-word : ExactBytes SpellsWord word
unfolding word
Exact-word = ExactBytes-as (Decoded 4 (from_be_bytes w32)) SpellsWord word
    (λ text n fits s.
    let four : length text ≡ 4 = ap length s.spelled.text_is ∙ s.spelled.size in
    let value : from_be_bytes w32 text ≡ n = ap (from_be_bytes w32) s.spelled.text_is ∙ s.related in
    let below : from_be_bytes w32 text < 2 ^ 32 = omega (arith, fits 0, fits 1, fits 2, fits 3) in
    record {
      small = subst (λ (k : ℕ). k < 2 ^ 32) value below;
      text_is = sym (be_bytes_4 text _ four fits refl)
          ∙ ap (to_be_bytes w32) value;
    })
    (λ text n s. record {
      x = to_be_bytes w32 n;
      spelled = record { size = refl; text_is = s.text_is };
      related =
          from_be_bytes-to_be_bytes_4 n s.small;
    })
    (ExactBytes-test _ (λ bytes n. from_be_bytes w32 bytes ≡ n) (field 4) _ (Exact-field 4)
    (Tests-pure (from_be_bytes w32)))

-- a number of eight bytes
pub record SpellsLong (text : List ℕ) (n : ℕ) : Type 0 where
  pub small : n < 2 ^ 64
  pub text_is : text ≡ to_be_bytes w64 n

pub Exact-long_word : ExactBytes SpellsLong long_word
unfolding long_word
Exact-long_word = ExactBytes-as (Decoded 8 (from_be_bytes w64)) SpellsLong long_word
    (λ text n fits s.
    let eight : length text ≡ 8 = ap length s.spelled.text_is ∙ s.spelled.size in
    let value : from_be_bytes w64 text ≡ n = ap (from_be_bytes w64) s.spelled.text_is ∙ s.related in
    let below : from_be_bytes w64 text < 2 ^ 64 =
    omega (arith, fits 0, fits 1, fits 2, fits 3, fits 4, fits 5, fits 6, fits 7) in
    record {
      small = subst (λ (k : ℕ). k < 2 ^ 64) value below;
      text_is = sym (be_bytes_8 text _ eight fits refl)
          ∙ ap (to_be_bytes w64) value;
    })
    (λ text n s. record {
      x = to_be_bytes w64 n;
      spelled = record { size = refl; text_is = s.text_is };
      related =
          from_be_bytes-to_be_bytes_8 n s.small;
    })
    (ExactBytes-test _ (λ bytes n. from_be_bytes w64 bytes ≡ n) (field 8) _ (Exact-field 8)
    (Tests-pure (from_be_bytes w64)))

-- a word that is tested, with a fault at its offset
pub Exact-tested : (bad : ℕ → Bool) (fault : ℕ → HeaderFault)
    → ExactBytes (Such SpellsWord (λ n. bad n ≡ false)) (located (λ at. word >>= λ n. unless (bad n) (fault at) n))
Exact-tested bad fault = Exact-located (λ at. ExactBytes-unless SpellsWord bad (fault at) word Exact-word)

pub SpellsCount-from_word : (text : List ℕ) (n : ℕ) → SpellsWord text n → leb (2 ^ 31) n ≡ false → SpellsCount text n
SpellsCount-from_word text n s below = record { small = leb-false (2 ^ 31) n below; text_is = s.text_is }

pub SpellsWord-from_count : (text : List ℕ) (n : ℕ) → SpellsCount text n → SpellsWord text n
SpellsWord-from_count text n s = record { small = let h = s.small in omega arith; text_is = s.text_is }

pub Exact-count : ExactBytes SpellsCount count
unfolding count
Exact-count = ExactBytes-as (Such SpellsWord (λ n. leb (2 ^ 31) n ≡ false)) SpellsCount count
    (λ text n fits s. SpellsCount-from_word text n s.spelled s.holds)
    (λ text n s. record { spelled = SpellsWord-from_count text n s; holds = lt-leb (2 ^ 31) n s.small })
    (Exact-tested (λ n. leb (2 ^ 31) n) BadCount)

pub Exact-padded : (len : ℕ) → ExactBytes (Such SpellsPadded (λ bytes. length bytes ≡ len)) (padded len)
unfolding padded
Exact-padded len = ExactBytes-as (Through (IsField (padded_len len)) (λ text bytes. take len text ≡ bytes))
    (Such SpellsPadded (λ bytes. length bytes ≡ len)) (padded len)
    (λ text bytes fits s.
    let whole : length text ≡ padded_len len = ap length s.spelled.text_is ∙ s.spelled.size in
    let front : take len text ≡ bytes = ap (take len) s.spelled.text_is ∙ s.related in
    let same : length bytes ≡ len = ap length (sym front) ∙ length-take-le len text (omega (arith, whole)) in
    record {
      spelled = record {
        padding = drop len text;
        text_is = sym (take-append-drop len text) ∙ ap (λ (l : List ℕ). l ++ drop len text) front;
        length_is = whole ∙ ap padded_len (sym same);
      };
      holds = same;
    })
    (λ text bytes s. record {
      x = text;
      spelled = record { size = s.spelled.length_is ∙ ap padded_len s.holds; text_is = refl };
      related = ap (take len) s.spelled.text_is ∙ take_at bytes s.spelled.padding len s.holds;
    })
    (ExactBytes-test _ (λ text bytes. take len text ≡ bytes) (field (padded_len len)) _ (Exact-field (padded_len len))
    (Tests-pure (take len)))

abbrev is_no_name : List ℕ → Bool
is_no_name name = not (is_name_text name)

-- a name as it is read: a length, and as many bytes that pass the tests
abbrev NameAsRead : List (List ℕ) → List ℕ → List ℕ → Type 0
NameAsRead found = Then SpellsCount
    (λ len. Such (Such SpellsPadded (λ name. length name ≡ len))
    (λ name. (is_no_name name ≡ false) × (has_name found name ≡ false)))

name_spelled : (found : List (List ℕ)) (text name : List ℕ) → NameAsRead found text name
    → Such SpellsName (λ name. has_name found name ≡ false) text name
name_spelled found text name s = record {
  spelled = record {
    count_text = s.front;
    name_text = s.back;
    count = subst (SpellsCount s.front) (sym s.second.spelled.holds) s.first;
    named = not-false (is_name_text name) s.second.holds.0;
    bytes = s.second.spelled.spelled;
    text_is = s.text_is;
  };
  holds = s.second.holds.1;
}

name_read : (found : List (List ℕ)) (text name : List ℕ)
    → Such SpellsName (λ name. has_name found name ≡ false) text name
    → NameAsRead found text name
name_read found text name s = record {
  a = length name;
  front = s.spelled.count_text;
  back = s.spelled.name_text;
  first = s.spelled.count;
  second = record {
    spelled = record { spelled = s.spelled.bytes; holds = refl };
    holds =
        (not_from_true (is_name_text name) s.spelled.named, s.holds);
  };
  text_is = s.spelled.text_is;
}

pub Exact-name_at : (found : List (List ℕ))
    → ExactBytes (Such SpellsName (λ name. has_name found name ≡ false)) (name_at found)
unfolding name_at
Exact-name_at found = ExactBytes-as (NameAsRead found) (Such SpellsName (λ name. has_name found name ≡ false))
    (name_at found)
    (λ text name fits s. name_spelled found text name s)
    (name_read found)
    (Exact-located (λ at. ExactBytes-then SpellsCount _ count _ Exact-count
    (λ len front first. ExactBytes-unless_both _ is_no_name (has_name found) (BadName at) (RepeatedName at) (padded len)
    (Exact-padded len))))

-- one of the tests by which a number is looked up among the kinds
kind_turn : (code : ℕ) (this kind : Kind) (others : Option Kind)
    → cond (eqb code (code_of this)) (Some this) others ≡ Some kind
    → (others ≡ Some kind → code ≡ code_of kind) → code ≡ code_of kind
kind_turn code this kind others e more = go (eqb code (code_of this)) refl e
  where
    go : (b : Bool) → eqb code (code_of this) ≡ b → cond b (Some this) others ≡ Some kind → code ≡ code_of kind
    go true is e = let same : this ≡ kind = cc in eqb-true code (code_of this) is ∙ ap code_of same
    go false is e = more e

kind_of-code : (code : ℕ) (kind : Kind) → kind_of code ≡ Some kind → code ≡ code_of kind
kind_of-code code kind e =
    kind_turn code Byte kind _ e (λ e. kind_turn code Char kind _ e (λ e. kind_turn code Short kind _ e (λ e.
    kind_turn code Int kind _ e (λ e. kind_turn code Float kind _ e
    (λ e. kind_turn code Double kind _ e (λ e. absurd cc))))))

-- the kind of the number of a kind
pub kind_of-code_of : (kind : Kind) → kind_of (code_of kind) ≡ Some kind
kind_of-code_of Byte = refl
kind_of-code_of Char = refl
kind_of-code_of Short = refl
kind_of-code_of Int = refl
kind_of-code_of Float = refl
kind_of-code_of Double = refl

code_of-small : (kind : Kind) → code_of kind < 2 ^ 32
code_of-small Byte = omega arith
code_of-small Char = omega arith
code_of-small Short = omega arith
code_of-small Int = omega arith
code_of-small Float = omega arith
code_of-small Double = omega arith

Tests-known_kind : (at : ℕ) → Tests (λ code kind. kind_of code ≡ Some kind) (λ code. known (BadType at) (kind_of code))
Tests-known_kind at = record {
  passes = λ code i kind j e. go (kind_of code) i kind j e;
  again = λ code i kind e. ap (λ (o : Option Kind). known (BadType at) o i) e;
}
  where
    go : (o : Option Kind) (i : Input) (kind : Kind) (j : Input) → known (BadType at) o i ≡ Ok (kind, j)
        → (o ≡ Some kind) × (i ≡ j)
    go None i kind j e = absurd cc
    go (Some k) i kind j e = let p = ok_pair k kind i j e in (ap Some p.0, p.1)

pub Exact-kind_at : ExactBytes SpellsKind kind_at
unfolding kind_at
Exact-kind_at = ExactBytes-as (Through SpellsWord (λ code kind. kind_of code ≡ Some kind)) SpellsKind kind_at
    (λ text kind fits s. s.spelled.text_is ∙ ap (to_be_bytes w32) (kind_of-code s.x kind s.related))
    (λ text kind s. record {
      x = code_of kind;
      spelled = record { small = code_of-small kind; text_is = s };
      related =
          kind_of-code_of kind;
    })
    (Exact-located (λ at. ExactBytes-test SpellsWord _ word (λ code. known (BadType at) (kind_of code)) Exact-word
    (Tests-known_kind at)))

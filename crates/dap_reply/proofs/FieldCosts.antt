-- How many bytes the fields of a header take at least.
use Rattle.std.proofs.Common.{◌≡◌, ◌≤◌, ℕ, ◌+◌, ◌^◌, Bool, true, false, cond, List, length, drop, take, Option, Some, None, Ok, Err, refl, sym, ap, arith}
use Rattle.std.specs.Prelude.{nat_le, nat_lt, not, ◌==◌, ◌||◌, ◌&&◌, codes, slice_index, if◌then◌else◌}
use Rattle.std.specs.Str.{bytes_eq}
use Rattle.std.proofs.lemmas.Bool.{ltb-false}
use Rattle.std.proofs.lemmas.List.{length-drop}
use Rattle.fm_base.specs.Input.{Input}
use Rattle.fm_base.specs.Parser.{Outcome, ◌>>=◌, known, pure, unless}
use Rattle.nc_model.specs.declared.fault.HeaderFault.{HeaderFault}
use Rattle.nc_model.specs.declared.fault.HeaderFault.TheVariants.{BadCount, BadDimId, BadMagic, BadName, BadType, BadVersion, RecordNotFirst, RepeatedName, Streaming, Truncated}
use Rattle.nc_model.specs.declared.header.Dim.{Dim}
use Rattle.nc_model.specs.Format.{padded_len, STREAMING as STREAMING_COUNT, MAX_RANK, has_name, is_name_text}
use Rattle.nc_model.specs.Reading.{HeaderParser, begin_at, count, dim_id_at, field, kind_at, kind_of, long_word, name_at, names_record_dim, numrecs_at, padded, rank_at, version_at, word}
use Rattle.nc_model.proofs.ReadFacts.{then_ok, Read}

-- reading takes n bytes at least
abbrev pub Takes : {A : Type 0} → ℕ → HeaderParser A → Type 0
Takes {A} n p = (i : Input) (x : A × Input) → p i ≡ Ok x → length x.1.rest + n ≤ length i.rest

pub pure_rest : {A : Type 0} (value : A) (i : Input) (x : A × Input) → ◌≡◌ {A = Read A} (pure value i) (Ok x)
    → length x.1.rest ≡ length i.rest
pure_rest value i x e = let same : i ≡ x.1 = cc in ap (λ (k : Input). length k.rest) (sym same)

pub pure-takes : {A : Type 0} (value : A) → Takes 0 (pure value)
pure-takes value i x e = omega (arith, pure_rest value i x e)

pub unless-takes : {A : Type 0} (bad : Bool) (fault : HeaderFault) (value : A) → Takes 0 (unless bad fault value)
unless-takes true fault value i x e = absurd cc
unless-takes false fault value i x e = pure-takes value i x e

pub known-takes : {A : Type 0} (fault : HeaderFault) (value : Option A) → Takes 0 (known fault value)
known-takes fault None i x e = absurd cc
known-takes fault (Some value) i x e = pure-takes value i x e

pub then-takes : {A B : Type 0} (p : HeaderParser A) (q : A → HeaderParser B) (m n : ℕ) → Takes m p
    → ((a : A) → Takes n (q a)) → Takes (m + n) (p >>= q)
then-takes p q m n first second i y e =
    let x = then_ok (p i) q y e in
    omega (arith, first i x.0 x.1, second x.0.0 x.0.1 y x.2)

pub field-takes : (n : ℕ) → Takes n (field n)
field-takes n i x e = by_test (nat_lt (length i.rest) n) refl e
  where
    taken : Outcome (List ℕ) HeaderFault
    taken = Ok (take n i.rest, record { at = i.at + n; rest = drop n i.rest })

    by_test : (b : Bool) → nat_lt (length i.rest) n ≡ b → cond b (Err (Truncated i.at)) taken ≡ Ok x
        → length x.1.rest + n ≤ length i.rest
    by_test true is e = absurd cc
    by_test false is e =
        let left = pure_rest (take n i.rest) (record { at = i.at + n; rest = drop n i.rest }) x e in
        omega (arith, left, length-drop n i.rest, ltb-false (length i.rest) n is)

pub word-takes : Takes 4 word
unfolding word
word-takes = then-takes (field 4) _ 4 0 (field-takes 4) (λ bytes. pure-takes _)

pub long_word-takes : Takes 8 long_word
unfolding long_word
long_word-takes = then-takes (field 8) _ 8 0 (field-takes 8) (λ bytes. pure-takes _)

pub count-takes : Takes 4 count
unfolding count
count-takes i = then-takes word _ 4 0 word-takes (λ n. unless-takes (nat_le (2 ^ 31) n) (BadCount i.at) n) i

pub padded-takes : (len : ℕ) → Takes 0 (padded len)
unfolding padded
padded-takes len i x e =
    let all = then-takes (field (padded_len len)) _ (padded_len len) 0 (field-takes (padded_len len))
    (λ bytes. pure-takes (take len bytes)) i x e in
    omega (arith, all)

pub name-takes : (found : List (List ℕ)) → Takes 4 (name_at found)
unfolding name_at
name-takes found i =
    then-takes count _ 4 0 count-takes (λ len. then-takes (padded len) _ 0 0 (padded-takes len)
    (λ name. then-takes (unless (not (is_name_text name)) (BadName i.at) name) _ 0 0 (unless-takes _ _ name)
    (λ same. unless-takes (has_name found same) (RepeatedName i.at) same))) i

pub kind-takes : Takes 4 kind_at
unfolding kind_at
kind-takes i = then-takes word _ 4 0 word-takes (λ code. known-takes (BadType i.at) (kind_of code)) i

pub rank-takes : Takes 4 rank_at
unfolding rank_at
rank-takes i = then-takes word _ 4 0 word-takes (λ rank. unless-takes (nat_lt MAX_RANK rank) (BadCount i.at) rank) i

pub dim_id-takes : (dims : List Dim) (found : List ℕ) → Takes 4 (dim_id_at dims found)
unfolding dim_id_at
dim_id-takes dims found i =
    then-takes word _ 4 0 word-takes (λ id. then-takes (unless (nat_le (length dims) id) (BadDimId i.at) id) _ 0 0
    (unless-takes _ _ id)
    (λ same. unless-takes (not (length found == 0) && names_record_dim dims same) (RecordNotFirst i.at) same)) i

pub begin-takes : (version : ℕ) → Takes 0 (begin_at version)
unfolding begin_at
begin-takes version i x = by_version (version == 1)
  where
    by_version : (b : Bool) → (if b then word else long_word) i ≡ Ok x → length x.1.rest + 0 ≤ length i.rest
    by_version true e = let four = word-takes i x e in omega (arith, four)
    by_version false e = let eight = long_word-takes i x e in omega (arith, eight)

pub version-takes : Takes 0 version_at
unfolding version_at
version-takes i x e =
    by_magic (nat_lt (length i.rest) 4 || not (bytes_eq (take 3 i.rest) (codes "CDF"))) e
  where
    read : Outcome ℕ HeaderFault
    read = Ok (slice_index i.rest 3, record { at = i.at + 4; rest = drop 4 i.rest })

    by_version : (b : Bool) → cond b read (Err (BadVersion (slice_index i.rest 3))) ≡ Ok x
        → length x.1.rest + 0 ≤ length i.rest
    by_version true is =
        let left = pure_rest (slice_index i.rest 3) (record { at = i.at + 4; rest = drop 4 i.rest }) x is in
        omega (arith, left, length-drop 4 i.rest)
    by_version false is = absurd cc

    by_magic : (b : Bool) → cond b (Err BadMagic) (cond (slice_index i.rest 3 == 1 || slice_index i.rest 3 == 2) read
        (Err (BadVersion (slice_index i.rest 3)))) ≡ Ok x → length x.1.rest + 0 ≤ length i.rest
    by_magic true is = absurd cc
    by_magic false is = by_version (slice_index i.rest 3 == 1 || slice_index i.rest 3 == 2) is

pub numrecs-takes : Takes 4 numrecs_at
unfolding numrecs_at
numrecs-takes i =
    then-takes word _ 4 0 word-takes (λ n. then-takes (unless (n == STREAMING_COUNT) Streaming n) _ 0 0
    (unless-takes _ _ n) (λ same. unless-takes (nat_le (2 ^ 31) same) (BadCount i.at) same)) i

-- The fields of a header depend on their own bytes, and where one fails, nothing of it was read.
use Rattle.std.proofs.Common.{◌≡◌, ℕ, ◌-◌, ◌^◌, Bool, true, false, cond, not, ◌&&◌, ◌||◌, ◌==◌, nat_le, nat_lt, List, ◌++◌, length, replicate, Ok, refl, sym, subst, ◌∙◌, append-nil, length-append, arith}
use Rattle.std.specs.Int.{w32, w64, from_be_bytes, to_be_bytes}
use Rattle.std.proofs.lemmas.List.{length-replicate}
use Rattle.nc_model.specs.declared.fault.HeaderFault.TheVariants.{BadTag, BadCount, BadName, BadType, BadDimId, TwoRecordDims, RecordNotFirst, RepeatedName, Streaming}
use Rattle.nc_model.specs.declared.header.Dim.{Dim}
use Rattle.nc_model.specs.declared.kind.Kind.TheVariants.{Byte}
use Rattle.nc_model.specs.Format.{IsBytes, padded_len, STREAMING as STREAMING_COUNT, MAX_RANK, is_name_text, has_name, has_record_dim}
use Rattle.fm_base.specs.Input.{Input}
use Rattle.fm_base.specs.Parser.{◌>>=◌, pure, unless, known}
use Rattle.nc_model.specs.Reading.{HeaderParser, field, word, long_word, count, padded, kind_of, kind_at, tag_at, list_count, dim_size, rank_at, names_record_dim, dim_id_at, begin_at, numrecs_at}
use Rattle.nc_model.specs.Spelling.{SpellsWord, SpellsCount, SpellsPadded, SpellsKind}
use Rattle.fm_base.proofs.Exact.{Took, Then, Such, Is, onto}
use Rattle.fm_base.proofs.Local.{Local, Local-then}
use Rattle.fm_base.proofs.LocalSteps.{Local-pure}
use Rattle.fm_base.proofs.Parts.{Example, Part, Part-leaf, Part-as, Part-then, Part-pure}
use Rattle.nc_model.proofs.HeaderFaults.{offsets, OneField, OneField-field, OneField-map, IsLeaf, leaf_field, leaf_map, Local-field, Decides, Decides-unless, Decides-known, Decides-then}
use Rattle.nc_model.proofs.HeaderTests.{OneField-tested}
use Rattle.nc_model.proofs.Steps.{ExactBytes, IsOfParts-bytes, Through}

-- a part of a header
abbrev pub HeaderPart : {A : Type 0} → (List ℕ → A → Type 0) → HeaderParser A → Type 0
HeaderPart S p = Part offsets IsBytes S p

-- what a parser reads is spelled so
pub takes_as : {A : Type 0} {S T : List ℕ → A → Type 0} {p : HeaderParser A}
    → ((text : List ℕ) (a : A) → S text a → T text a) → ExactBytes S p
    → (i : Input) (a : A) (j : Input) → IsBytes i.rest → p i ≡ Ok (a, j) → Took T i a j
takes_as to ep i a j fits e = let t = ep.takes i a j fits e in
    record { text = t.text; spelled = to t.text a t.spelled; split = t.split; offset = t.offset }

pub such : {A : Type 0} {S : List ℕ → A → Type 0} {P : A → Type 0} (text : List ℕ) (a : A) → Such S P text a → S text a
such text a s = s.spelled

-- one field
pub field_part : {A : Type 0} {S T : List ℕ → A → Type 0} {p : HeaderParser A} → OneField p → ExactBytes S p
    → ((text : List ℕ) (a : A) → S text a → T text a) → Example T → HeaderPart T p
field_part fp ep to some = Part-leaf fp.local (takes_as to ep) some fp.leaf

-- the value is made of the value of the last part
abbrev pub Made : {A B : Type 0} → (List ℕ → A → Type 0) → (A → B) → List ℕ → B → Type 0
Made S g = Through S (λ x y. g x ≡ y)

pub part_map : {A B : Type 0} {S : List ℕ → A → Type 0} {p : HeaderParser A} (g : A → B) → HeaderPart S p
    → HeaderPart (Made S g) (p >>= λ x. pure (g x))
part_map {S = S} g part =
    Part-as (λ text y s. record {
      x = s.a;
      spelled = subst (λ (l : List ℕ). S l s.a)
          (sym (s.text_is ∙ onto s.front s.second.text_is ∙ append-nil s.front)) s.first;
      related = s.second.value;
    }) (Part-then {T = λ x. Is (g x)} IsOfParts-bytes part (λ x. Part-pure (g x)))

-- one part and then another
pub part_then : {A B : Type 0} {S : List ℕ → A → Type 0} {T : A → List ℕ → B → Type 0} {p : HeaderParser A}
    {q : A → HeaderParser B} → HeaderPart S p → ((a : A) → HeaderPart (T a) (q a)) → HeaderPart (Then S T) (p >>= q)
part_then {T = T} first next = Part-then {T = T} IsOfParts-bytes first next

pub field_word : OneField word
unfolding word
field_word = OneField-map (from_be_bytes w32) (OneField-field 4 (omega arith))

field_long_word : OneField long_word
unfolding long_word
field_long_word = OneField-map (from_be_bytes w64) (OneField-field 8 (omega arith))

pub example_word : Example SpellsWord
example_word = record { text = to_be_bytes w32 0; a = 0; spelled = record { small = omega arith; text_is = refl } }

pub field_count : OneField count
unfolding count
field_count = OneField-tested (λ at n. unless (nat_le (2 ^ 31) n) (BadCount at) n) field_word
    (λ at n. Decides-unless at _ (BadCount at) n refl (λ k. tt))

pub example_count : Example SpellsCount
example_count = record { text = to_be_bytes w32 0; a = 0; spelled = record { small = omega arith; text_is = refl } }

pub Local-padded : (len : ℕ) → Local offsets (padded len)
unfolding padded
Local-padded len = Local-then (Local-field (padded_len len)) (λ bytes. Local-pure _)

pub leaf_padded : (len : ℕ) → IsLeaf (padded len)
unfolding padded
leaf_padded len = leaf_map (field (padded_len len)) _ (leaf_field (padded_len len))

-- any bytes of a length, with padding
pub example_padded : (len : ℕ) (bytes : List ℕ) → length bytes ≡ len
    → (padding : List ℕ) × SpellsPadded (bytes ++ padding) bytes
example_padded len bytes size =
    let padding : List ℕ = replicate (padded_len (length bytes) - length bytes) 0 in (
      padding,
      record {
        padding = padding;
        text_is = refl;
        length_is = omega (
          arith,
          length-append bytes padding,
          length-replicate {A = ℕ} (padded_len (length bytes) - length bytes) 0,
        );
      },
    )

-- values of a length, with padding
pub example_values : (len : ℕ) → Example (Such SpellsPadded (λ values. length values ≡ len))
example_values len =
    let size = length-replicate {A = ℕ} len 0 in
    let some = example_padded len (replicate len 0) size in
    record {
      text = replicate len 0 ++ some.0;
      a = replicate len 0;
      spelled = record { spelled = some.1; holds = size };
    }

pub field_kind : OneField kind_at
unfolding kind_at
field_kind = OneField-tested (λ at code. known (BadType at) (kind_of code)) field_word
    (λ at code. Decides-known at (BadType at) (kind_of code) refl (λ k. tt))

pub example_kind : Example SpellsKind
example_kind = record { text = to_be_bytes w32 1; a = Byte; spelled = refl }

pub field_tag : (tag : ℕ) → OneField (tag_at tag)
unfolding tag_at
field_tag tag = OneField-tested (λ at found. unless (not (found == tag || found == 0)) (BadTag at) found) field_word
    (λ at found. Decides-unless at _ (BadTag at) found refl (λ k. tt))

pub field_list_count : (tag : ℕ) → OneField (list_count tag)
unfolding list_count
field_list_count tag = OneField-tested
    (λ at n. unless (nat_le (2 ^ 31) n || (tag == 0 && not (n == 0))) (BadCount at) n) field_word
    (λ at n. Decides-unless at _ (BadCount at) n refl (λ k. tt))

pub field_size : (found : List Dim) → OneField (dim_size found)
unfolding dim_size
field_size found = OneField-tested
    (λ at size. unless (size == 0 && has_record_dim found) (TwoRecordDims at) size) field_count
    (λ at size. Decides-unless at _ (TwoRecordDims at) size refl (λ k. tt))

pub field_rank : OneField rank_at
unfolding rank_at
field_rank = OneField-tested (λ at rank. unless (nat_lt MAX_RANK rank) (BadCount at) rank) field_word
    (λ at rank. Decides-unless at _ (BadCount at) rank refl (λ k. tt))

pub field_id : (dims : List Dim) (found : List ℕ) → OneField (dim_id_at dims found)
unfolding dim_id_at
field_id dims found = OneField-tested
    (λ at id. unless (nat_le (length dims) id) (BadDimId at) id
    >>= λ id. unless (not (length found == 0) && names_record_dim dims id) (RecordNotFirst at) id) field_word
    (λ at id. Decides-then at _ _ (Decides-unless at (nat_le (length dims) id) (BadDimId at) id refl (λ k. tt))
    (λ id. Decides-unless at _ (RecordNotFirst at) id refl (λ k. tt)))

pub field_numrecs : OneField numrecs_at
unfolding numrecs_at
field_numrecs = OneField-tested
    (λ at n. unless (n == STREAMING_COUNT) Streaming n >>= λ n. unless (nat_le (2 ^ 31) n) (BadCount at) n) field_word
    (λ at n. Decides-then at _ _ (Decides-unless at (n == STREAMING_COUNT) Streaming n tt (λ k. tt))
    (λ n. Decides-unless at _ (BadCount at) n refl (λ k. tt)))

pub field_begin : (version : ℕ) → OneField (begin_at version)
unfolding begin_at
field_begin version = by_version (version == 1)
  where
    by_version : (b : Bool) → OneField (cond b word long_word)
    by_version true = field_word
    by_version false = field_long_word

-- the tests of a name
abbrev pub tested_name : List (List ℕ) → ℕ → List ℕ → HeaderParser (List ℕ)
tested_name found at name = unless (not (is_name_text name)) (BadName at) name
    >>= λ text. unless (has_name found text) (RepeatedName at) text

pub Decides-name : (found : List (List ℕ)) (at : ℕ) (name : List ℕ) → Decides at (tested_name found at name)
Decides-name found at name = Decides-then at _ _
    (Decides-unless at (not (is_name_text name)) (BadName at) name refl (λ k. tt))
    (λ text. Decides-unless at (has_name found text) (RepeatedName at) text refl (λ k. tt))

-- The names and the lists of a header: where one fails, what stands before the field at fault begins another.
use Rattle.std.proofs.Common.{◌≡◌, inl, inr, ℕ, zero, suc, ◌+◌, Bool, true, false, cond, ltb, List, [], ◌∷◌, ◌++◌, length, take, drop, Ok, Err, refl, sym, ap, subst, ◌∙◌, append_assoc, append-nil, arith}
use Rattle.std.specs.List.{list_any}
use Rattle.std.specs.Str.{IsAscii}
use Rattle.std.specs.Int.{w32, to_be_bytes}
use Rattle.std.proofs.Math.Dec.{eqb-suc-zero}
use Rattle.std.proofs.lemmas.Bool.{ltb-true}
use Rattle.std.proofs.lemmas.Str.{IsUtf8-from_ascii, is_utf8-from_IsUtf8}
use Rattle.nc_model.specs.declared.fault.HeaderFault.{HeaderFault}
use Rattle.nc_model.specs.declared.fault.HeaderFault.TheVariants.{Truncated}
use Rattle.nc_model.specs.FaultOffsets.{StandsAt}
use Rattle.nc_model.specs.Format.{IsBytes, padded_len, is_barred, is_name_text}
use Rattle.fm_base.specs.Input.{Input}
use Rattle.fm_base.specs.Parser.{Outcome, and_then, ◌>>=◌, pure}
use Rattle.nc_model.specs.Reading.{HeaderParser, count, padded, name_at, items_from, list_at}
use Rattle.nc_model.specs.Spelling.{SpellsCount, SpellsPadded, SpellsName, SpellsList}
use Rattle.fm_base.proofs.Exact.{input, Took, Then, Such}
use Rattle.fm_base.proofs.Local.{failed, fault_is, Local-then}
use Rattle.fm_base.proofs.LocalSteps.{Local-same}
use Rattle.fm_base.proofs.Parts.{Example, Begun, Part-as, Part-pure, begun_as, begun_here, second_begun}
use Rattle.nc_model.proofs.Fields.{Exact-count, Exact-name_at}
use Rattle.nc_model.proofs.HeaderFaults.{offsets, advances_then}
use Rattle.nc_model.proofs.HeaderFields.{HeaderPart, takes_as, such, field_part, part_then, field_count, Local-padded, leaf_padded, example_padded, field_tag, field_list_count, tested_name, Decides-name}
use Rattle.nc_model.proofs.HeaderTests.{Local-tested}
use Rattle.nc_model.proofs.Lists.{Adds, SpellsTag, SpellsListCount, list_spelled, Exact-tag_at, Exact-list_count}

-- the letter `a`, n times
abbrev letters : ℕ → List ℕ
letters zero = []
letters (suc n) = 97 ∷ letters n

letters_length : (n : ℕ) → length (letters n) ≡ n
letters_length zero = refl
letters_length (suc n) = ap suc (letters_length n)

letters_ascii : (n : ℕ) → IsAscii (letters n)
letters_ascii zero i = omega arith
letters_ascii (suc n) zero = omega arith
letters_ascii (suc n) (suc i) = letters_ascii n i

letters_plain : (n : ℕ) → list_any is_barred (letters n) ≡ false
letters_plain zero = refl
letters_plain (suc n) = letters_plain n

letters_named : (n : ℕ) → is_name_text (letters (suc n)) ≡ true
unfolding is_name_text
letters_named n = rw (
  is_utf8-from_IsUtf8 (letters (suc n))
      (IsUtf8-from_ascii (letters (suc n)) (letters_ascii (suc n))),
  letters_plain (suc n),
  eqb-suc-zero
      (length (letters n)),
) refl

-- a name of a length, with padding
abbrev NameText : ℕ → List ℕ → List ℕ → Type 0
NameText len = Such (Such SpellsPadded (λ name. length name ≡ len)) (λ name. is_name_text name ≡ true)

example_name_text : (n : ℕ) → Example (NameText (suc n))
example_name_text n =
    let some = example_padded (suc n) (letters (suc n)) (letters_length (suc n)) in
    record {
      text = letters (suc n) ++ some.0;
      a = letters (suc n);
      spelled = record {
        spelled = record { spelled = some.1; holds = letters_length (suc n) };
        holds =
            letters_named n;
      };
    }

name_text : (text name : List ℕ) → Then SpellsCount NameText text name → SpellsName text name
name_text text name s = record {
  count_text = s.front;
  name_text = s.back;
  count = subst (SpellsCount s.front) (sym s.second.spelled.holds) s.first;
  named = s.second.holds;
  bytes = s.second.spelled.spelled;
  text_is = s.text_is;
}

pub example_name : Example SpellsName
example_name =
    let some = example_name_text 0 in
    record {
      text = to_be_bytes w32 1 ++ some.text;
      a = some.a;
      spelled = name_text _ _
          (record {
            a = 1;
            front = to_be_bytes w32 1;
            back = some.text;
            first =
                record { small = omega arith; text_is = refl };
            second = some.spelled;
            text_is = refl;
          });
    }

empty_fits : (i : Input) (fault : HeaderFault) → padded 0 i ≡ Err fault → ⊥
unfolding padded
empty_fits i fault e = by_length (ltb (length i.rest) (padded_len 0)) refl e
  where
    by_length : (b : Bool) → ltb (length i.rest) (padded_len 0) ≡ b
        → and_then (cond b (failed {A = List ℕ} (Truncated i.at))
        (Ok (take (padded_len 0) i.rest, record { at = i.at + padded_len 0; rest = drop (padded_len 0) i.rest })))
        (λ bytes. pure (take 0 bytes)) ≡ Err fault → ⊥
    by_length true is f = let short = ltb-true _ _ is in omega arith
    by_length false is f = absurd cc

name_text_begun : (len at : ℕ) (rest : List ℕ) (fault : HeaderFault) → padded len (input at rest) ≡ Err fault
    → Begun offsets (NameText len) at rest fault
name_text_begun zero at rest fault e = absurd (empty_fits (input at rest) fault e)
name_text_begun (suc n) at rest fault e =
    begun_here at rest fault (example_name_text n) (leaf_padded (suc n) at rest fault e)

name_begun : (found : List (List ℕ)) (at : ℕ) (rest : List ℕ) (fault : HeaderFault) → IsBytes rest
    → name_at found (input at rest) ≡ Err fault → Begun offsets SpellsName at rest fault
unfolding name_at
name_begun found at rest fault fits e = by_count (count (input at rest)) refl e
  where
    by_padded : (len : ℕ) (j : Input) → Took SpellsCount (input at rest) len j → (r : Outcome (List ℕ) HeaderFault)
        → padded len j ≡ r
        → and_then r (tested_name found at) ≡ Err fault → Begun offsets SpellsName at rest fault
    by_padded len j t (Err first) is f =
        let same : first ≡ fault = fault_is {A = List ℕ} first fault f in
        begun_as (λ name. name) name_text (second_begun SpellsCount NameText at rest len j fault t
        (name_text_begun len j.at j.rest fault (is ∙ ap (λ (y : HeaderFault). failed {A = List ℕ} y) same)))
    by_padded len j t (Ok x) is f = elim (Decides-name found at x.0) [
      | inl good ↦ let no = sym (good.1 x.1) ∙ f in absurd cc
      | inr bad ↦ begun_here at rest fault example_name
          (subst (λ (y : HeaderFault). StandsAt y at) (fault_is {A = List ℕ} bad.0 fault (sym (bad.3 x.1) ∙ f)) bad.1)
    ]

    by_count : (r : Outcome ℕ HeaderFault) → count (input at rest) ≡ r
        → and_then r (λ len. padded len >>= tested_name found at) ≡ Err fault → Begun offsets SpellsName at rest fault
    by_count (Err first) is f = begun_here at rest fault example_name
        (subst (λ (y : HeaderFault). StandsAt y at) (fault_is {A = List ℕ} first fault f)
        (field_count.leaf at rest first is))
    by_count (Ok x) is f = by_padded x.0 x.1 (Exact-count.takes (input at rest) x.0 x.1 fits is) (padded x.0 x.1) refl f

pub part_name : (found : List (List ℕ)) → HeaderPart SpellsName (name_at found)
unfolding name_at
part_name found = record {
  local = Local-same (λ at rest. joined (count (input at rest)) (tested_name found at))
      (Local-tested {p = count >>= λ len. padded len} (tested_name found)
      (Local-then field_count.local Local-padded)
      (advances_then count padded field_count.moves Local-padded) (Decides-name found));
  takes = takes_as such (Exact-name_at found);
  fails = name_begun found;
  some = example_name;
}
  where
    joined : (r : Outcome ℕ HeaderFault) (f : List ℕ → HeaderParser (List ℕ))
        → and_then (and_then r (λ len. padded len)) f ≡ and_then r (λ len. padded len >>= f)
    joined (Ok x) f = refl
    joined (Err fault) f = refl

-- anything holds of an item after others
abbrev pub Free : {A : Type 0} → List A → A → Type 0
Free found item = Unit {0}

-- one item and then others
adds_one : {A : Type 0} {S : List ℕ → A → Type 0} (found : List A) (n : ℕ) (text : List ℕ) (all : List A)
    → Then S (λ x. Adds S Free (found ++ x ∷ []) n) text all
    → Adds S Free found (suc n) text all
adds_one found n text all s = record {
  more = s.a ∷ s.second.more;
  all_is = s.second.all_is ∙ append_assoc found (s.a ∷ []) s.second.more;
  count = ap suc s.second.count;
  spelled = (s.front, s.back, s.first, s.second.spelled, s.text_is);
  each = (tt, s.second.each);
}

pub part_items : {A : Type 0} {S : List ℕ → A → Type 0} (item : List A → HeaderParser A)
    → ((found : List A) → HeaderPart S (item found)) → (n : ℕ) (found : List A)
    → HeaderPart (Adds S Free found n) (items_from item n found)
unfolding items_from
part_items item part zero found =
    Part-as (λ text all s. record {
      more = [];
      all_is = sym s.value ∙ sym (append-nil found);
      count = refl;
      spelled = s.text_is;
      each = tt;
    }) (Part-pure found)
part_items {S = S} item part (suc n) found =
    Part-as (adds_one found n)
    (part_then {T = λ x. Adds S Free (found ++ x ∷ []) n} (part found)
    (λ x. part_items item part n (found ++ x ∷ [])))

a_tag : (tag : ℕ) → Example (SpellsTag tag)
a_tag tag = record {
  text = to_be_bytes w32 0;
  a = 0;
  spelled = record { own = inr refl; spelled = record { small = omega arith; text_is = refl } };
}

no_items : (tag : ℕ) → Example (SpellsListCount tag)
no_items tag = record {
  text = to_be_bytes w32 0;
  a = 0;
  spelled = record { none = λ absent. refl; counted = record { small = omega arith; text_is = refl } };
}

pub part_list : {A : Type 0} {S : List ℕ → A → Type 0} (tag : ℕ) (item : List A → HeaderParser A)
    → ((found : List A) → HeaderPart S (item found)) → HeaderPart (SpellsList tag S) (list_at tag item)
unfolding list_at
part_list {S = S} tag item part =
    Part-as (λ text items s. list_spelled tag S Free text items s)
    (part_then {T = λ found. Then (SpellsListCount found) (λ n. Adds S Free [] n)}
    (field_part (field_tag tag) (Exact-tag_at tag) (λ text a s. s) (a_tag tag))
    (λ found. part_then {T = λ n. Adds S Free [] n}
    (field_part (field_list_count found) (Exact-list_count found) (λ text a s. s) (no_items found))
    (λ n. part_items item part n [])))

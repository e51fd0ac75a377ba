-- In a file of at most 512 MiB one record takes fewer than 2^64 bytes: its header has fewer than 2^24 variables.
use Rattle.std.proofs.Common.{◌≡◌, ℕ, zero, suc, ◌+◌, ◌*◌, ◌<◌, ◌≤◌, ◌^◌, true, not, List, [], ◌∷◌, ◌++◌, length, sum_by, All, Option, Some, None, inl, inr, refl, ap, ◌∙◌, codes, arith}
use Rattle.std.specs.Prelude.{◌&&◌, ◌==◌}
use Rattle.std.specs.Int.{w32, to_be_bytes}
use Rattle.std.specs.List.{list_any}
use Rattle.std.specs.Option.{option_or}
use Rattle.std.specs.Str.{is_utf8}
use Rattle.std.proofs.lemmas.List.{length-append, length-replicate}
use Rattle.std.proofs.lemmas.List.Elements.{All-filter, All-head, All-tail}
use Rattle.std.proofs.lemmas.List.Sums.{count_by-le-length, length-filter, sum_by-cons}
use Rattle.std.proofs.lemmas.Bool.{and_parts}
use Rattle.nc_model.specs.declared.fault.LayoutFault.{LayoutFault}
use Rattle.nc_model.specs.declared.header.Header.{Header}
use Rattle.nc_model.specs.declared.header.NcVar.{NcVar}
use Rattle.nc_model.specs.Format.{padded_len, ATTRIBUTE_TAG, VARIABLE_TAG, is_barred, is_name_text}
use Rattle.nc_model.specs.Layout.{is_record_var, vsize, record_vars, record_size_of, record_size, layout_fault, first_too_large, first_outside}
use Rattle.nc_model.specs.Spelling.{HeaderOf, Spelled, SpellsAttr, SpellsBegin, SpellsList, SpellsName, SpellsVar}
use Rattle.nc_layout.specs.Meaning.{IsSmall}
use Rattle.nc_layout.proofs.MeaningLemmas.{All-small}
use Rattle.nc_layout.proofs.RecordLemmas.{padded_vsize}

-- items that take at least `least` bytes each
items-least : {A : Type 0} (S : List ℕ → A → Type 0) (least : ℕ)
    → ((text : List ℕ) (item : A) → S text item → least ≤ length text) → (text : List ℕ) (items : List A)
    → Spelled S text items → length items * least ≤ length text
items-least S least each text [] is = omega arith
items-least S least each text (item ∷ items) is =
    let first = each is.0 item is.2 in
    let others = items-least S least each is.1 items is.3 in
    let whole = ap length is.4 in
    let joined = length-append is.0 is.1 in
    omega (arith, first, others, whole, joined)

list-least : {A : Type 0} (tag : ℕ) (S : List ℕ → A → Type 0) (least : ℕ)
    → ((text : List ℕ) (item : A) → S text item → least ≤ length text) → (text : List ℕ) (items : List A)
    → SpellsList tag S text items → 8 + length items * least ≤ length text
list-least tag S least each text items (inl absent) =
    let none : length items ≡ 0 = ap length absent.none in
    let eight = ap length absent.text_is ∙ length-replicate {A = ℕ} 8 0 in
    let no_bytes : length items * least ≡ 0 * least = ap (λ n. n * least) none in
    omega (arith, eight, no_bytes)
list-least tag S least each text items (inr tagged) =
    let more = items-least S least each tagged.items_text items tagged.each in
    let count = ap length tagged.count.text_is in
    let whole = ap length tagged.text_is in
    let first = length-append (to_be_bytes w32 tag ++ tagged.count_text) tagged.items_text in
    let second = length-append (to_be_bytes w32 tag) tagged.count_text in
    omega (arith, more, count, whole, first, second)

some-len : (n : ℕ) → not (n == 0) ≡ true → 1 ≤ n
some-len zero some = absurd cc
some-len (suc n) some = omega arith

name-least : (text name : List ℕ) → SpellsName text name → 8 ≤ length text
unfolding is_name_text
name-least text name spelled =
    let some = some-len (length name) (and_parts (not (length name == 0)) (is_utf8 name)
    (and_parts (not (length name == 0) && is_utf8 name) (not (list_any is_barred name)) spelled.named).0).0 in
    let count = ap length spelled.count.text_is in
    let padded = spelled.bytes.length_is in
    let whole = ap length spelled.text_is in
    let joined = length-append spelled.count_text spelled.name_text in
    omega (arith, some, count, padded, whole, joined)

begin-least : (version : ℕ) (text : List ℕ) (begin : ℕ) → SpellsBegin version text begin → 4 ≤ length text
begin-least version text begin (inl short) = let is = ap length short.2 in omega (arith, is)
begin-least version text begin (inr long) = let is = ap length long.2 in omega (arith, is)

var-least : (version : ℕ) (text : List ℕ) (var : NcVar) → SpellsVar version text var → 32 ≤ length text
var-least version text var s =
    let name = name-least s.name_text var.name s.name in
    let rank = ap length s.rank.text_is in
    let attrs = list-least ATTRIBUTE_TAG SpellsAttr 0 (λ _ _ _. omega arith) s.attrs_text var.attrs s.attrs in
    let kind = ap length s.kind in
    let begin = begin-least version s.begin_text var.begin s.begin in
    let whole = ap length s.text_is in
    let first = length-append s.name_text s.rank_text in
    let second = length-append (s.name_text ++ s.rank_text) s.dims_text in
    let third = length-append (s.name_text ++ s.rank_text ++ s.dims_text) s.attrs_text in
    let fourth = length-append (s.name_text ++ s.rank_text ++ s.dims_text ++ s.attrs_text) s.kind_text in
    let fifth = length-append (s.name_text ++ s.rank_text ++ s.dims_text ++ s.attrs_text ++ s.kind_text) s.size_text in
    let sixth = length-append (s.name_text ++ s.rank_text ++ s.dims_text ++ s.attrs_text ++ s.kind_text ++ s.size_text)
    s.begin_text in
    omega (arith, name, rank, attrs, kind, s.size, begin, whole, first, second, third, fourth, fifth, sixth)

-- each variable takes 32 bytes of the header at least, and the rest of it eight
vars-few : (bytes : List ℕ) (header : Header) → HeaderOf bytes header → 8 + length header.vars * 32 ≤ length bytes
vars-few bytes header found =
    let s = found.spelled in
    let version = header.version in
    let vars = list-least VARIABLE_TAG (SpellsVar version) 32 (var-least version) s.vars_text header.vars s.vars in
    let whole = ap length s.text_is in
    let front = codes "CDF" ++ header.version ∷ [] ++ s.numrecs_text in
    let first = length-append front s.dims_text in
    let second = length-append (front ++ s.dims_text) s.attrs_text in
    let third = length-append (front ++ s.dims_text ++ s.attrs_text) s.vars_text in
    let split = ap length found.split in
    let rest = length-append found.text found.rest in
    omega (arith, vars, whole, first, second, third, split, rest)

padded-most : (n : ℕ) → n ≤ 2 ^ 40 → padded_len n ≤ 2 ^ 40
padded-most n small = omega arith

sum-most : (header : Header) (vars : List NcVar) → All (IsSmall header) vars
    → sum_by (padded_vsize header) vars ≤ length vars * 2 ^ 40
sum-most header [] small = omega arith
sum-most header (var ∷ vars) small =
    let first = padded-most (vsize header var) (All-head (IsSmall header) var vars small) in
    let others = sum-most header vars (All-tail (IsSmall header) var vars small) in
    let more = sum_by-cons (padded_vsize header) var vars in
    omega (arith, first, others, more)

record-most : (header : Header) (vars : List NcVar) → All (IsSmall header) vars
    → record_size_of header vars ≤ length vars * 2 ^ 40
record-most header [] small = omega arith
record-most header (var ∷ []) small =
    let whole : vsize header var ≤ 2 ^ 40 = All-head (IsSmall header) var [] small in
    let padded = padded-most (vsize header var) whole in grind (arith, whole, padded)
record-most header (var ∷ other ∷ more) small = sum-most header (var ∷ other ∷ more) small

none_too_large : (first second : Option LayoutFault) → option_or first second ≡ None → first ≡ None
none_too_large None second e = refl
none_too_large (Some fault) second e = absurd cc

pub record_size-small : (bytes : List ℕ) (header : Header) → HeaderOf bytes header
    → layout_fault header (length bytes) ≡ None → length bytes ≤ 536870912 → record_size header < 2 ^ 64
unfolding record_size layout_fault
record_size-small bytes header found faultless short =
    let small = All-small header (none_too_large (first_too_large header 0 header.vars)
    (first_outside header (length bytes) 0 header.vars) faultless) in
    let records = All-filter (is_record_var header) (IsSmall header) header.vars small in
    let most = record-most header (record_vars header) records in
    let few = vars-few bytes header found in
    let fewer = length-filter (is_record_var header) header.vars in
    let within = count_by-le-length (is_record_var header) header.vars in
    omega (arith, most, few, fewer, within, short)

pub ruleset sizes = (record_size-small)

-- The dimensions, the attributes and the smaller parts of a variable are read exactly.
use Rattle.std.proofs.Common.{◌≡◌, ℕ, ◌*◌, ◌<◌, ◌≤◌, ◌⊎◌, false, not, ◌&&◌, ◌==◌, nat_le, nat_lt, List, [], ◌++◌, length, map, drop, refl, sym, subst, ◌∙◌, append_assoc, inl, inr, arith}
use Rattle.std.specs.List.{AllByRecursion}
use Rattle.std.proofs.lemmas.Bool.{ltb-false, le-ltb, leb-false, lt-leb}
use Rattle.nc_model.specs.declared.fault.HeaderFault.TheVariants.{BadCount, BadDimId, TwoRecordDims, RecordNotFirst}
use Rattle.nc_model.specs.declared.header.Attr.{Attr}
use Rattle.nc_model.specs.declared.header.Dim.{Dim}
use Rattle.nc_model.specs.declared.kind.Kind.{Kind}
use Rattle.nc_model.specs.Format.{ATTRIBUTE_TAG, MAX_RANK, has_name, has_record_dim}
use Rattle.nc_model.specs.Kind.{size_of}
use Rattle.nc_model.specs.Reading.{word, long_word, count, padded, name_at, kind_at, items_from, list_at, dim_size, dim_at, attr_at, rank_at, names_record_dim, dim_id_at, begin_at}
use Rattle.nc_model.specs.Spelling.{SpellsWord, SpellsCount, SpellsPadded, SpellsName, SpellsKind, SpellsList, SpellsDim, SpellsAttr, SpellsBegin, Spelled, NamesNoRecord}
use Rattle.nc_model.proofs.Distinct.{IsFresh, IsOnlyRecord, IsRecordFirst, EachFrom-parts, EachFrom-both, AllByRecursion-from_each, EachFrom-from_all, no_record-from_first, first-from_no_record}
use Rattle.fm_base.proofs.Exact.{onto, Then, Such, Exact-located}
use Rattle.nc_model.proofs.Fields.{SpellsLong, SpellsWord-from_count, Exact-word, Exact-long_word, Exact-tested, Exact-count, Exact-padded, Exact-name_at, Exact-kind_at}
use Rattle.nc_model.proofs.Lists.{EachFrom, Adds, Exact-items_from, Exact-list_at}
use Rattle.nc_model.proofs.Steps.{Through, Tests-pure, ExactBytes, ExactBytes-then, ExactBytes-as, ExactBytes-test, ExactBytes-unless, ExactBytes-unless_both}

pub Exact-dim_size : (found : List Dim)
    → ExactBytes (Such SpellsCount (λ size. (size == 0 && has_record_dim found) ≡ false)) (dim_size found)
unfolding dim_size
Exact-dim_size found = Exact-located
    (λ at. ExactBytes-unless SpellsCount (λ size. size == 0 && has_record_dim found)
    (TwoRecordDims at) count Exact-count)

abbrev pub name_of_dim : Dim → List ℕ
name_of_dim dim = dim.name

-- a dimension after these has another name, and is no second record dimension
abbrev pub DimAfter : List Dim → Dim → Type 0
DimAfter found dim = IsFresh name_of_dim found dim × IsOnlyRecord found dim

abbrev pub dim_of : List ℕ → ℕ → Dim
dim_of name size = record { name = name; size = size }

abbrev DimAsRead : List Dim → List ℕ → Dim → Type 0
DimAsRead found =
    Then (Such SpellsName (λ name. has_name (map name_of_dim found) name ≡ false))
    (λ name. Through (Such SpellsCount (λ size. (size == 0 && has_record_dim found) ≡ false))
    (λ size dim. dim_of name size ≡ dim))

pub Exact-dim_at : (found : List Dim) → ExactBytes (Such SpellsDim (DimAfter found)) (dim_at found)
unfolding dim_at
Exact-dim_at found = ExactBytes-as (DimAsRead found) (Such SpellsDim (DimAfter found)) (dim_at found)
    (λ text dim fits s. subst (Such SpellsDim (DimAfter found) text) s.second.related (record {
      spelled = record {
        name_text = s.front;
        size_text = s.back;
        name = s.first.spelled;
        size =
            s.second.spelled.spelled;
        text_is = s.text_is;
      };
      holds = (s.first.holds, s.second.spelled.holds);
    }))
    (λ text dim s. record {
      a = dim.name;
      front = s.spelled.name_text;
      back = s.spelled.size_text;
      first = record { spelled = s.spelled.name; holds = s.holds.0 };
      second = record {
        x = dim.size;
        spelled = record { spelled = s.spelled.size; holds = s.holds.1 };
        related =
            refl;
      };
      text_is = s.spelled.text_is;
    })
    (ExactBytes-then (Such SpellsName (λ name. has_name (map name_of_dim found) name ≡ false)) _
    (name_at (map name_of_dim found)) _ (Exact-name_at (map name_of_dim found))
    (λ name front first. ExactBytes-test _ (λ size dim. dim_of name size ≡ dim) (dim_size found) _
    (Exact-dim_size found) (Tests-pure (dim_of name))))

abbrev pub name_of_attr : Attr → List ℕ
name_of_attr attr = attr.name

abbrev pub attr_of : List ℕ → Kind → List ℕ → Attr
attr_of name kind values = record { name = name; kind = kind; values = values }

abbrev AttrAsRead : List Attr → List ℕ → Attr → Type 0
AttrAsRead found =
    Then (Such SpellsName (λ name. has_name (map name_of_attr found) name ≡ false))
    (λ name. Then SpellsKind
    (λ kind. Then SpellsCount
    (λ n. Through (Such SpellsPadded (λ values. length values ≡ n * size_of kind))
    (λ values attr. attr_of name kind values ≡ attr))))

pub Exact-attr_at : (found : List Attr) → ExactBytes (Such SpellsAttr (IsFresh name_of_attr found)) (attr_at found)
unfolding attr_at
Exact-attr_at found = ExactBytes-as (AttrAsRead found) (Such SpellsAttr (IsFresh name_of_attr found)) (attr_at found)
    (λ text attr fits s. subst (Such SpellsAttr (IsFresh name_of_attr found) text) s.second.second.second.related
    (record {
      spelled = record {
        name_text = s.front;
        kind_text = s.second.front;
        count_text = s.second.second.front;
        values_text = s.second.second.back;
        count = s.second.second.a;
        name = s.first.spelled;
        kind = s.second.first;
        counted = s.second.second.first;
        length_is = s.second.second.second.spelled.holds;
        values = s.second.second.second.spelled.spelled;
        text_is = simp append_assoc (s.text_is
            ∙ onto s.front (s.second.text_is ∙ onto s.second.front s.second.second.text_is));
      };
      holds = s.first.holds;
    }))
    (λ text attr s. let t = s.spelled in record {
      a = attr.name;
      front = t.name_text;
      back = t.kind_text ++ (t.count_text ++ t.values_text);
      first = record { spelled = t.name; holds = s.holds };
      second = record {
        a = attr.kind;
        front = t.kind_text;
        back = t.count_text ++ t.values_text;
        first = t.kind;
        second = record {
          a = t.count;
          front = t.count_text;
          back = t.values_text;
          first = t.counted;
          second = record {
            x = attr.values;
            spelled = record { spelled = t.values; holds = t.length_is };
            related =
                refl;
          };
          text_is = refl;
        };
        text_is = refl;
      };
      text_is = simp append_assoc at t.text_is;
    })
    (ExactBytes-then (Such SpellsName (λ name. has_name (map name_of_attr found) name ≡ false)) _
    (name_at (map name_of_attr found)) _ (Exact-name_at (map name_of_attr found))
    (λ name front first. ExactBytes-then SpellsKind _ kind_at _ Exact-kind_at
    (λ kind front first. ExactBytes-then SpellsCount _ count _ Exact-count
    (λ n front first. ExactBytes-test _ (λ values attr. attr_of name kind values ≡ attr) (padded (n * size_of kind)) _
    (Exact-padded (n * size_of kind)) (Tests-pure (attr_of name kind))))))

-- the attributes of a header or of a variable
pub Exact-attrs_at : ExactBytes (Such (SpellsList ATTRIBUTE_TAG SpellsAttr) (EachFrom (IsFresh name_of_attr) []))
    (list_at ATTRIBUTE_TAG attr_at)
Exact-attrs_at = Exact-list_at ATTRIBUTE_TAG SpellsAttr (IsFresh name_of_attr) attr_at (omega arith)
    (omega arith) Exact-attr_at

pub Exact-rank_at : ExactBytes (Such SpellsCount (λ rank. rank ≤ MAX_RANK)) rank_at
unfolding rank_at
Exact-rank_at = ExactBytes-as (Such SpellsWord (λ n. nat_lt MAX_RANK n ≡ false))
    (Such SpellsCount (λ rank. rank ≤ MAX_RANK)) rank_at
    (λ text n fits s.
    let within : n ≤ MAX_RANK = ltb-false MAX_RANK n s.holds in
    record { spelled = record { small = omega arith; text_is = s.spelled.text_is }; holds = within })
    (λ text n s. record { spelled = SpellsWord-from_count text n s.spelled; holds = le-ltb MAX_RANK n s.holds })
    (Exact-tested (λ n. nat_lt MAX_RANK n) BadCount)

-- the number of a dimension that is there, and not that of the record dimension where others stand before it
abbrev pub IdAfter : List Dim → List ℕ → ℕ → Type 0
IdAfter dims found id = (id < length dims) × IsRecordFirst dims found id

pub Exact-dim_id_at : (dims : List Dim) (found : List ℕ)
    → ExactBytes (Such SpellsWord (IdAfter dims found)) (dim_id_at dims found)
unfolding dim_id_at
Exact-dim_id_at dims found = ExactBytes-as
    (Such SpellsWord (λ id. (nat_le (length dims) id ≡ false) × IsRecordFirst dims found id))
    (Such SpellsWord (IdAfter dims found)) (dim_id_at dims found)
    (λ text id fits s. record { spelled = s.spelled; holds = (leb-false (length dims) id s.holds.0, s.holds.1) })
    (λ text id s. record { spelled = s.spelled; holds = (lt-leb (length dims) id s.holds.0, s.holds.1) })
    (Exact-located (λ at. ExactBytes-unless_both _ (λ id. nat_le (length dims) id)
    (λ id. not (length found == 0) && names_record_dim dims id) (BadDimId at) (RecordNotFirst at) word Exact-word))

-- the numbers of `rank` dimensions that are there, with the record dimension first or not at all
abbrev pub AreIds : List Dim → ℕ → List ℕ → Type 0
AreIds dims rank ids = (length ids ≡ rank) × AllByRecursion (λ id. id < length dims) ids
    × AllByRecursion (NamesNoRecord dims) (drop 1 ids)

pub Exact-dim_ids : (dims : List Dim) (rank : ℕ)
    → ExactBytes (Such (Spelled SpellsWord) (AreIds dims rank)) (items_from (dim_id_at dims) rank [])
Exact-dim_ids dims rank = ExactBytes-as (Adds SpellsWord (IdAfter dims) [] rank)
    (Such (Spelled SpellsWord) (AreIds dims rank)) (items_from (dim_id_at dims) rank [])
    (λ text ids fits s.
    let parts = EachFrom-parts (λ found id. id < length dims) (IsRecordFirst dims) [] s.more s.each in
    subst (Such (Spelled SpellsWord) (AreIds dims rank) text) (sym s.all_is) (record {
      spelled = s.spelled;
      holds = (
        s.count,
        AllByRecursion-from_each (λ id. id < length dims) [] s.more parts.0,
        no_record-from_first dims s.more parts.1,
      );
    }))
    (λ text ids s. record {
      more = ids;
      all_is = refl;
      count = s.holds.0;
      spelled = s.spelled;
      each = EachFrom-both (λ found id. id < length dims) (IsRecordFirst dims) [] ids
          (EachFrom-from_all (λ id. id < length dims) [] ids s.holds.1) (first-from_no_record dims ids s.holds.2);
    })
    (Exact-items_from SpellsWord (IdAfter dims) (dim_id_at dims) (Exact-dim_id_at dims) rank [])

Exact-begin_1 : ExactBytes (SpellsBegin 1) (begin_at 1)
unfolding begin_at
Exact-begin_1 = ExactBytes-as SpellsWord (SpellsBegin 1) word
    (λ text begin fits s. inl (refl, s.small, s.text_is))
    (λ text begin s. elim s [
      | inl four ↦ record { small = four.1; text_is = four.2 }
      | inr eight ↦ let no = eight.0 in absurd (omega arith)
    ])
    Exact-word

Exact-begin_2 : ExactBytes (SpellsBegin 2) (begin_at 2)
unfolding begin_at
Exact-begin_2 = ExactBytes-as SpellsLong (SpellsBegin 2) long_word
    (λ text begin fits s. inr (refl, s.small, s.text_is))
    (λ text begin s. elim s [
      | inl four ↦ let no = four.0 in absurd (omega arith)
      | inr eight ↦ record { small = eight.1; text_is = eight.2 }
    ])
    Exact-long_word

pub Exact-begin_at : (version : ℕ) → (version ≡ 1) ⊎ (version ≡ 2) → ExactBytes (SpellsBegin version) (begin_at version)
Exact-begin_at version (inl one) = subst (λ v. ExactBytes (SpellsBegin v) (begin_at v)) (sym one) Exact-begin_1
Exact-begin_at version (inr two) = subst (λ v. ExactBytes (SpellsBegin v) (begin_at v)) (sym two) Exact-begin_2

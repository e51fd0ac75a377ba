-- The variables of a header are read exactly.
use Rattle.std.proofs.Common.{◌≡◌, ℕ, ◌≤◌, ◌⊎◌, false, List, [], ◌++◌, length, map, refl, sym, ap, subst, ◌∙◌, append_assoc}
use Rattle.nc_model.specs.declared.header.Attr.{Attr}
use Rattle.nc_model.specs.declared.header.Dim.{Dim}
use Rattle.nc_model.specs.declared.header.NcVar.{NcVar}
use Rattle.nc_model.specs.declared.kind.Kind.{Kind}
use Rattle.nc_model.specs.Format.{ATTRIBUTE_TAG, MAX_RANK, has_name}
use Rattle.nc_model.specs.Reading.{field, name_at, kind_at, items_from, list_at, attr_at, rank_at, dim_id_at, begin_at, var_at}
use Rattle.nc_model.specs.Spelling.{SpellsWord, SpellsCount, SpellsName, SpellsKind, SpellsList, SpellsAttr, SpellsBegin, SpellsVar, Spelled, IsSoundVar}
use Rattle.nc_model.proofs.Distinct.{IsFresh, AreDistinct-from_fresh, fresh-from_AreDistinct}
use Rattle.fm_base.proofs.Exact.{onto, Then, Such}
use Rattle.nc_model.proofs.Fields.{Exact-name_at, Exact-kind_at}
use Rattle.nc_model.proofs.Lists.{EachFrom}
use Rattle.nc_model.proofs.Parts.{name_of_attr, AreIds, Exact-attrs_at, Exact-rank_at, Exact-dim_ids, Exact-begin_at}
use Rattle.nc_model.proofs.Steps.{Through, IsField, Exact-field, Tests-pure, ExactBytes, ExactBytes-then, ExactBytes-as, ExactBytes-test}
use Rattle.fm_base.specs.Parser.{known}

abbrev pub name_of_var : NcVar → List ℕ
name_of_var var = var.name

-- a variable after these has another name, and is sound
abbrev pub VarAfter : List Dim → List NcVar → NcVar → Type 0
VarAfter dims found var = IsFresh name_of_var found var × IsSoundVar dims var

abbrev pub var_of : List ℕ → List ℕ → List Attr → Kind → ℕ → NcVar
var_of name ids attrs kind begin = record { name = name; dims = ids; attrs = attrs; kind = kind; begin = begin }

abbrev VarAsRead : ℕ → List Dim → List NcVar → List ℕ → NcVar → Type 0
VarAsRead version dims found =
    Then (Such SpellsName (λ name. has_name (map name_of_var found) name ≡ false))
    (λ name. Then (Such SpellsCount (λ rank. rank ≤ MAX_RANK))
    (λ rank. Then (Such (Spelled SpellsWord) (AreIds dims rank))
    (λ ids. Then (Such (SpellsList ATTRIBUTE_TAG SpellsAttr) (EachFrom (IsFresh name_of_attr) []))
    (λ attrs. Then SpellsKind
    (λ kind. Then (IsField 4)
    (λ size. Through (SpellsBegin version) (λ begin var. var_of name ids attrs kind begin ≡ var)))))))

var_spelled : (version : ℕ) (dims : List Dim) (found : List NcVar) (text : List ℕ) (var : NcVar)
    → VarAsRead version dims found text var
    → Such (SpellsVar version) (VarAfter dims found) text var
var_spelled version dims found text var s =
    let ranked = s.second in
    let listed = ranked.second in
    let noted = listed.second in
    let sorted = noted.second in
    let sized = sorted.second in
    let begun = sized.second in
    subst (Such (SpellsVar version) (VarAfter dims found) text) begun.related (record {
      spelled = record {
        name_text = s.front;
        rank_text = ranked.front;
        dims_text = listed.front;
        attrs_text = noted.front;
        kind_text = sorted.front;
        size_text = sized.front;
        begin_text = sized.back;
        name = s.first.spelled;
        rank = subst (SpellsCount ranked.front) (sym listed.first.holds.0) ranked.first.spelled;
        dims = listed.first.spelled;
        attrs = noted.first.spelled;
        kind = sorted.first;
        size = ap length sized.first.text_is ∙ sized.first.size;
        begin = begun.spelled;
        text_is = simp append_assoc (s.text_is ∙ onto s.front (ranked.text_is ∙ onto ranked.front (listed.text_is
            ∙ onto listed.front (noted.text_is
            ∙ onto noted.front (sorted.text_is ∙ onto sorted.front sized.text_is)))));
      };
      holds = (
        s.first.holds,
        record {
          rank = subst (λ n. n ≤ MAX_RANK) (sym listed.first.holds.0) ranked.first.holds;
          named = listed.first.holds.1;
          record_first = listed.first.holds.2;
          attrs = AreDistinct-from_fresh name_of_attr noted.a noted.first.holds;
        },
      );
    })

var_read : (version : ℕ) (dims : List Dim) (found : List NcVar) (text : List ℕ) (var : NcVar)
    → Such (SpellsVar version) (VarAfter dims found) text var → VarAsRead version dims found text var
var_read version dims found text var s = let t = s.spelled in let sound = s.holds.1 in record {
  a = var.name;
  front = t.name_text;
  back = t.rank_text ++ (t.dims_text ++ (t.attrs_text ++ (t.kind_text ++ (t.size_text ++ t.begin_text))));
  first = record { spelled = t.name; holds = s.holds.0 };
  second = record {
    a = length var.dims;
    front = t.rank_text;
    back = t.dims_text ++ (t.attrs_text ++ (t.kind_text ++ (t.size_text ++ t.begin_text)));
    first = record { spelled = t.rank; holds = sound.rank };
    second = record {
      a = var.dims;
      front = t.dims_text;
      back = t.attrs_text ++ (t.kind_text ++ (t.size_text ++ t.begin_text));
      first = record { spelled = t.dims; holds = (refl, sound.named, sound.record_first) };
      second = record {
        a = var.attrs;
        front = t.attrs_text;
        back = t.kind_text ++ (t.size_text ++ t.begin_text);
        first = record { spelled = t.attrs; holds = fresh-from_AreDistinct name_of_attr var.attrs sound.attrs };
        second = record {
          a = var.kind;
          front = t.kind_text;
          back = t.size_text ++ t.begin_text;
          first = t.kind;
          second = record {
            a = t.size_text;
            front = t.size_text;
            back = t.begin_text;
            first = record { size = t.size; text_is = refl };
            second = record { x = var.begin; spelled = t.begin; related = refl };
            text_is = refl;
          };
          text_is = refl;
        };
        text_is = refl;
      };
      text_is = refl;
    };
    text_is = refl;
  };
  text_is = simp append_assoc at t.text_is;
}

pub Exact-var_at : (version : ℕ) → (version ≡ 1) ⊎ (version ≡ 2) → (dims : List Dim) (found : List NcVar)
    → ExactBytes (Such (SpellsVar version) (VarAfter dims found)) (var_at version dims found)
unfolding var_at
Exact-var_at version known dims found =
    ExactBytes-as (VarAsRead version dims found) (Such (SpellsVar version) (VarAfter dims found))
    (var_at version dims found)
    (λ text var fits s. var_spelled version dims found text var s)
    (var_read version dims found)
    (ExactBytes-then (Such SpellsName (λ name. has_name (map name_of_var found) name ≡ false)) _
    (name_at (map name_of_var found)) _ (Exact-name_at (map name_of_var found))
    (λ name front first. ExactBytes-then _ _ rank_at _ Exact-rank_at
    (λ rank front first. ExactBytes-then _ _ (items_from (dim_id_at dims) rank []) _ (Exact-dim_ids dims rank)
    (λ ids front first. ExactBytes-then _ _ (list_at ATTRIBUTE_TAG attr_at) _ Exact-attrs_at
    (λ attrs front first. ExactBytes-then SpellsKind _ kind_at _ Exact-kind_at
    (λ kind front first. ExactBytes-then (IsField 4) _ (field 4) _ (Exact-field 4)
    (λ size front first. ExactBytes-test _ _ (begin_at version) _ (Exact-begin_at version known)
    (Tests-pure (var_of name ids attrs kind)))))))))

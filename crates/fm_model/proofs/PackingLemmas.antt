-- When the numbers of two variables are read alike, and which attribute is refused where they aren't.
use Rattle.std.proofs.Common.{◌≡◌, ℕ, Bool, true, false, cond, not, List, [], ◌∷◌, ◌++◌, codes, Option, Some, None, Ok, Err, refl, sym, ap, subst, ◌∙◌}
use Rattle.std.specs.Str.{bytes_eq}
use Rattle.std.proofs.lemmas.Bool.{and_parts, both_ways, eq-eqb, false≢true, not-false}
use Rattle.std.proofs.lemmas.Option.{same_Some}
use Rattle.std.proofs.lemmas.Slice.Eq.{bytes_eq-Decides}
use Rattle.nc_model.specs.declared.header.Attr.{Attr}
use Rattle.nc_model.specs.declared.header.NcVar.{NcVar}
use Rattle.nc_model.specs.declared.kind.Kind.{Kind}
use Rattle.nc_model.specs.Kind.{code_of}
use Rattle.fm_base.specs.Chain.{Check, ◌>>◌, refuse_if}
use Rattle.fm_base.proofs.ChainLemmas.{check_ok, passed_if}
use Rattle.fm_model.specs.declared.loaded.LoadFault.{LoadFault}
use Rattle.fm_model.specs.declared.loaded.LoadFault.TheVariants.{AttributeDiffers}
use Rattle.fm_model.specs.declared.proto.ProtoVar.{ProtoVar}
use Rattle.fm_model.specs.Attribute.{attr_named, attr_text, is_char, trimmed}
use Rattle.fm_model.specs.Packing.{said_by, is_same_attr, are_same_attr, have_same, same_attr, same_packing, packing_names, AreSameAttr, HaveSame, HaveSamePacking, IsFirstOther, IsSameAttr}
use Rattle.fm_model.specs.Variable.{is_same_kind}
use Rattle.fm_model.proofs.GridLemmas.{same_kind}
use Rattle.fm_model.proofs.Members.{Each, All-from_each, each_from_All}

-- what is said by values, which are characters or not
abbrev said : Bool → List ℕ → List ℕ
said char values = cond char (trimmed values) values

-- their text
abbrev text : Bool → List ℕ → Option (List ℕ)
text char values = cond char (Some (trimmed values)) None

same_text : (char : Bool) (values others : List ℕ) → said char values ≡ said char others
    → text char others ≡ text char values
same_text true values others e = ap Some (sym e)
same_text false values others e = refl

same_values : (char : Bool) (values others : List ℕ) → said char values ≡ said char others → char ≡ false
    → others ≡ values
same_values true values others e numbers = absurd (false≢true (sym numbers))
same_values false values others e numbers = sym e

same_said : (char : Bool) (values others : List ℕ) → text char others ≡ text char values
    → (char ≡ false → others ≡ values) → said char values ≡ said char others
same_said true values others e same = sym (same_Some (trimmed others) (trimmed values) e)
same_said false values others e same = sym (same refl)

IsSameAttr-is_same_attr : (attr other : Attr) → is_same_attr attr other ≡ true → IsSameAttr attr other
unfolding is_same_attr said_by attr_text
IsSameAttr-is_same_attr attr other e =
    let parts = and_parts (is_same_kind attr.kind other.kind) (bytes_eq (said_by attr) (said_by other)) e in
    let kind = same_kind attr.kind other.kind parts.0 in
    let char : Bool = is_char attr.kind in
    let said_is : said char attr.values ≡ said char other.values =
    (bytes_eq-Decides (said_by attr) (said_by other)).0 parts.1
    ∙ ap (λ (k : Kind). said (is_char k) other.values) kind in
    record {
      kind_is = kind;
      text_is = ap (λ (k : Kind). text (is_char k) other.values) kind
          ∙ same_text char attr.values other.values said_is;
      values_are = same_values char attr.values other.values said_is;
    }

is_same_attr-IsSameAttr : (attr other : Attr) → IsSameAttr attr other → is_same_attr attr other ≡ true
unfolding is_same_attr said_by attr_text
is_same_attr-IsSameAttr attr other is =
    let char : Bool = is_char attr.kind in
    let kind : is_same_kind attr.kind other.kind ≡ true =
    ap (λ (k : Kind). is_same_kind attr.kind k) is.kind_is ∙ eq-eqb (code_of attr.kind) (code_of attr.kind) refl in
    let text_is : text char other.values ≡ text char attr.values =
    ap (λ (k : Kind). text (is_char k) other.values) (sym is.kind_is) ∙ is.text_is in
    let said_is : said_by attr ≡ said_by other =
    same_said char attr.values other.values text_is is.values_are
    ∙ ap (λ (k : Kind). said (is_char k) other.values) (sym is.kind_is) in
    rw (kind, (bytes_eq-Decides (said_by attr) (said_by other)).1 said_is) refl

same_found : (attr other : Option Attr) → are_same_attr attr other ≡ true → AreSameAttr attr other
same_found None None e = tt
same_found None (Some other) e = absurd (false≢true e)
same_found (Some attr) None e = absurd (false≢true e)
same_found (Some attr) (Some other) e = IsSameAttr-is_same_attr attr other e

found_same : (attr other : Option Attr) → AreSameAttr attr other → are_same_attr attr other ≡ true
found_same None None same = refl
found_same None (Some other) same = absurd same
found_same (Some attr) None same = absurd same
found_same (Some attr) (Some other) same = is_same_attr-IsSameAttr attr other same

HaveSame-have_same : (attrs others : List Attr) (name : List ℕ) → have_same attrs others name ≡ true
    → HaveSame attrs others name
unfolding have_same
HaveSame-have_same attrs others name e = same_found (attr_named attrs name) (attr_named others name) e

have_same-HaveSame : (attrs others : List Attr) (name : List ℕ) → HaveSame attrs others name
    → have_same attrs others name ≡ true
unfolding have_same
have_same-HaveSame attrs others name same = found_same (attr_named attrs name) (attr_named others name) same

module _ (wanted : ProtoVar) (var : NcVar) where
  abbrev Same : List ℕ → Type 0
  Same name = HaveSame wanted.attrs var.attrs name

  passes : (name : List ℕ) → same_attr wanted var name ≡ Ok tt → Same name
  unfolding same_attr
  passes name e =
      let same : Bool = have_same wanted.attrs var.attrs name in
      HaveSame-have_same wanted.attrs var.attrs name
      (not-false same (passed_if (not same) (AttributeDiffers wanted.name name) e))

  passed : (name : List ℕ) → Same name → same_attr wanted var name ≡ Ok tt
  unfolding same_attr
  passed name same = ap (λ good. refuse_if (not good) (AttributeDiffers wanted.name name))
      (have_same-HaveSame wanted.attrs var.attrs name same)

  refused : (name : List ℕ) → ¬ Same name → same_attr wanted var name ≡ Err (AttributeDiffers wanted.name name)
  unfolding same_attr
  refused name differs = by_test (have_same wanted.attrs var.attrs name) refl
    where
      by_test : (good : Bool) → have_same wanted.attrs var.attrs name ≡ good
          → refuse_if (not good) (AttributeDiffers wanted.name name) ≡ Err (AttributeDiffers wanted.name name)
      by_test true is = absurd (differs (HaveSame-have_same wanted.attrs var.attrs name is))
      by_test false is = refl

  -- what is accepted has the same in each of five attributes
  pub HaveSamePacking-same_packing : same_packing wanted var ≡ Ok tt → HaveSamePacking wanted.attrs var.attrs
  unfolding same_packing
  HaveSamePacking-same_packing e =
      let unit = check_ok (same_attr wanted var (codes "units")) _ tt e in
      let scale = check_ok (same_attr wanted var (codes "scale_factor")) _ tt unit.1 in
      let offset = check_ok (same_attr wanted var (codes "add_offset")) _ tt scale.1 in
      let fill = check_ok (same_attr wanted var (codes "_FillValue")) _ tt offset.1 in
      record {
        unit = passes (codes "units") unit.0;
        scale = passes (codes "scale_factor") scale.0;
        offset = passes (codes "add_offset") offset.0;
        fill = passes (codes "_FillValue") fill.0;
        missing = passes (codes "missing_value") fill.1;
      }

  -- each in turn
  abbrev checks : List (List ℕ) → Check LoadFault
  checks [] = Ok tt
  checks (name ∷ names) = same_attr wanted var name >> checks names

  last_check : (check : Check LoadFault) → check ≡ (check >> Ok tt)
  last_check (Ok tt) = refl
  last_check (Err fault) = refl

  packing-checks : same_packing wanted var ≡ checks packing_names
  unfolding same_packing
  packing-checks = ap (λ last. same_attr wanted var (codes "units")
      >> (same_attr wanted var (codes "scale_factor")
      >> (same_attr wanted var (codes "add_offset") >> (same_attr wanted var (codes "_FillValue") >> last))))
      (last_check (same_attr wanted var (codes "missing_value")))

  checks_pass : (names : List (List ℕ)) (rest : List (List ℕ)) → Each Same names
      → checks (names ++ rest) ≡ checks rest
  checks_pass [] rest each = refl
  checks_pass (name ∷ names) rest each =
      ap (λ first. first >> checks (names ++ rest)) (passed name each.0) ∙ checks_pass names rest each.1

  -- and what has them the same is accepted
  pub same_packing-HaveSamePacking : HaveSamePacking wanted.attrs var.attrs → same_packing wanted var ≡ Ok tt
  same_packing-HaveSamePacking is =
      packing-checks
      ∙ checks_pass packing_names [] (is.unit, (is.scale, (is.offset, (is.fill, (is.missing, tt)))))

  -- the first of some names whose attribute isn't the same
  record IsFirstOf (names : List (List ℕ)) (name : List ℕ) : Type 0 where
    before : List (List ℕ)
    after : List (List ℕ)
    split : names ≡ before ++ name ∷ after
    same : Each Same before
    differs : ¬ Same name

  abbrev refusal : List ℕ → Check LoadFault
  refusal name = Err (AttributeDiffers wanted.name name)

  same_refusal : (name other : List ℕ) → refusal name ≡ refusal other → name ≡ other
  same_refusal name other e = cc

  first_of : (names : List (List ℕ)) (name : List ℕ) → checks names ≡ refusal name → IsFirstOf names name
  first_of [] name e = absurd cc
  first_of (first ∷ names) name e = by_test (have_same wanted.attrs var.attrs first) refl (first_of names name)
    where
      by_test : (good : Bool) → have_same wanted.attrs var.attrs first ≡ good
          → (checks names ≡ refusal name → IsFirstOf names name) → IsFirstOf (first ∷ names) name
      by_test true is more =
          let here = HaveSame-have_same wanted.attrs var.attrs first is in
          let found = more (sym (ap (λ check. check >> checks names) (passed first here)) ∙ e) in
          record {
            before = first ∷ found.before;
            after = found.after;
            split = ap (λ l. first ∷ l) found.split;
            same = (here, found.same);
            differs = found.differs;
          }
      by_test false is more =
          let other : ¬ Same first =
          λ same. both_ways (have_same wanted.attrs var.attrs first) is
          (have_same-HaveSame wanted.attrs var.attrs first same) in
          let one : first ≡ name = same_refusal first name
          (sym (ap (λ check. check >> checks names) (refused first other)) ∙ e) in
          record {
            before = [];
            after = names;
            split = ap (λ n. n ∷ names) one;
            same = tt;
            differs = subst (λ n. ¬ Same n) one other;
          }

  -- what is refused is the first that differs
  pub IsFirstOther-same_packing : (name : List ℕ) → same_packing wanted var ≡ Err (AttributeDiffers wanted.name name)
      → IsFirstOther wanted.attrs var.attrs name
  IsFirstOther-same_packing name e =
      let found = first_of packing_names name (sym packing-checks ∙ e) in
      record {
        before = found.before;
        after = found.after;
        split = found.split;
        same = All-from_each Same found.before found.same;
        differs = found.differs;
      }

  -- and the first that differs is refused
  pub same_packing-IsFirstOther : (name : List ℕ) → IsFirstOther wanted.attrs var.attrs name
      → same_packing wanted var ≡ Err (AttributeDiffers wanted.name name)
  same_packing-IsFirstOther name is =
      packing-checks ∙ ap checks is.split
      ∙ checks_pass is.before (name ∷ is.after) (each_from_All Same is.before is.same)
      ∙ ap (λ check. check >> checks is.after) (refused name is.differs)

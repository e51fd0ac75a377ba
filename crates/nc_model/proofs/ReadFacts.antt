-- What holds of a header that was read, whatever the bytes: each of its parts was read by its parser, names differ, and
-- numbers of dimensions are in range.
use Rattle.std.proofs.Common.{◌≡◌, ℕ, zero, suc, ◌<◌, Bool, true, false, not, List, [], ◌∷◌, ◌++◌, length, map, Ok, Err, refl, sym, ap, subst, ◌∙◌, append_assoc, append-nil}
use Rattle.std.specs.Prelude.{◌&&◌, ◌==◌, nat_le, IsTrue}
use Rattle.std.specs.List.{AllByRecursion}
use Rattle.std.proofs.lemmas.Bool.{leb-false, not-false}
use Rattle.nc_model.specs.declared.fault.HeaderFault.{HeaderFault}
use Rattle.nc_model.specs.declared.header.Dim.{Dim}
use Rattle.nc_model.specs.declared.header.Header.{Header}
use Rattle.nc_model.specs.declared.header.NcVar.{NcVar}
use Rattle.nc_model.specs.Format.{ATTRIBUTE_TAG, DIMENSION_TAG, VARIABLE_TAG, has_name, is_name_text}
use Rattle.fm_base.specs.Input.{Input, whole}
use Rattle.fm_base.specs.Parser.{Outcome, ◌>>=◌, and_then, pure, unless, value_of}
use Rattle.nc_model.specs.Reading.{HeaderParser, word, count, field, padded, name_at, kind_at, rank_at, names_record_dim, begin_at, attr_at, dim_size, version_at, numrecs_at, items_from, tag_at, list_count, list_at, dim_at, dim_id_at, var_at, header_at, header_or_fault}
use Rattle.nc_model.specs.Spelling.{AreDistinct}
use Rattle.nc_model.proofs.Distinct.{IsFresh, AreDistinct-from_fresh, AllByRecursion-from_each, EachFrom-parts}
use Rattle.nc_model.proofs.Lists.{EachFrom}

-- ---- steps

-- the value that was read, and the remaining input
abbrev pub Read : Type 0 → Type 0
Read A = Outcome A HeaderFault

-- two steps that succeed, one after the other
pub then_ok : {A B : Type 0} (r : Read A) (next : A → HeaderParser B) (b : B × Input) → and_then r next ≡ Ok b
    → (a : A × Input) × (r ≡ Ok a) × (next a.0 a.1 ≡ Ok b)
then_ok (Ok a) next b e = (a, refl, e)
then_ok (Err fault) next b e = absurd cc

-- a test that lets a value pass
pub unless_ok : {A : Type 0} (bad : Bool) (fault : HeaderFault) (value : A) (i : Input) {b : A × Input}
    → unless bad fault value i ≡ Ok b
    → (bad ≡ false) × (value ≡ b.0)
unless_ok true fault value i e = absurd cc
unless_ok false fault value i e = (refl, cc)

pub unless_then : {A B : Type 0} (bad : Bool) (fault : HeaderFault) (value : A) (i : Input) (next : A → HeaderParser B)
    {b : B × Input} → and_then (unless bad fault value i) next ≡ Ok b
    → (bad ≡ false) × (next value i ≡ Ok b)
unless_then true fault value i next e = absurd cc
unless_then false fault value i next e = (refl, e)

-- a step that reads nothing
pub pure_ok : {A : Type 0} (value : A) (i : Input) (b : A × Input) → ◌≡◌ {A = Read A} (pure value i) (Ok b)
    → value ≡ b.0
pure_ok value i b e = cc

-- the outcome of which this is the value
pub value_of-ok : {A E : Type 0} (r : Outcome A E) (x : A) → value_of r ≡ Ok x → (i : Input) × (r ≡ Ok (x, i))
value_of-ok {A = A} (Ok p) x e = let same : p.0 ≡ x = cc in (p.1, ap (λ (y : A). Ok (y, p.1)) same)
value_of-ok (Err fault) x e = absurd cc

-- the parser gives this value for some input
pub record Gives {A : Type 0} (p : HeaderParser A) (value : A) : Type 0 where
  pub from : Input
  pub left : Input
  pub is : p from ≡ Ok (value, left)

pub gives_then : {A B : Type 0} (p : HeaderParser A) (next : A → HeaderParser B) {b : B} → Gives (p >>= next) b
    → (a : A) × Gives p a × Gives (next a) b
gives_then p next {b} g =
    let a = then_ok (p g.from) next (b, g.left) g.is in (
      a.0.0,
      record { from = g.from; left = a.0.1; is = a.1 },
      record { from = a.0.1; left = g.left; is = a.2 },
    )

pub gives_pure : {A : Type 0} {value b : A} → Gives (pure value) b → value ≡ b
gives_pure {A} {value} {b} g = pure_ok value g.from (b, g.left) g.is

-- ---- lists

-- a fact of an item and of those before it
abbrev pub HasEach : {A : Type 0} → (List A → A → Type 0) → (List A → HeaderParser A) → Type 0
HasEach {A} P item = (found : List A) (x : A) → Gives (item found) x → P found x

-- those that were found, and n more, of each of which a fact holds that counts on those before it
pub record Found {A : Type 0} (P : List A → A → Type 0) (found : List A) (n : ℕ) (all : List A) : Type 0 where
  pub more : List A
  pub all_is : all ≡ found ++ more
  pub count : length more ≡ n
  pub each : EachFrom P found more

pub items_found : {A : Type 0} (P : List A → A → Type 0) (item : List A → HeaderParser A) → HasEach P item → (n : ℕ)
    (found all : List A) → Gives (items_from item n found) all → Found P found n all
unfolding items_from
items_found P item fact zero found all g = record {
  more = [];
  all_is = sym (gives_pure g) ∙ sym (append-nil found);
  count = refl;
  each = tt;
}
items_found P item fact (suc n) found all g =
    let next = gives_then (item found) _ g in
    let others = items_found P item fact n (found ++ next.0 ∷ []) all next.2 in
    record {
      more = next.0 ∷ others.more;
      all_is = others.all_is ∙ append_assoc found (next.0 ∷ []) others.more;
      count = ap suc others.count;
      each = (fact found next.0 next.1, others.each);
    }

pub list_found : {A : Type 0} (P : List A → A → Type 0) (tag : ℕ) (item : List A → HeaderParser A) → HasEach P item
    → (all : List A) → Gives (list_at tag item) all → EachFrom P [] all
unfolding list_at
list_found P tag item fact all g =
    let found = gives_then (tag_at tag) _ g in
    let number = gives_then (list_count found.0) _ found.2 in
    let items = items_found P item fact number.0 [] all number.2 in
    subst (EachFrom P []) (sym items.all_is) items.each

-- a fact of each item alone
pub list_each : {A : Type 0} (P : A → Type 0) (tag : ℕ) (item : List A → HeaderParser A)
    → HasEach (λ found x. P x) item → (all : List A) → Gives (list_at tag item) all → AllByRecursion P all
list_each P tag item fact all g =
    AllByRecursion-from_each P [] all (list_found (λ found x. P x) tag item fact all g)

-- ---- parts

-- the parts of a dimension that was read after these
pub record DimParts (found : List Dim) (dim : Dim) : Type 0 where
  pub name : Gives (name_at (map (λ (d : Dim). d.name) found)) dim.name
  pub size : Gives (dim_size found) dim.size

pub dim_parts : (found : List Dim) (dim : Dim) → Gives (dim_at found) dim → DimParts found dim
unfolding dim_at
dim_parts found dim g =
    let name = gives_then _ _ g in
    let size = gives_then _ _ name.2 in
    subst (DimParts found) (gives_pure size.2) (record { name = name.1; size = size.1 })

-- the parts of a variable that was read after these
pub record VarParts (dims : List Dim) (found : List NcVar) (var : NcVar) : Type 0 where
  pub n : ℕ
  pub name : Gives (name_at (map (λ (v : NcVar). v.name) found)) var.name
  pub rank : Gives rank_at n
  pub ids : Gives (items_from (dim_id_at dims) n []) var.dims
  pub attrs : Gives (list_at ATTRIBUTE_TAG attr_at) var.attrs

pub var_parts : (version : ℕ) (dims : List Dim) (found : List NcVar) (var : NcVar)
    → Gives (var_at version dims found) var → VarParts dims found var
unfolding var_at
var_parts version dims found var g =
    let name = gives_then _ _ g in
    let rank = gives_then _ _ name.2 in
    let ids = gives_then _ _ rank.2 in
    let attrs = gives_then _ _ ids.2 in
    let kind = gives_then kind_at _ attrs.2 in
    let size = gives_then (field 4) _ kind.2 in
    let begin = gives_then (begin_at version) _ size.2 in
    subst (VarParts dims found) (gives_pure begin.2)
    (record { n = rank.0; name = name.1; rank = rank.1; ids = ids.1; attrs = attrs.1 })

-- the parts of a header that was read
pub record HeaderParts (header : Header) : Type 0 where
  pub numrecs : Gives numrecs_at header.numrecs
  pub dims : Gives (list_at DIMENSION_TAG dim_at) header.dims
  pub attrs : Gives (list_at ATTRIBUTE_TAG attr_at) header.attrs
  pub vars : Gives (list_at VARIABLE_TAG (var_at header.version header.dims)) header.vars

header_given : (header : Header) → Gives header_at header → HeaderParts header
unfolding header_at
header_given header g =
    let version = gives_then version_at _ g in
    let numrecs = gives_then _ _ version.2 in
    let dims = gives_then _ _ numrecs.2 in
    let attrs = gives_then _ _ dims.2 in
    let vars = gives_then _ _ attrs.2 in
    let made : Header = record {
      version = version.0;
      numrecs = numrecs.0;
      dims = dims.0;
      attrs = attrs.0;
      vars = vars.0;
    } in
    subst HeaderParts {x = made} (gives_pure vars.2)
    (record { numrecs = numrecs.1; dims = dims.1; attrs = attrs.1; vars = vars.1 })

pub header_parts : (bytes : List ℕ) (header : Header) → header_or_fault bytes ≡ Ok header → HeaderParts header
unfolding header_or_fault
header_parts bytes header e =
    let read = value_of-ok (header_at (whole bytes)) header e in
    header_given header (record { from = whole bytes; left = read.0; is = read.1 })

-- ---- names and numbers of dimensions

-- a name that was read is one, and isn't among those before it
abbrev pub IsNewName : List (List ℕ) → List ℕ → Type 0
IsNewName found name = IsTrue (is_name_text name) × (has_name found name ≡ false)

pub new_name : (found : List (List ℕ)) (name : List ℕ) → Gives (name_at found) name → IsNewName found name
unfolding name_at
new_name found name g =
    let len = then_ok (count g.from) _ _ g.is in
    let text = then_ok (padded len.0.0 len.0.1) _ _ len.2 in
    let named = unless_then (not (is_name_text text.0.0)) _ text.0.0 _ _ text.2 in
    let fresh = unless_ok (has_name found text.0.0) _ text.0.0 _ named.1 in
    subst (IsNewName found) fresh.1 (not-false (is_name_text text.0.0) named.0, fresh.0)

fresh_dim : HasEach (IsFresh (λ (d : Dim). d.name)) dim_at
fresh_dim found dim g = (new_name _ dim.name (dim_parts found dim g).name).1

-- a number that was read is that of one of the dimensions
dim_id_in : (dims : List Dim) → HasEach (λ found id. id < length dims) (dim_id_at dims)
unfolding dim_id_at
dim_id_in dims found id g =
    let number = then_ok (word g.from) _ _ g.is in
    let there = unless_then (nat_le (length dims) number.0.0) _ number.0.0 _ _ number.2 in
    let last = unless_ok (not (length found == 0) && names_record_dim dims number.0.0) _ number.0.0 _ there.1 in
    subst (λ n. n < length dims) last.1 (leb-false (length dims) number.0.0 there.0)

-- a variable's name isn't that of one before it, and its dimensions are there
abbrev IsNewVar : List Dim → List NcVar → NcVar → Type 0
IsNewVar dims found var = IsFresh (λ (v : NcVar). v.name) found var × AllByRecursion (λ id. id < length dims) var.dims

new_var : (version : ℕ) (dims : List Dim) → HasEach (IsNewVar dims) (var_at version dims)
new_var version dims found var g =
    let parts = var_parts version dims found var g in
    let ids = items_found (λ f id. id < length dims) (dim_id_at dims) (dim_id_in dims) parts.n [] var.dims
    parts.ids in (
      (new_name _ var.name parts.name).1,
      subst (AllByRecursion (λ id. id < length dims)) (sym ids.all_is)
          (AllByRecursion-from_each (λ id. id < length dims) [] ids.more ids.each),
    )

-- what holds of a header that was read
pub record IsNamed (header : Header) : Type 0 where
  pub dims : AreDistinct (map (λ (d : Dim). d.name) header.dims)
  pub vars : AreDistinct (map (λ (v : NcVar). v.name) header.vars)
  pub in_range : AllByRecursion (λ (v : NcVar). AllByRecursion (λ id. id < length header.dims) v.dims) header.vars

-- a header that was read has names
pub IsNamed-from_read : (bytes : List ℕ) (header : Header) → header_or_fault bytes ≡ Ok header → IsNamed header
IsNamed-from_read bytes header e =
    let parts = header_parts bytes header e in
    let fresh = list_found (IsFresh (λ (d : Dim). d.name)) DIMENSION_TAG dim_at fresh_dim header.dims parts.dims in
    let new = list_found (IsNewVar header.dims) VARIABLE_TAG (var_at header.version header.dims)
    (new_var header.version header.dims) header.vars parts.vars in
    let vars = EachFrom-parts (IsFresh (λ (v : NcVar). v.name))
    (λ f v. AllByRecursion (λ id. id < length header.dims) v.dims) [] header.vars new in
    record {
      dims = AreDistinct-from_fresh (λ (d : Dim). d.name) header.dims fresh;
      vars = AreDistinct-from_fresh (λ (v : NcVar). v.name) header.vars vars.0;
      in_range = AllByRecursion-from_each (λ (v : NcVar). AllByRecursion (λ id. id < length header.dims) v.dims) []
          header.vars vars.1;
    }

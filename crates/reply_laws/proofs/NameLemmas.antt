-- The names of a prototype are words: one byte or more, each a letter, a digit, `_` or `-`.
use Rattle.std.proofs.Common.{ℕ, ◌<◌, List, [], ◌∷◌, ◌++◌, length, codes, inl, inr, refl, sym, subst, ◌∙◌, arith}
use Rattle.std.specs.Prelude.{IsTrue}
use Rattle.std.specs.List.{list_all}
use Rattle.std.proofs.lemmas.Bool.{and_from, false≢true}
use Rattle.std.proofs.lemmas.List.{length-append}
use Rattle.std.proofs.lemmas.List.Folds.{list_all-append}
use Rattle.fm_base.specs.Name.{is_name_byte}
use Rattle.nc_model.specs.declared.header.Dim.{Dim}
use Rattle.nc_model.specs.declared.header.NcVar.{NcVar}
use Rattle.nc_model.specs.Format.{is_name_text, DIMENSION_TAG, IsBytes, VARIABLE_TAG}
use Rattle.nc_model.specs.Spelling.{Spelled, SpellsDim, SpellsList, SpellsVar}
use Rattle.nc_model.proofs.HeaderLaws.{HeaderOf-from_read}
use Rattle.fm_model.specs.declared.proto.Proto.{Proto}
use Rattle.fm_model.specs.declared.proto.ProtoVar.{ProtoVar}
use Rattle.fm_model.specs.Prototype.{is_kept, is_plain_name, kept_vars, offset_name, proto_var, proto_with, run_name, with_length, IsAxis}
use Rattle.fm_model.specs.Site.{IsPrototype}
use Rattle.fm_model.proofs.HeaderLemmas.{proto_has_data}
use Rattle.fm_model.proofs.Members.{each_from_All, in_filter, in_from_Any, in_map, Each, Each-from_in, Each-in}
use Rattle.fm_model.proofs.ProtoLemmas.{IsProto-proto_of, IsSound-given}
use Rattle.dap_client.specs.Message.{IsWord}

-- ---- names of a header

-- a name has a byte or more
abbrev IsSome : List ℕ → Type 0
IsSome name = 0 < length name

some_bytes : (name : List ℕ) → IsTrue (is_name_text name) → IsSome name
unfolding is_name_text
some_bytes [] named = absurd (false≢true named)
some_bytes (byte ∷ name) named = omega arith

spelled_dims : (text : List ℕ) (dims : List Dim) → Spelled SpellsDim text dims
    → Each (λ (dim : Dim). IsSome dim.name) dims
spelled_dims text [] spelled = tt
spelled_dims text (dim ∷ dims) spelled =
    (some_bytes dim.name spelled.2.name.named, spelled_dims spelled.1 dims spelled.3)

dims_some : (text : List ℕ) (dims : List Dim) → SpellsList DIMENSION_TAG SpellsDim text dims
    → Each (λ (dim : Dim). IsSome dim.name) dims
dims_some text dims (inl absent) = subst (Each (λ (dim : Dim). IsSome dim.name)) (sym absent.none) tt
dims_some text dims (inr tagged) = spelled_dims tagged.items_text dims tagged.each

spelled_vars : (version : ℕ) (text : List ℕ) (vars : List NcVar) → Spelled (SpellsVar version) text vars
    → Each (λ (var : NcVar). IsSome var.name) vars
spelled_vars version text [] spelled = tt
spelled_vars version text (var ∷ vars) spelled =
    (some_bytes var.name spelled.2.name.named, spelled_vars version spelled.1 vars spelled.3)

vars_some : (version : ℕ) (text : List ℕ) (vars : List NcVar) → SpellsList VARIABLE_TAG (SpellsVar version) text vars
    → Each (λ (var : NcVar). IsSome var.name) vars
vars_some version text vars (inl absent) = subst (Each (λ (var : NcVar). IsSome var.name)) (sym absent.none) tt
vars_some version text vars (inr tagged) = spelled_vars version tagged.items_text vars tagged.each

-- ---- names of a prototype

-- no name of a prototype is empty
record HasSome (proto : Proto) : Type 0 where
  dims : Each (λ (dim : Dim). IsSome dim.name) proto.dims
  vars : Each (λ (var : ProtoVar). IsSome var.name) proto.vars

has_some : (proto : Proto) (given : IsPrototype proto) → IsBytes given.bytes → HasSome proto
unfolding proto_with kept_vars proto_var
has_some proto given are =
    let p = IsProto-proto_of given.bytes proto.site proto given.made in
    let read = (proto_has_data given.bytes p.header p.header_is).0 in
    let spelled = (HeaderOf-from_read given.bytes p.header are read).spelled in
    let dims = dims_some spelled.dims_text p.header.dims spelled.dims in
    let vars = vars_some p.header.version spelled.vars_text p.header.vars spelled.vars in
    let one = proto_with given.bytes proto.site p.header p.axis in
    let all : HasSome one = record {
      dims = Each-from_in (λ (dim : Dim). IsSome dim.name) _ (λ dim held.
          let found = in_map (with_length p.header) dim p.header.dims held in
          subst (λ (d : Dim). IsSome d.name) found.2
          (Each-in (λ (d : Dim). IsSome d.name) found.0 p.header.dims dims found.1));
      vars = Each-from_in (λ (var : ProtoVar). IsSome var.name) _ (λ var held.
          let found = in_map (proto_var given.bytes p.header p.axis) var
          (kept_vars p.header p.axis) held in
          let kept = (in_filter (is_kept p.header p.axis) found.0 p.header.vars found.1).0 in
          subst (λ (v : ProtoVar). IsSome v.name) found.2
          (Each-in (λ (v : NcVar). IsSome v.name) found.0 p.header.vars vars kept));
    } in
    subst HasSome p.proto_is all

-- a name that isn't empty is a word of the bytes that names may have
word_of : (name : List ℕ) → IsSome name → IsTrue (is_plain_name name) → IsWord is_name_byte name
unfolding is_plain_name
word_of name some plain = record { some = some; bytes = plain }

-- two facts of each item as one
both : {A : Type 0} (P Q R : A → Type 0) → ((x : A) → P x → Q x → R x) → (xs : List A) → Each P xs → Each Q xs
    → Each R xs
both P Q R join [] first second = tt
both P Q R join (x ∷ xs) first second =
    (join x first.0 second.0, both P Q R join xs first.1 second.1)

-- a word goes on with bytes of words
longer : (front back : List ℕ) → IsWord is_name_byte front → IsTrue (list_all is_name_byte back)
    → IsWord is_name_byte (front ++ back)
longer front back word more = record {
  some = let first = word.some in omega (arith, first, length-append front back);
  bytes = list_all-append is_name_byte front back ∙ and_from _ _ word.bytes more;
}

-- the names of dimensions and variables, of the axis, and those that the views add
pub record HasNames (proto : Proto) : Type 0 where
  pub dims : Each (λ (dim : Dim). IsWord is_name_byte dim.name) proto.dims
  pub vars : Each (λ (var : ProtoVar). IsWord is_name_byte var.name) proto.vars
  pub axis : IsWord is_name_byte proto.axis
  pub run : IsWord is_name_byte (run_name proto.axis)
  pub offset : IsWord is_name_byte (offset_name proto.axis)

pub has_names : (proto : Proto) (given : IsPrototype proto) → IsBytes given.bytes → HasNames proto
unfolding run_name offset_name is_name_byte
has_names proto given are =
    let some = has_some proto given are in
    let sound = IsSound-given proto given in
    let vars = both (λ (var : ProtoVar). IsSome var.name) (λ (var : ProtoVar). IsTrue (is_plain_name var.name))
    (λ (var : ProtoVar). IsWord is_name_byte var.name) (λ var. word_of var.name) proto.vars some.vars
    (each_from_All (λ (var : ProtoVar). IsTrue (is_plain_name var.name)) proto.vars sound.plain_vars) in
    let found = in_from_Any (IsAxis proto sound.id) proto.vars sound.axis in
    let axis = subst (IsWord is_name_byte) found.2.name_is
    (Each-in (λ (var : ProtoVar). IsWord is_name_byte var.name) found.0 proto.vars vars found.1) in
    record {
      dims = both (λ (dim : Dim). IsSome dim.name) (λ (dim : Dim). IsTrue (is_plain_name dim.name))
          (λ (dim : Dim). IsWord is_name_byte dim.name) (λ dim. word_of dim.name) proto.dims some.dims
          (each_from_All (λ (dim : Dim). IsTrue (is_plain_name dim.name)) proto.dims sound.plain_dims);
      vars = vars;
      axis = axis;
      run = longer proto.axis (codes "_run") axis refl;
      offset = longer proto.axis (codes "_offset") axis refl;
    }

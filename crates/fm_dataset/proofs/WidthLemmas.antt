-- The bits of a number fit its kind.
use Rattle.std.proofs.Common.{◌≡◌, ℕ, ◌^◌, ◌<◌, ◌≤◌, Bool, true, false, cond, List, length, Some, None, refl, sym, ap, subst, ◌∙◌, arith}
use Rattle.std.specs.Prelude.{◌==◌}
use Rattle.std.proofs.lemmas.Option.{same_Some}
use Rattle.nc_model.specs.declared.kind.Kind.{Kind}
use Rattle.nc_model.specs.declared.kind.Kind.TheVariants as kinds
use Rattle.nc_model.specs.declared.pattern.Pattern.{Pattern}
use Rattle.nc_model.specs.Kind.{size_of}
use Rattle.nc_model.specs.Pattern.{pattern_of_bytes, IsPattern}
use Rattle.fm_model.specs.declared.proto.Proto.{Proto}
use Rattle.fm_model.specs.declared.proto.ProtoVar.{ProtoVar}
use Rattle.dap_model.specs.declared.declaration.Array.{Array}
use Rattle.dap_model.specs.declared.declaration.DapKind.{DapKind}
use Rattle.dap_model.specs.declared.declaration.DapKind.TheVariants as daps
use Rattle.dap_model.specs.Xdr.{bits_in, AreBitsOf}
use Rattle.fm_dataset.specs.Declarations.{array_of, dap_kind_of, is_axis_of, kind_in}
use Rattle.fm_dataset.specs.Values.{array_at, var_of_part, Shown}
use Rattle.fm_dataset.proofs.PartLemmas.{added_array, part_is}

-- a number of a size in bytes has that many bits
fits_size : (kind : Kind) (bits : ℕ) → bits < 256 ^ size_of kind → (dap_kind_of kind ≡ daps.Text → ⊥)
    → AreBitsOf (dap_kind_of kind) bits
unfolding bits_in
fits_size kinds.Byte bits fits number = omega (arith, fits)
fits_size kinds.Char bits fits number = absurd (number refl)
fits_size kinds.Short bits fits number = omega (arith, fits)
fits_size kinds.Int bits fits number = omega (arith, fits)
fits_size kinds.Float bits fits number = omega (arith, fits)
fits_size kinds.Double bits fits number = omega (arith, fits)

-- a pattern is of the kind that it was read as, which isn't that of characters
kind_read : (kind : Kind) (bytes : List ℕ) (p : Pattern) → pattern_of_bytes kind bytes ≡ Some p
    → (p.kind ≡ kind) × (dap_kind_of kind ≡ daps.Text → ⊥)
kind_read kind bytes p e = by_kind kind e
  where
    by_length : (k : Kind) (n : ℕ) (b : Bool) → cond b (Some (record { kind = k; bits = n })) None ≡ Some p → p.kind ≡ k
    by_length k n true e = ap (λ (q : Pattern). q.kind) (sym (same_Some _ p e))
    by_length k n false e = absurd cc

    by_kind : (k : Kind) → pattern_of_bytes k bytes ≡ Some p → (p.kind ≡ k) × (dap_kind_of k ≡ daps.Text → ⊥)
    by_kind kinds.Byte e = (by_length kinds.Byte _ (length bytes == size_of kinds.Byte) e, λ d. cc)
    by_kind kinds.Char e = absurd cc
    by_kind kinds.Short e = (by_length kinds.Short _ (length bytes == size_of kinds.Short) e, λ d. cc)
    by_kind kinds.Int e = (by_length kinds.Int _ (length bytes == size_of kinds.Int) e, λ d. cc)
    by_kind kinds.Float e = (by_length kinds.Float _ (length bytes == size_of kinds.Float) e, λ d. cc)
    by_kind kinds.Double e = (by_length kinds.Double _ (length bytes == size_of kinds.Double) e, λ d. cc)

-- the bits of the axis fit, those of a pattern, and 0
pub axis_fits : (proto : Proto) (var : ProtoVar) (bits : ℕ) → is_axis_of proto var ≡ true → bits < 2 ^ 32
    → AreBitsOf (kind_in proto var) bits
unfolding kind_in bits_in
axis_fits proto var bits is small = rw is small

pub pattern_fits : (proto : Proto) (var : ProtoVar) (bytes : List ℕ) (p : Pattern) → is_axis_of proto var ≡ false
    → Some p ≡ pattern_of_bytes var.kind bytes → IsPattern p → AreBitsOf (kind_in proto var) p.bits
unfolding kind_in
pattern_fits proto var bytes p other e is =
    let read = kind_read var.kind bytes p (sym e) in
    let fits : p.bits < 256 ^ size_of var.kind = subst (λ (k : Kind). p.bits < 256 ^ size_of k) read.0 is.fits in
    rw other (fits_size var.kind p.bits fits read.1)

none_in : (kind : DapKind) → 0 < 2 ^ bits_in kind
unfolding bits_in
none_in daps.Byte = omega arith
none_in daps.Int16 = omega arith
none_in daps.Int32 = omega arith
none_in daps.Float32 = omega arith
none_in daps.Float64 = omega arith
none_in daps.Text = omega arith

pub none_fits : (kind : DapKind) → AreBitsOf kind 0
none_fits kind = none_in kind

pub ruleset widths = (axis_fits, pattern_fits, none_fits)

-- the bits of a part fit the kind of its array
pub var_fits : (shown : Shown) (decl part bits : ℕ) (var : ProtoVar) (array : Array) → decl < length shown.proto.vars
    → var_of_part shown.proto decl part ≡ Some var → AreBitsOf (kind_in shown.proto var) bits
    → array_at shown decl part ≡ Some array → AreBitsOf array.kind bits
unfolding array_of
var_fits shown decl part bits var array below var_is fits e =
    let is = part_is shown decl part array below e in
    let same = same_Some is.var var (sym is.var_is ∙ var_is) in
    let kind : array.kind ≡ kind_in shown.proto var =
    ap (λ (a : Array). a.kind) is.array_is ∙ ap (kind_in shown.proto) same in
    subst (λ (k : DapKind). AreBitsOf k bits) (sym kind) fits

pub added_fits : (shown : Shown) (decl part bits : ℕ) (array : Array) → length shown.proto.vars ≤ decl
    → bits < 2 ^ 32 → array_at shown decl part ≡ Some array → AreBitsOf array.kind bits
unfolding bits_in
added_fits shown decl part bits array most small e =
    subst (λ (k : DapKind). AreBitsOf k bits) (sym (added_array shown decl part array most e).kind) small

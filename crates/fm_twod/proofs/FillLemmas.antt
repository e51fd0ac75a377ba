-- The number that stands for a missing one fits its kind.
use Rattle.std.proofs.Common.{◌≡◌, ◌≢◌, ℕ, ◌^◌, ◌<◌, Bool, true, false, cond, List, length, Some, None, refl, sym, ap, subst, arith}
use Rattle.std.specs.Prelude.{◌==◌}
use Rattle.std.proofs.lemmas.Option.{same_Some}
use Rattle.nc_model.specs.declared.kind.Kind.{Kind}
use Rattle.nc_model.specs.declared.kind.Kind.TheVariants as kinds
use Rattle.nc_model.specs.declared.pattern.Pattern.{Pattern}
use Rattle.nc_model.specs.Kind.{size_of}
use Rattle.nc_model.specs.Pattern.{pattern_of_bytes, IsPattern}
use Rattle.fm_model.specs.declared.proto.Proto.{Proto}
use Rattle.fm_model.specs.declared.proto.ProtoVar.{ProtoVar}
use Rattle.dap_model.specs.declared.declaration.DapKind.TheVariants as daps
use Rattle.dap_model.specs.Xdr.{bits_in, AreBitsOf}
use Rattle.fm_dataset.specs.Declarations.{dap_kind_of, is_axis_of, kind_in}

-- a pattern has the kind that it was read as
pattern-kind : (kind : Kind) (bytes : List ℕ) (p : Pattern) → Some p ≡ pattern_of_bytes kind bytes → p.kind ≡ kind
pattern-kind kind bytes p is = by_kind kind (sym is)
  where
    by_length : (k : Kind) (n : ℕ) (b : Bool) → cond b (Some (record { kind = k; bits = n })) None ≡ Some p → p.kind ≡ k
    by_length k n true e = ap (λ (q : Pattern). q.kind) (sym (same_Some _ p e))
    by_length k n false e = absurd cc

    by_kind : (k : Kind) → pattern_of_bytes k bytes ≡ Some p → p.kind ≡ k
    by_kind kinds.Byte e = by_length kinds.Byte _ (length bytes == size_of kinds.Byte) e
    by_kind kinds.Char e = absurd cc
    by_kind kinds.Short e = by_length kinds.Short _ (length bytes == size_of kinds.Short) e
    by_kind kinds.Int e = by_length kinds.Int _ (length bytes == size_of kinds.Int) e
    by_kind kinds.Float e = by_length kinds.Float _ (length bytes == size_of kinds.Float) e
    by_kind kinds.Double e = by_length kinds.Double _ (length bytes == size_of kinds.Double) e

-- its bits fit the size of that kind
pub pattern-fits : (kind : Kind) (bytes : List ℕ) (p : Pattern) → Some p ≡ pattern_of_bytes kind bytes → IsPattern p
    → p.bits < 256 ^ size_of kind
pattern-fits kind bytes p is fits =
    subst (λ (k : Kind). p.bits < 256 ^ size_of k) (pattern-kind kind bytes p is) fits.fits

pub ruleset patterns = (pattern-fits)

-- bits of a size in bytes are those of the kind as which a variable is sent
size-fits : (kind : Kind) (bits : ℕ) → bits < 256 ^ size_of kind → dap_kind_of kind ≢ daps.Text
    → AreBitsOf (dap_kind_of kind) bits
unfolding bits_in
size-fits kinds.Byte bits fits number = omega (arith, fits)
size-fits kinds.Char bits fits number = absurd (number refl)
size-fits kinds.Short bits fits number = omega (arith, fits)
size-fits kinds.Int bits fits number = omega (arith, fits)
size-fits kinds.Float bits fits number = omega (arith, fits)
size-fits kinds.Double bits fits number = omega (arith, fits)

pub absent-fits : (proto : Proto) (var : ProtoVar) (bits : ℕ) → is_axis_of proto var ≡ false
    → kind_in proto var ≢ daps.Text → bits < 256 ^ size_of var.kind → AreBitsOf (kind_in proto var) bits
unfolding kind_in
absent-fits proto var bits other number fits =
    let sent : dap_kind_of var.kind ≢ daps.Text = rw other at number in
    rw other (size-fits var.kind bits fits sent)

pub absent-axis : (proto : Proto) (var : ProtoVar) (bits : ℕ) → is_axis_of proto var ≡ true
    → bits < 256 ^ size_of kinds.Int → AreBitsOf (kind_in proto var) bits
unfolding kind_in bits_in
absent-axis proto var bits is fits = rw is (omega (arith, fits))

pub ruleset absent = (absent-fits, absent-axis)

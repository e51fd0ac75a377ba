-- Numbers of two bytes are widened, and all others copied.
use Rattle.std.proofs.Common.{ℕ, List, drop, sym, subst}
use Rattle.std.specs.List.{flat_map}
use Rattle.dap_model.specs.Xdr.{element_bytes}
use Rattle.dap_model.specs.declared.declaration.DapKind.{DapKind}
use Rattle.dap_model.specs.declared.declaration.DapKind.TheVariants.{Int16}
use Rattle.dap_number.specs.Front.{IsFront}
use Rattle.dap_xdr.specs.Stretch.{AreBytesOf}
use Rattle.dap_xdr.proofs.StoredLemmas.{put-same, put-widened}
use Rattle.dap_xdr.proofs.stored.put_stored.Goals as goal

pub returns-in-Int16 : goal.returns-in-Int16
returns-in-Int16 c numbers are =
    subst (λ (kind : DapKind). IsFront (drop c.args.skip (flat_map (element_bytes kind) numbers)) c.args.out.now
    c.widen.new.out c.widen.result) (sym c.in-Int16.is)
    (subst (λ (skip : ℕ). IsFront (drop skip (flat_map (element_bytes Int16) numbers)) c.args.out.now
    c.widen.new.out c.widen.result) (sym c.if-skip-eq0.true)
    (put-widened numbers c.args.stored.now c.args.out.now c.widen.new.out c.widen.result
    (subst (λ (kind : DapKind). AreBytesOf kind numbers c.args.stored.now) c.in-Int16.is are)
    c.widen.ensures.count c.widen.ensures.bytes))

pub returns-in_default : goal.returns-in_default
returns-in_default c numbers are =
    subst (λ (new : List ℕ). IsFront (drop c.args.skip (flat_map (element_bytes c.args.kind) numbers)) c.args.out.now
    new c.put.result) (sym c.put.ensures.bytes)
    (put-same c.args.kind numbers c.args.stored.now c.args.out.now c.args.skip c.put.result c.in_default.not-Int16 are
    c.put.ensures.count)

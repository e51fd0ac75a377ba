-- What stands in a file is a front of what is left.
use Rattle.std.proofs.Common.{List, ℕ, drop, length, subst}
use Rattle.std.specs.List.{flat_map}
use Rattle.dap_model.specs.Xdr.{element_bytes}
use Rattle.dap_model.specs.declared.declaration.DapKind.{DapKind}
use Rattle.dap_number.specs.Front.{IsFront}
use Rattle.dap_xdr.specs.Stretch.{AreBytesOf}
use Rattle.dap_xdr.proofs.ElementLemmas.{picked-front}
use Rattle.dap_xdr.proofs.elements.put_in_place.Goals as goal

pub returns : goal.returns
returns c =
    picked-front c.args.part.now c.args.at.element c.args.at.skip
    (length c.args.out.now) c.put_stored.result c.raw-stored.result.now c.args.out.now
    c.put_stored.new.out c.raw-stored.ensures
    (subst (λ (kind : DapKind). (numbers : List ℕ) → AreBytesOf kind numbers c.raw-stored.result.now
    → IsFront (drop c.args.at.skip (flat_map (element_bytes kind) numbers)) c.args.out.now c.put_stored.new.out
    c.put_stored.result) c.kind.ensures c.put_stored.ensures)

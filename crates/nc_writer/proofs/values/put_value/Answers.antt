-- A number or a text.
use Rattle.std.proofs.Common.{ℕ, List, drop, sym, ap, subst, ◌∙◌}
use Rattle.dap_model.specs.declared.declaration.DapKind.{DapKind}
use Rattle.dap_model.specs.Xdr.{AreBitsOf}
use Rattle.dap_number.specs.Overlay.{IsPut}
use Rattle.dap_xdr.specs.Stretch.{stored_bytes}
use Rattle.dap_number.proofs.FrontLemmas.{put-left}
use Rattle.nc_writer.specs.Data.{filled}
use Rattle.nc_writer.proofs.ValueLemmas.{number-there, text-there, value-number, value-text}
use Rattle.nc_writer.specs.Data.{value_at}
use Rattle.nc_writer.proofs.values.put_value.Goals as goal

pub text-requires : goal.text-requires
text-requires c =
    text-there c.args.source.now c.args.variable.now c.args.index.now c.requires c.in-Text.is

pub bits-requires : goal.bits-requires
bits-requires c =
    number-there c.args.source.now c.args.variable.now c.args.index.now c.requires c.in_default.not-Text

pub put_bits-requires : goal.put_bits-requires
put_bits-requires c =
    subst (λ (kind : DapKind). AreBitsOf kind c.bits.result) (sym c.requires.kind_is)
    (c.bits.ensures.width c.requires.array c.requires.array_is)

pub returns-in-Text : goal.returns-in-Text
unfolding value_at
returns-in-Text c =
    let variable = c.args.variable.now in
    let text = c.text.ensures in
    subst (λ (l : List ℕ). IsPut (drop c.args.from l) c.args.out.now c.put_text.new.out c.put_text.result)
    (ap (filled variable.width) text
    ∙ sym (value-text variable.kind variable.width _ _ c.in-Text.is))
    c.put_text.ensures

pub returns-in_default : goal.returns-in_default
unfolding value_at
returns-in_default c =
    let variable = c.args.variable.now in
    subst (λ (l : List ℕ). IsPut (drop c.args.from l) c.args.out.now c.put_bits.new.out c.put_bits.result)
    (ap (stored_bytes variable.kind) c.bits.ensures.value
    ∙ sym (value-number variable.kind variable.width _ _ c.in_default.not-Text))
    (put-left _ c.args.out.now c.put_bits.new.out c.args.from c.put_bits.result c.put_bits.ensures.count
    c.put_bits.ensures.bytes)

-- The number of an offset is found by division.
use Rattle.std.proofs.Common.{◌≡◌, ◌≢◌, ℕ, ◌+◌, ◌-◌, ◌*◌, ◌/◌, ◌<◌, ◌≤◌, length, drop, sym, ap, subst, ◌∙◌, arith}
use Rattle.std.proofs.Math.Nat.{div-mul-le_self, mul-le-mul_right}
use Rattle.dap_model.specs.declared.declaration.DapKind.{DapKind}
use Rattle.dap_model.specs.declared.declaration.DapKind.TheVariants.{Text}
use Rattle.dap_model.specs.Box.{box_len}
use Rattle.dap_model.specs.Xdr.{element_len}
use Rattle.dap_number.specs.Overlay.{IsPut}
use Rattle.dap_xdr.proofs.SoFarLemmas.{element_len-pos}
use Rattle.fm_twod.specs.Chosen.{items_before, items_of}
use Rattle.fm_twod.proofs.ValueLemmas.{before-long}
use Rattle.fm_twod.proofs.items.put_numbers.Goals as goal

-- the numbers before the one that is found end at the offset or before it
passed : (from width element : ℕ) → element ≤ from / width → element * width ≤ from
passed from width element within =
    let most = mul-le-mul_right width within in
    let whole = div-mul-le_self from width in
    omega (arith, most, whole)

pub nonzero_div-last : goal.nonzero_div-last
nonzero_div-last c =
    subst (λ (m : ℕ). 0 < m) (sym c.element_len-width.ensures) (element_len-pos c.kind.result
    (subst (λ (kind : DapKind). kind ≢ Text) (sym c.kind.ensures) c.requires.number))

pub overflow_mul-before : goal.overflow_mul-before
overflow_mul-before c =
    let within : c.min-element.result ≤ c.args.from / c.element_len-width.result =
    omega (arith, c.min-element.ensures) in
    omega (arith, passed c.args.from c.element_len-width.result c.min-element.result within)

pub overflow_sub-passed : goal.overflow_sub-passed
overflow_sub-passed c =
    let within : c.min-element.result ≤ c.args.from / c.element_len-width.result =
    omega (arith, c.min-element.ensures) in
    omega (arith, passed c.args.from c.element_len-width.result c.min-element.result within)

pub put_items-requires-clause-element : goal.put_items-requires-clause-element
put_items-requires-clause-element c = omega (arith, c.min-element.ensures, c.count.ensures)

pub returns : goal.returns
returns c =
    let s = c.args.section.now in
    let width : c.element_len-width.result ≡ element_len s.array.kind =
    c.element_len-width.ensures ∙ ap element_len c.kind.ensures in
    let few : c.min-element.result ≤ box_len s.sent.slabs = omega (arith, c.min-element.ensures, c.count.ensures) in
    let within : c.min-element.result ≤ c.args.from / c.element_len-width.result =
    omega (arith, c.min-element.ensures) in
    let long : length (items_before s c.min-element.result) ≡ c.min-element.result * c.element_len-width.result =
    before-long s c.min-element.result c.requires.number few ∙ ap (λ (m : ℕ). c.min-element.result * m) (sym width) in
    let least = passed c.args.from c.element_len-width.result c.min-element.result within in
    let whole : length (items_before s c.min-element.result)
    + (c.args.from - c.min-element.result * c.element_len-width.result) ≡ c.args.from =
    omega (arith, long, least) in
    subst (λ (m : ℕ). IsPut (drop m (items_of s)) c.args.out.now c.put_items.new.out c.put_items.result) whole
    c.put_items.ensures

-- The product fits in sixteen bytes, with much room.
use Rattle.std.proofs.Common.{◌≡◌, ◌*◌, ◌^◌, ◌<◌, ℕ, List, ap, ap₂, sym, subst, ◌∙◌, arith}
use Rattle.dap_model.specs.declared.projection.Slab.{Slab}
use Rattle.dap_model.specs.Box.{box_len}
use Rattle.nc_writer.specs.Data.{values_len}
use Rattle.nc_writer.proofs.LenLemmas.{few-values, values-small}
use Rattle.nc_writer.proofs.data.values_len.Goals as goal

pub slab_len-requires-clause-few : goal.slab_len-requires-clause-few
slab_len-requires-clause-few c =
    let few = few-values c.args.source.now c.args.variable.now c.requires in
    subst (λ (s : List Slab). box_len s < 2 ^ 128) (sym c.slabs.ensures) (omega (arith, few))

pub overflow_mul-result : goal.overflow_mul-result
unfolding values_len
overflow_mul-result c =
    let whole : values_len c.args.variable.now ≡ c.slab_len.result * c.from.result =
    sym (ap₂ (λ (a b : ℕ). a * b) (c.slab_len.ensures ∙ ap box_len c.slabs.ensures)
    (c.from.ensures ∙ c.value_len-width.ensures)) in
    let small : c.slab_len.result * c.from.result < 2 ^ 97 =
    subst (λ (n : ℕ). n < 2 ^ 97) whole (values-small c.args.source.now c.args.variable.now c.requires) in
    omega (arith, small)

pub returns-clause-exact : goal.returns-clause-exact
unfolding values_len
returns-clause-exact c =
    ap₂ (λ (a b : ℕ). a * b) (c.slab_len.ensures ∙ ap box_len c.slabs.ensures)
    (c.from.ensures ∙ c.value_len-width.ensures)

pub returns-clause-small : goal.returns-clause-small
unfolding values_len
returns-clause-small c =
    let whole : values_len c.args.variable.now ≡ c.slab_len.result * c.from.result =
    sym (ap₂ (λ (a b : ℕ). a * b) (c.slab_len.ensures ∙ ap box_len c.slabs.ensures)
    (c.from.ensures ∙ c.value_len-width.ensures)) in
    subst (λ (n : ℕ). n < 2 ^ 97) whole (values-small c.args.source.now c.args.variable.now c.requires)

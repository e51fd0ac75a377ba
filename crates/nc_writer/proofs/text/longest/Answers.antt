-- The slabs of a part are few, and so is what they pick.
use Rattle.std.proofs.Common.{◌<◌, ◌^◌, List, length, sym, ap, subst, arith}
use Rattle.dap_model.specs.declared.projection.Slab.{Slab}
use Rattle.dap_model.specs.Box.{box_len}
use Rattle.nc_writer.proofs.TextLemmas.{few-picked, few-ranks}
use Rattle.nc_writer.proofs.text.longest.Goals as goal

pub split_at_mut-index-requires : goal.split_at_mut-index-requires
split_at_mut-index-requires c =
    let few = few-ranks c.args.source.now c.args.sent.now c.args.array.now c.requires.part in
    omega (arith, few, ap length c.slabs-slabs.ensures)

pub slab_len-requires-clause-few : goal.slab_len-requires-clause-few
slab_len-requires-clause-few c =
    let few = few-picked c.args.source.now c.args.sent.now c.args.array.now c.requires.part in
    subst (λ (s : List Slab). box_len s < 2 ^ 128) (sym c.slabs-slabs.ensures) (omega (arith, few))

pub overflow_cast-slab_len : goal.overflow_cast-slab_len
overflow_cast-slab_len c =
    let few = few-picked c.args.source.now c.args.sent.now c.args.array.now c.requires.part in
    omega (arith, few, c.slab_len.ensures, ap box_len c.slabs-slabs.ensures)

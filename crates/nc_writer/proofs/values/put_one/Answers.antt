-- The value of one element.
use Rattle.std.proofs.Common.{◌<◌, ◌^◌, List, length, sym, ap, subst, ◌∙◌, arith}
use Rattle.dap_model.specs.declared.projection.Slab.{Slab}
use Rattle.dap_model.specs.Box.{box_len, index_at}
use Rattle.dap_model.proofs.BoxLemmas.{length-index_at}
use Rattle.nc_writer.proofs.LenLemmas.{few-values}
use Rattle.nc_writer.proofs.TurnLemmas.{one-turn}
use Rattle.nc_writer.proofs.ValueLemmas.{has-value}
use Rattle.nc_writer.proofs.values.put_one.Goals as goal

pub slab_len-count-requires-clause-few : goal.slab_len-count-requires-clause-few
slab_len-count-requires-clause-few c =
    let few = few-values c.args.source.now c.args.variable.now c.requires.variable in
    subst (λ (s : List Slab). box_len s < 2 ^ 128) (sym c.slabs-slabs.ensures) (omega (arith, few))

pub overflow_cast-count : goal.overflow_cast-count
overflow_cast-count c =
    let few = few-values c.args.source.now c.args.variable.now c.requires.variable in
    omega (arith, few, c.slab_len-count.ensures, ap box_len c.slabs-slabs.ensures)

pub put_value-bytes-requires : goal.put_value-bytes-requires
put_value-bytes-requires c =
    has-value c.args.source.now c.args.variable.now c.args.element c.put_index.new.index c.requires.variable
    c.requires.element
    (c.put_index.ensures ∙ ap (λ (s : List Slab). index_at s c.args.element) c.slabs-slabs.ensures)

pub returns-clause-turn : goal.returns-clause-turn
returns-clause-turn c =
    one-turn c.args.source.now c.args.variable.now c.args.element c.args.passed c.put_value-bytes.result
    c.put_index.new.index c.args.out.now c.put_value-bytes.new.out c.requires.element
    (c.put_index.ensures ∙ ap (λ (s : List Slab). index_at s c.args.element) c.slabs-slabs.ensures)
    c.put_value-bytes.ensures

pub returns-clause-room : goal.returns-clause-room
returns-clause-room c =
    ap length (c.put_index.ensures ∙ ap (λ (s : List Slab). index_at s c.args.element) c.slabs-slabs.ensures)
    ∙ length-index_at c.args.variable.now.sent.slabs c.args.element
    ∙ sym c.requires.room

-- A walk begins with the start of each slab, which is the first index list of the box.
use Rattle.std.proofs.Common.{◌≡◌, ◌≤◌, ◌∙◌, List, sym, subst, arith}
use Rattle.std.specs.List.{All}
use Rattle.dap_model.specs.Box.{box_len, index_at}
use Rattle.dap_model.specs.declared.projection.Slab.{Slab}
use Rattle.dap_slab.specs.Walking.{HasIndex}
use Rattle.dap_slab.proofs.WalkLemmas.{index_at-first}
use Rattle.dap_slab.proofs.walk.Walk.new.Goals as goal

pub invariant_of-result : goal.invariant_of-result
invariant_of-result c =
    let len = c.slab_len.result in
    let index = c.in_ok-index.index.items in
    subst (λ (l : List Slab). All HasIndex l × (len ≡ box_len l) × (0 ≤ len) × (index ≡ index_at l 0))
    (sym c.in_ok-from_slice.ensures.items) (
      c.requires.index,
      c.slab_len.ensures,
      omega arith,
      c.in_ok-index.ensures ∙ sym (index_at-first c.args.slabs.now c.requires.index),
    )

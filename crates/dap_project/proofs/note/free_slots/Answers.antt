-- As many free slots as there are parts.
use Rattle.std.proofs.Common.{ℕ, ap, arith, replicate, ◌∙◌}
use Rattle.dap_model.specs.Picking.{parts_of}
use Rattle.dap_project.specs.declared.slot.Slot.TheVariants.{Free}
use Rattle.dap_project.proofs.IndexLemmas.{all_free}
use Rattle.dap_project.proofs.note.free_slots.Goals as goal

pub returns : goal.returns
returns c =
    c.loop-part.invariant
    ∙ ap (λ (n : ℕ). replicate n Free)
    (omega (arith, c.loop-part-test.false, c.loop-part.auto._part-end, c.part_count-count.ensures))
    ∙ all_free (parts_of c.args.decl.now)

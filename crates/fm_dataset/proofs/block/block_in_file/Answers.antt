use Rattle.std.proofs.Common.{ℕ, ◌+◌, ◌*◌, ap, ◌∙◌, arith}
use Rattle.fm_model.specs.declared.loaded.Loaded.{Loaded}
use Rattle.fm_dataset.proofs.BlockLemmas.{lies_in_file, row_within, slot_there}
use Rattle.fm_dataset.proofs.block.block_in_file.Goals as goal

pub slot_at-slot-requires : goal.slot_at-slot-requires
slot_at-slot-requires c = rw (c.as_slice.ensures, c.get-file.ensures) (slot_there _ _ _ _ c.requires)

pub begin_in-begin-requires : goal.begin_in-begin-requires
begin_in-begin-requires c =
    let slot = rw (c.as_slice.ensures, c.get-file.ensures) at c.slot_at-slot.ensures in
    let fits = row_within _ _ _ _ c.requires _ slot in
    rw (c.as_slice-bytes.ensures, c.get-file.ensures, c.from.ensures) (omega (arith, fits))

pub returns : goal.returns
returns c =
    let slot = rw (c.as_slice.ensures, c.get-file.ensures) at c.slot_at-slot.ensures in
    lies_in_file _ _ _ _ c.requires _ _ _ slot
    (c.as_slice-bytes.ensures ∙ ap (λ (f : Loaded). f.content) c.get-file.ensures)
    (c.begin_in-begin.ensures
    ∙ ap (λ (k : ℕ). c.slot_at-slot.result.begin + k * c.slot_at-slot.result.step) c.from.ensures)

-- A part more is written; after the last slot or the last part nothing is left.
use Rattle.std.proofs.Common.{List, ℕ, ◌+◌, ◌++◌, ap, sym, ◌∙◌}
use Rattle.nc_model.specs.declared.header.Dim.{Dim}
use Rattle.dap_model.specs.StructureText.{arrays_text}
use Rattle.dap_project.specs.Full.{full_slot}
use Rattle.dap_project.specs.Noted.{cut_of}
use Rattle.dap_project.specs.Taken.{cut_from}
use Rattle.dap_project.proofs.FullLemmas.{dims_there}
use Rattle.dap_project.proofs.TextLemmas.{none_behind, none_past, parts_end, parts_step, slot_cuts}
use Rattle.dap_project.proofs.text.put_parts.Goals as goal

pub returns-in_default : goal.returns-in_default
returns-in_default c =
    parts_end c.loop-part.out _ c.args.depth (cut_from c.args.decl.now c.args.slots.now c.loop-part.part)
    (none_past c.args.decl.now c.args.slots.now c.loop-part.part c.in_default.ensures) c.loop-part.invariant

pub put_taken-requires-clause-cuts : goal.put_taken-requires-clause-cuts
put_taken-requires-clause-cuts c =
    slot_cuts c.args.decl.now c.args.slots.now c.loop-part.part c.in-Some.array.now c.index-slots-part.result
    c.requires.cuts c.in-Some.ensures c.loop-part-test.true c.index-slots-part.is

pub loop-part-preserved : goal.loop-part-preserved
loop-part-preserved c =
    let decl = c.args.decl.now in
    let slots = c.args.slots.now in
    let part = c.loop-part.part in
    let array = c.in-Some.array.now in
    let slot = c.index-slots-part.result in
    ap (λ (l : List ℕ). l ++ arrays_text c.args.depth (cut_from decl slots (part + 1)))
    (c.in_ok-put_taken.ensures
    ∙ ap (λ (dims : List Dim). c.loop-part.out ++ arrays_text c.args.depth (cut_of array (full_slot dims slot)))
    (sym (dims_there decl part array c.in-Some.ensures)))
    ∙ sym (parts_step c.loop-part.out c.args.depth decl slots part array slot c.in-Some.ensures c.loop-part-test.true
    c.index-slots-part.is)
    ∙ c.loop-part.invariant

pub returns : goal.returns
returns c =
    parts_end c.loop-part.out _ c.args.depth (cut_from c.args.decl.now c.args.slots.now c.loop-part.part)
    (none_behind c.args.decl.now c.args.slots.now c.loop-part.part c.loop-part-test.false) c.loop-part.invariant

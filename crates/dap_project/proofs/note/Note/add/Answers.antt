-- Where nothing is picked, the note stays.
use Rattle.std.proofs.Common.{ap, sym, ◌∙◌}
use Rattle.dap_model.specs.Picking.{is_picked}
use Rattle.dap_project.specs.Full.{full_note}
use Rattle.dap_project.proofs.NoteLemmas.{note_kept}
use Rattle.dap_project.proofs.note.Note.add.Goals as goal

pub returns-then-not-is_picked : goal.returns-then-not-is_picked
returns-then-not-is_picked c =
    sym (note_kept c.args.decl.now c.args.clause.now (full_note c.args.decl.now c.args.self.now)
    (sym (c.is_picked.ensures
    ∙ ap is_picked c.requires.picked)
    ∙ c.if-not-is_picked.true))

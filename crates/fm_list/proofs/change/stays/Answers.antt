-- The run of the file decides for an expiry, and else where it is that of no file that went.
use Rattle.std.proofs.Common.{rules, ap, sym, ◌∙◌, SFits, w64}
use Rattle.std.specs.Prelude.{int_le}
use Rattle.std.proofs.lemmas.Int.{to_z-of_z}
use Rattle.fm_model.specs.declared.op.Op.{Op}
use Rattle.fm_list.specs.Change.{keeps}
use Rattle.fm_list.proofs.change.stays.Goals as goal

pub returns-in-Expire : goal.returns-in-Expire
unfolding keeps
returns-in-Expire c =
    let cutoff = c.in-Expire.cutoff in
    let a : SFits w64 cutoff = search rules in
    let b : SFits w64 c.run-run.result = search rules in
    simp to_z-of_z (ap (int_le cutoff) c.run-run.ensures)
    ∙ ap (λ (op : Op). keeps op c.args.file.now) (sym c.in-Expire.is)

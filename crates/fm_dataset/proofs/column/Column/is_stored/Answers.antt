-- A part whose numbers stand in files has them at each index list.
use Rattle.std.proofs.Common.{◌≡◌, ◌∙◌, true, sym, ap}
use Rattle.fm_dataset.specs.Columns.{PartOf}
use Rattle.fm_dataset.specs.Values.{is_stored}
use Rattle.fm_dataset.proofs.ColumnLemmas.{has_stored}
use Rattle.fm_dataset.proofs.column.Column.is_stored.Goals as goal

pub returns-clause-value : goal.returns-clause-value
returns-clause-value c =
    c.self.invariant.stored_is ∙ ap (λ (p : PartOf). is_stored p.shown p.decl p.part) c.self.view_is

pub returns-clause-asked : goal.returns-clause-asked
returns-clause-asked c = λ holds index has.
    let p = c.args.self.now in
    let stored : is_stored p.shown p.decl p.part ≡ true =
    sym (c.self.invariant.stored_is ∙ ap (λ (p : PartOf). is_stored p.shown p.decl p.part) c.self.view_is) ∙ holds in
    has_stored p.shown p.decl p.part index stored has

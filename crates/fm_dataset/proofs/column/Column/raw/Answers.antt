-- The variable that was found has the element that is asked for.
use Rattle.std.proofs.Common.{◌≡◌, ◌∙◌, sym, subst}
use Rattle.std.specs.Prelude.{slice_get, Some}
use Rattle.fm_dataset.specs.Columns.{PartOf}
use Rattle.fm_dataset.specs.Values.{HasStored}
use Rattle.fm_dataset.proofs.ColumnLemmas.{column_element}
use Rattle.fm_dataset.proofs.column.Column.raw.Goals as goal

pub raw_of-requires : goal.raw_of-requires
raw_of-requires c =
    let asked : HasStored _ c.self.inside.decl c.self.inside.part c.args.index.now =
    subst (λ (p : PartOf). HasStored p.shown p.decl p.part c.args.index.now) (sym c.self.view_is) c.requires in
    let proto = c.get-proto.ensures ∙ c.proto.ensures.value in
    let there : slice_get c.as_slice.result.now c.self.inside.number ≡ Some c.in-Some.var.now = c.in-Some.ensures in
    let stands = rw (c.as_slice.ensures, proto) at there in
    rw (proto, c.rows.ensures)
    (column_element c.self.inside.set.now c.proto.ensures.prototype c.proto.ensures.rows c.self.invariant _
    stands _ asked)

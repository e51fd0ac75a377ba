-- The variable that was found has the text that is asked for.
use Rattle.std.proofs.Common.{◌≡◌, ◌∙◌, sym, subst}
use Rattle.std.specs.Prelude.{slice_get, Some}
use Rattle.fm_dataset.specs.Columns.{PartOf}
use Rattle.fm_dataset.specs.Values.{HasText}
use Rattle.fm_dataset.proofs.ColumnLemmas.{column_text}
use Rattle.fm_dataset.proofs.column.Column.text.Goals as goal

pub text_of-requires : goal.text_of-requires
text_of-requires c =
    let asked : HasText _ c.self.inside.decl c.self.inside.part c.args.index.now =
    subst (λ (p : PartOf). HasText p.shown p.decl p.part c.args.index.now) (sym c.self.view_is) c.requires in
    let proto = c.get-proto.ensures ∙ c.proto.ensures.value in
    let there : slice_get c.as_slice.result.now c.self.inside.number ≡ Some c.in-Some.var.now = c.in-Some.ensures in
    let stands = rw (c.as_slice.ensures, proto) at there in
    rw (proto, c.rows.ensures)
    (column_text c.self.inside.set.now c.proto.ensures.prototype c.proto.ensures.rows c.self.invariant _
    stands _ asked)

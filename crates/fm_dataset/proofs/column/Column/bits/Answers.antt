-- The variable that was found has the number that is asked for.
use Rattle.std.proofs.Common.{◌≡◌, ◌<◌, ◌≤◌, length, ap, sym, subst, ◌∙◌, arith}
use Rattle.std.specs.Prelude.{slice_get, Some, All}
use Rattle.fm_model.specs.declared.proto.Proto.{Proto}
use Rattle.fm_model.proofs.ProtoLemmas.{IsSound-given}
use Rattle.fm_dataset.specs.Columns.{PartOf}
use Rattle.fm_dataset.specs.Kept.{HasInstants}
use Rattle.fm_dataset.specs.Values.{array_at, HasNumber}
use Rattle.fm_dataset.proofs.ColumnLemmas.{column_bits}
use Rattle.fm_dataset.proofs.RowLemmas.{instants}
use Rattle.fm_dataset.proofs.WidthLemmas.{added_fits, var_fits}
use Rattle.fm_dataset.proofs.column.Column.bits.Goals as goal

pub run_bits-requires : goal.run_bits-requires
run_bits-requires c =
    subst (All HasInstants) (sym c.rows-rows.ensures)
    (instants _ _ (IsSound-given _ c.proto.ensures.prototype) c.proto.ensures.rows)

pub offset_bits-requires : goal.offset_bits-requires
offset_bits-requires c =
    subst (All HasInstants) (sym c.rows-rows.ensures)
    (instants _ _ (IsSound-given _ c.proto.ensures.prototype) c.proto.ensures.rows)

pub var_bits-requires : goal.var_bits-requires
var_bits-requires c =
    let asked : HasNumber _ c.self.inside.decl c.self.inside.part c.args.index.now =
    subst (λ (p : PartOf). HasNumber p.shown p.decl p.part c.args.index.now) (sym c.self.view_is) c.requires in
    let proto = c.get-proto.ensures ∙ c.proto.ensures.value in
    let count = c.len-count.ensures ∙ ap (λ (p : Proto). length p.vars) proto in
    let below : c.self.inside.decl < length c.self.inside.set.now.proto.vars =
    omega (arith, count, c.if-decl-count.false, c.if-decl-count-2.false) in
    let there : slice_get c.as_slice.result.now c.self.inside.number ≡ Some c.in-Some.var.now = c.in-Some.ensures in
    let stands = rw (c.as_slice.ensures, proto) at there in
    rw (proto, c.rows-rows.ensures)
    (column_bits c.self.inside.set.now c.proto.ensures.prototype c.proto.ensures.rows c.self.invariant _
    stands _ below asked)

pub returns-then-decl-count-clause-width : goal.returns-then-decl-count-clause-width
returns-then-decl-count-clause-width c = λ array e.
    let count = c.len-count.ensures ∙ ap (λ (p : Proto). length p.vars) (c.get-proto.ensures ∙ c.proto.ensures.value) in
    let most : length c.self.inside.set.now.proto.vars ≤ c.self.inside.decl =
    omega (arith, count, c.if-decl-count.true) in
    added_fits c.self.inside.set.now c.self.inside.decl c.self.inside.part c.run_bits.result array most
    c.run_bits.ensures.width
    (subst (λ (p : PartOf). array_at p.shown p.decl p.part ≡ Some array) (sym c.self.view_is) e)

pub returns-then-decl-count-2-clause-width : goal.returns-then-decl-count-2-clause-width
returns-then-decl-count-2-clause-width c = λ array e.
    let count = c.len-count.ensures ∙ ap (λ (p : Proto). length p.vars) (c.get-proto.ensures ∙ c.proto.ensures.value) in
    let most : length c.self.inside.set.now.proto.vars ≤ c.self.inside.decl =
    omega (arith, count, c.if-decl-count-2.true) in
    added_fits c.self.inside.set.now c.self.inside.decl c.self.inside.part c.offset_bits.result array most
    c.offset_bits.ensures.width
    (subst (λ (p : PartOf). array_at p.shown p.decl p.part ≡ Some array) (sym c.self.view_is) e)

pub returns-in-Some-clause-width : goal.returns-in-Some-clause-width
returns-in-Some-clause-width c = λ array e.
    let proto = c.get-proto.ensures ∙ c.proto.ensures.value in
    let count = c.len-count.ensures ∙ ap (λ (p : Proto). length p.vars) proto in
    let below : c.self.inside.decl < length c.self.inside.set.now.proto.vars =
    omega (arith, count, c.if-decl-count.false, c.if-decl-count-2.false) in
    let there : slice_get c.as_slice.result.now c.self.inside.number ≡ Some c.in-Some.var.now = c.in-Some.ensures in
    let stands = rw (c.as_slice.ensures, proto) at there in
    var_fits c.self.inside.set.now c.self.inside.decl c.self.inside.part c.var_bits.result c.in-Some.var.now array below
    (sym c.self.invariant.number_is ∙ stands)
    (rw proto at c.var_bits.ensures.width)
    (subst (λ (p : PartOf). array_at p.shown p.decl p.part ≡ Some array) (sym c.self.view_is) e)

-- An element in the turns is below their end.
use Rattle.std.proofs.Common.{◌/◌, arith}
use Rattle.std.proofs.lemmas.Nat.{mod_below}
use Rattle.dap_xdr.proofs.rows.rows_at.Goals as goal

pub overflow_sub-most : goal.overflow_sub-most
overflow_sub-most c =
    omega (arith, mod_below (c.args.element / c.args.extent.unit) c.args.extent.turns c.requires.turns)

pub stored_len-row-requires : goal.stored_len-row-requires
stored_len-row-requires c = c.has_rows.ensures.unit c.if-not-has_rows.false

pub stored_len-step-requires : goal.stored_len-step-requires
stored_len-step-requires c = c.has_rows.ensures.pitch c.if-not-has_rows.false

pub returns-then-not-has_rows : goal.returns-then-not-has_rows
returns-then-not-has_rows c = record {
  few = omega arith;
  begins = λ some. absurd (omega (arith, some));
  row_is = λ some. absurd (omega (arith, some));
  step_is = λ some. absurd (omega (arith, some));
}

pub returns : goal.returns
returns c = record {
  few = omega arith;
  begins = λ some. c.has_rows.ensures.begins c.if-not-has_rows.false;
  row_is = λ some. c.stored_len-row.ensures;
  step_is = λ some. c.stored_len-step.ensures;
}

-- An instant whose year has four digits fits eight bytes, and is written.
use Rattle.std.proofs.Common.{◌≡◌, true, sym, subst, ◌∙◌, FitsSigned, w64, arith}
use Rattle.std.proofs.lemmas.Int.{to_z-of_z}
use Rattle.srv_ingest.specs.Lines.{has_four_digits}
use Rattle.srv_ingest.proofs.InstantLemmas.{four_digits-fit, HasFourDigitYear-test, shown-written}
use Rattle.srv_ingest.proofs.moment.shown_instant.Goals as goal

pub overflow_cast-t : goal.overflow_cast-t
overflow_cast-t c =
    let wide = to_z-of_z _ c.args.t c.ranges.t in
    let is : has_four_digits c.args.t ≡ true =
    sym (rw wide at c.has_four_digits.ensures) ∙ c.if-not-has_four_digits.false in
    subst (FitsSigned w64) (sym wide) (four_digits-fit c.args.t is)

pub written_instant-requires : goal.written_instant-requires
written_instant-requires c =
    let wide = to_z-of_z _ c.args.t c.ranges.t in
    let is : has_four_digits c.args.t ≡ true =
    sym (rw wide at c.has_four_digits.ensures) ∙ c.if-not-has_four_digits.false in
    let narrow = to_z-of_z w64 c.args.t (four_digits-fit c.args.t is) in
    grind (arith, wide, narrow, HasFourDigitYear-test c.args.t is)

pub returns : goal.returns
returns c =
    let wide = to_z-of_z _ c.args.t c.ranges.t in
    let is : has_four_digits c.args.t ≡ true =
    sym (rw wide at c.has_four_digits.ensures) ∙ c.if-not-has_four_digits.false in
    let narrow = to_z-of_z w64 c.args.t (four_digits-fit c.args.t is) in
    shown-written _ c.args.t _ is narrow (rw wide at c.written_instant.ensures)

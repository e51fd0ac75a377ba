-- The distance of the indices is the number of rows.
use Rattle.std.proofs.Common.{◌-◌, length, take, ap, arith}
use Rattle.std.proofs.lemmas.List.{length-drop, length-take}
use Rattle.fm_rows.proofs.stretch.Stretch.len.Goals as goal

pub overflow_sub-result : goal.overflow_sub-result
overflow_sub-result c = omega (arith, c.self.invariant.order)

pub returns : goal.returns
returns c =
    let front = take c.self.inside.to c.self.inside.list in
    omega (
      arith,
      c.self.invariant.order,
      c.self.invariant.within,
      length-take c.self.inside.to c.self.inside.list,
      length-drop c.self.inside.from front,
      ap length c.self.view_is,
    )

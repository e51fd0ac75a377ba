-- What stands at an instant after each of the three turns.
use Rattle.std.proofs.Common.{rules}
use Rattle.fm_list.specs.Change.{added}
use Rattle.fm_edition.proofs.TurningLemmas.{turned_at-left, turned_at-taken, turned_at-touched}
use Rattle.fm_edition.proofs.maps.page.turning.turn.turn_at.Goals as goal

pub returns-then-not-is_among : goal.returns-then-not-is_among
returns-then-not-is_among c = λ held.
    turned_at-left c.args.change.now.by c.args.touched.now c.args.change.now.op.now c.args.instant held (search rules)

pub returns-then-adds_at : goal.returns-then-adds_at
returns-then-adds_at c = λ held.
    let op = c.args.change.now.op.now in
    turned_at-touched c.args.change.now.by c.args.touched.now op c.args.instant held (added op) (search rules)
    (search rules)

pub returns-else-adds_at : goal.returns-else-adds_at
returns-else-adds_at c = λ held.
    turned_at-taken c.args.change.now.by c.args.touched.now c.args.change.now.op.now c.args.instant held (search rules)
    (search rules)

-- What readers see is shown once more, or the board is as before.
use Rattle.std.proofs.Common.{◌≡◌, List, drop, ◌∙◌}
use Rattle.left_right.specs.Sides.{view}
use Rattle.pub_pass.specs.Copies.{Copy}
use Rattle.pub_snap.proofs.Keeping.{again_ends, at_desk_again}
use Rattle.pub_snap.proofs.swap.show_again.Goals.{in-Ok-append, in-Err}
use Rattle.pub_snap.proofs.swap.show_again.Goals as goal

pub swap-requires : goal.swap-requires
swap-requires g c =
    let shown : Copy = c.args.board.desk.shown.value in
    let waiting : List Copy = drop c.args.board.behind c.args.board.log.items in
    let again : c.in-Ok.same ≡ shown = c.in-Ok.ensures ∙ c.published.ensures in
    let ends = again_ends g.N.Name.book g.N.Name.proto shown c.append.new.self.desk.shown.value c.in-Ok.same waiting
    (drop c.append.new.self.behind c.append.new.self.log.items) (rw c.append.ensures.desk) again
    c.in-Ok-append.ensures.pending in
    (shown, ends.0, ends.1)

pub returns : goal.returns
returns g c log booked is =
    let shown : Copy = c.args.board.desk.shown.value in
    let waiting : List Copy = drop c.args.board.behind c.args.board.log.items in
    let again : c.in-Ok.same ≡ shown = c.in-Ok.ensures ∙ c.published.ensures in
    elim c.match-append.branch [
      | in-Ok-append w ↦
          let ends = again_ends g.N.Name.book g.N.Name.proto shown c.append.new.self.desk.shown.value c.in-Ok.same
          waiting (drop c.append.new.self.behind c.append.new.self.log.items) (rw c.append.ensures.desk) again
          w.in-Ok-append.ensures.pending in
          let after = w.swap.ensures shown ends.0 in
          rw w.result-is (at_desk_again g.N.Name.proto log shown w.swap.result.desk.shown.value
          (view c.args.board.desk.place) (view w.swap.result.desk.place) booked after.0 after.1 is)
      | in-Err w ↦ rw (w.result-is, c.append.ensures.desk) is
    ]

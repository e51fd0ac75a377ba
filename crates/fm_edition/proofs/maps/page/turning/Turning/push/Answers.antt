-- What the entries show, with the files of one more instant.
use Rattle.std.proofs.Common.{ap, subst, sym, w64, ◌∙◌}
use Rattle.std.specs.Prelude.{slice_get}
use Rattle.std.proofs.lemmas.Int.{to_z-of_z}
use Rattle.std.proofs.lemmas.Result.{on_ok_weaker}
use Rattle.fm_edition.specs.Page.{turned_at}
use Rattle.fm_edition.specs.Turning.{files_of, turned, StandAt}
use Rattle.fm_edition.proofs.TurningLemmas.{listed-pushed, pushed-none, pushed-some}
use Rattle.fm_edition.proofs.maps.page.turning.Turning.push.Goals as goal

pub returns-in_default-clause-shown : goal.returns-in_default-clause-shown
returns-in_default-clause-shown c =
    let instant = to_z-of_z w64 c.args.instant c.ranges.instant in
    let before = c.args.self.now.before.now in
    let op = c.args.change.now.op.now in
    let turn = c.turn_at-turn.result in
    let next = c.index_after.new.self.lists in
    let files = turned turn op (slice_get before c.index_of-index.result) in
    let held = files_of before c.args.entry in
    pushed-none c.args.self.now.lists next c.args.entries.now c.args.instant
    (turned_at c.args.change.now.by c.args.touched.now op c.args.instant held) files c.in_ok-list.ensures.stay
    c.requires.listed
    (rw instant at (c.turn_at-turn.ensures held) ∙ ap (turned turn op) (sym c.index_of-index.ensures.files))
    (subst (StandAt next files) c.in_default.is c.in_ok-list.ensures.stands)

pub returns-clause-listed : goal.returns-clause-listed
returns-clause-listed c =
    let instant = to_z-of_z w64 c.args.instant c.ranges.instant in
    let next = c.index_after.new.self.lists in
    let files = turned c.turn_at-turn.result c.args.change.now.op.now
    (slice_get c.args.self.now.before.now c.index_of-index.result) in
    on_ok_weaker c.push.result (λ pushed. rw (rw instant at pushed) (listed-pushed c.args.self.now.lists next
    c.args.entries.now c.args.instant files c.in-Some.list c.in_ok-list.ensures.stay c.requires.listed
    (subst (StandAt next files) c.in-Some.is c.in_ok-list.ensures.stands))) c.push.ensures.ok

pub returns-clause-shown : goal.returns-clause-shown
returns-clause-shown c =
    let instant = to_z-of_z w64 c.args.instant c.ranges.instant in
    let before = c.args.self.now.before.now in
    let op = c.args.change.now.op.now in
    let turn = c.turn_at-turn.result in
    let next = c.index_after.new.self.lists in
    let files = turned turn op (slice_get before c.index_of-index.result) in
    let held = files_of before c.args.entry in
    on_ok_weaker c.push.result (λ pushed. rw (rw instant at pushed) (pushed-some c.args.self.now.lists next
    c.args.entries.now c.args.instant (turned_at c.args.change.now.by c.args.touched.now op c.args.instant held) files
    c.in-Some.list
    c.in_ok-list.ensures.stay c.requires.listed
    (rw instant at (c.turn_at-turn.ensures held) ∙ ap (turned turn op) (sym c.index_of-index.ensures.files))
    (subst (StandAt next files) c.in-Some.is c.in_ok-list.ensures.stands))) c.push.ensures.ok

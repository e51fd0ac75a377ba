use Rattle.std.proofs.Common.{◌≡◌, ◌∙◌, List, ap, drop, length, subst, sym, arith}
use Rattle.std.specs.List.{AllZip, filter_map}
use Rattle.std.proofs.lemmas.List.{take_all, take-append-le}
use Rattle.srv_workers.specs.Does.{Does, shows}
use Rattle.srv_workers.specs.Done.{HaveWorked}
use Rattle.srv_workers.specs.Workers.{door_of}
use Rattle.srv_workers.proofs.ShiftLemmas.{doors-worked, HaveWorked-is}
use Rattle.srv_workers.proofs.shift.work_and_learn.Goals as goal

-- all did their tasks, and then learnt the logs
pub returns-clause-done : goal.returns-clause-done
returns-clause-done g c =
    let same : c.as_mut_slice-workers.result.now ≡ c.args.staff =
    c.as_mut_slice-workers.ensures.value ∙ c.staff.view_is in
    let long : c.staff.inside.items.len ≡ length c.learn_all.new.staff =
    omega (arith, c.as_mut_slice-workers.ensures.len, c.work_each.auto.staff, c.learn_all.auto.staff) in
    let back = take-append-le c.staff.inside.items.len c.learn_all.new.staff
    (drop (length c.learn_all.new.staff) c.staff.inside.items.items) (omega (arith, long))
    ∙ take_all c.staff.inside.items.len c.learn_all.new.staff (omega (arith, long)) in
    let shown = shows g.D.Door.shown g.D.L.Link.shown g.I.Inbox.shown g.C.Clock.shown in
    let Done = HaveWorked shown c.args.keep g.X.Desks.means (g.X.Desks.logs c.alone-desks.result) in
    subst (Done c.args.staff) (sym back)
    (subst (λ (l : List _). Done l c.learn_all.new.staff) same
    (HaveWorked-is shown c.args.keep g.X.Desks.means (g.X.Desks.logs c.alone-desks.result)
    c.as_mut_slice-workers.result.now c.work_each.new.staff c.learn_all.new.staff c.work_each.ensures
    c.learn_all.ensures.begin c.learn_all.ensures.keep))

-- each log is sound, as there is still a door's worker
pub returns-clause-sound : goal.returns-clause-sound
returns-clause-sound g c some =
    let same : c.as_mut_slice-workers.result.now ≡ c.args.staff =
    c.as_mut_slice-workers.ensures.value ∙ c.staff.view_is in
    c.learn_all.ensures.sound (omega (
      arith,
      some,
      ap (λ (l : List _). length (filter_map door_of l)) same,
      doors-worked (shows g.D.Door.shown g.D.L.Link.shown g.I.Inbox.shown g.C.Clock.shown) c.args.keep g.X.Desks.means
          c.as_mut_slice-workers.result.now c.work_each.new.staff c.work_each.ensures,
    ))

use Rattle.std.proofs.Common.{◌∙◌, sym}
use Rattle.std.proofs.lemmas.Bool.{eqb-true}
use Rattle.srv_workers.proofs.BothLemmas.{learns-all, seen-all}
use Rattle.srv_workers.proofs.next.AndDeskBehind.learn_passes.Goals as goal

-- each has learnt its log
pub returns-then-not-level-clause-learns : goal.returns-then-not-level-clause-learns
returns-then-not-level-clause-learns g c =
    learns-all g.N.Name.proto g.X.Desks.means.them g.X.Passes.Row.known c.args.all.now.first
    (g.X.Desks.told c.args.all.now.others) c.args.passes.now
    (record { first = c.learn.new.self; others = c.learn_passes-level.new.passes }) c.learn.ensures.own
    c.learn.ensures.told c.learn_passes-level.ensures.learns

pub returns-clause-learns : goal.returns-clause-learns
returns-clause-learns g c =
    learns-all g.N.Name.proto g.X.Desks.means.them g.X.Passes.Row.known c.args.all.now.first
    (g.X.Desks.told c.args.all.now.others) c.args.passes.now
    (record { first = c.learn.new.self; others = c.learn_passes-level.new.passes }) c.learn.ensures.own
    c.learn.ensures.told c.learn_passes-level.ensures.learns

-- and has seen just that
pub returns-clause-seen : goal.returns-clause-seen
returns-clause-seen g c same =
    seen-all g.N.Name.proto g.X.Desks.means.them g.X.Passes.Row.known c.args.all.now.first
    (g.X.Desks.told c.args.all.now.others)
    (record { first = c.learn.new.self; others = c.learn_passes-level.new.passes })
    (sym c.seen.ensures.number ∙ eqb-true _ _ same ∙ c.revision.ensures) c.seen.ensures.sound
    (c.learn_passes-level.ensures.seen c.if-not-level.false)

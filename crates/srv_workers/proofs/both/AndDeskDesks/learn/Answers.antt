use Rattle.std.proofs.Common.{subst, sym}
use Rattle.srv_workers.specs.declared.both.OneOf.TheVariants.{Other, This}
use Rattle.srv_workers.specs.Both.{all_means, first_then}
use Rattle.srv_workers.specs.Desks.{LearnsItsLog}
use Rattle.srv_workers.proofs.BothLemmas.{learns-behind, seen-behind}
use Rattle.srv_workers.proofs.both.AndDeskDesks.learn.Goals as goal

-- the log of the first desk
pub returns-in-This-clause-learns : goal.returns-in-This-clause-learns
returns-in-This-clause-learns g c =
    let means = all_means g.N.Name.proto g.X.Desks.means in
    subst (λ hand. LearnsItsLog (first_then c.args.all.now.first (g.X.Desks.told c.args.all.now.others))
    (means.publisher hand) (means.publisher (This c.learn.new.hand))) (sym c.in-This.is) (record {
      desk = c.learn.ensures.learns.desk;
      share = c.learn.ensures.learns.share;
      later = c.learn.ensures.learns.later;
      told = c.learn.ensures.learns.told;
    })

pub returns-in-This-clause-seen : goal.returns-in-This-clause-seen
returns-in-This-clause-seen g c level =
    let seen = c.learn.ensures.seen level in record { level = seen.level; sound = seen.sound }

-- that of one of the others
pub returns-in-Other-clause-learns : goal.returns-in-Other-clause-learns
returns-in-Other-clause-learns g c =
    let means = all_means g.N.Name.proto g.X.Desks.means in
    subst (λ hand. LearnsItsLog (first_then c.args.all.now.first (g.X.Desks.told c.args.all.now.others))
    (means.publisher hand) (means.publisher (Other c.learn-in-Other.new.hand))) (sym c.in-Other.is)
    (learns-behind c.args.all.now.first (g.X.Desks.told c.args.all.now.others)
    (g.X.Desks.means.publisher c.in-Other.other) (g.X.Desks.means.publisher c.learn-in-Other.new.hand)
    c.learn-in-Other.ensures.learns)

pub returns-in-Other-clause-seen : goal.returns-in-Other-clause-seen
returns-in-Other-clause-seen g c level =
    seen-behind g.N.Name.proto g.X.Desks.means.them c.args.all.now.first (g.X.Desks.told c.args.all.now.others)
    (g.X.Desks.means.publisher c.learn-in-Other.new.hand) (c.know.ensures.within c.learn-in-Other.new.hand)
    (c.learn-in-Other.ensures.seen level)

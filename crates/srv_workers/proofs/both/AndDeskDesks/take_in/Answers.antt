use Rattle.std.proofs.Common.{subst, sym}
use Rattle.srv_workers.specs.declared.both.OneOf.TheVariants.{Other, This}
use Rattle.srv_workers.specs.Both.{all_means}
use Rattle.srv_workers.specs.Work.{TakesIn}
use Rattle.srv_workers.proofs.BothLemmas.{takes-behind}
use Rattle.srv_workers.proofs.both.AndDeskDesks.take_in.Goals as goal

-- at the first desk
pub returns-in-This : goal.returns-in-This
returns-in-This g c =
    let means = all_means g.N.Name.proto g.X.Desks.means in
    subst (λ hand. TakesIn g.I.Inbox.shown means.them (means.publisher hand)
    (means.publisher (This c.take_in.new.hand)) c.args.inbox.now c.take_in.new.inbox c.take_in.result)
    (sym c.in-This.is) (record {
      settles = c.take_in.ensures.settles;
      ends = c.take_in.ensures.ends;
      counted = c.take_in.ensures.counted;
      same_desk = c.take_in.ensures.same_desk;
    })

-- at one of the others
pub returns-in-Other : goal.returns-in-Other
returns-in-Other g c =
    let means = all_means g.N.Name.proto g.X.Desks.means in
    subst (λ hand. TakesIn g.I.Inbox.shown means.them (means.publisher hand)
    (means.publisher (Other c.take_in-in-Other.new.hand)) c.args.inbox.now c.take_in-in-Other.new.inbox
    c.take_in-in-Other.result) (sym c.in-Other.is)
    (takes-behind g.I.Inbox.shown g.N.Name.proto g.X.Desks.means.them (g.X.Desks.means.publisher c.in-Other.other)
    (g.X.Desks.means.publisher c.take_in-in-Other.new.hand) c.args.inbox.now c.take_in-in-Other.new.inbox
    c.take_in-in-Other.result (c.know.ensures.within c.in-Other.other) c.take_in-in-Other.ensures)

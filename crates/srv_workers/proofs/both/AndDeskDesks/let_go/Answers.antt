use Rattle.std.proofs.Common.{subst, sym}
use Rattle.srv_workers.specs.declared.both.OneOf.TheVariants.{Other, This}
use Rattle.srv_workers.specs.Both.{all_means}
use Rattle.srv_workers.specs.Work.{LetsGo}
use Rattle.srv_workers.proofs.BothLemmas.{lets-behind}
use Rattle.srv_workers.proofs.both.AndDeskDesks.let_go.Goals as goal

-- at the first desk
pub returns-in-This : goal.returns-in-This
returns-in-This g c =
    let means = all_means g.N.Name.proto g.X.Desks.means in
    subst (λ hand. LetsGo g.C.Clock.shown means.them c.args.keep (means.publisher hand)
    (means.publisher (This c.let_go.new.hand)) c.args.clock.now c.let_go.new.clock c.let_go.result)
    (sym c.in-This.is) (record {
      settles = c.let_go.ensures.settles;
      counted = c.let_go.ensures.counted;
      same_desk = c.let_go.ensures.same_desk;
    })

-- at one of the others
pub returns-in-Other : goal.returns-in-Other
returns-in-Other g c =
    let means = all_means g.N.Name.proto g.X.Desks.means in
    subst (λ hand. LetsGo g.C.Clock.shown means.them c.args.keep (means.publisher hand)
    (means.publisher (Other c.let_go-in-Other.new.hand)) c.args.clock.now c.let_go-in-Other.new.clock
    c.let_go-in-Other.result) (sym c.in-Other.is)
    (lets-behind g.C.Clock.shown g.N.Name.proto g.X.Desks.means.them c.args.keep
    (g.X.Desks.means.publisher c.in-Other.other) (g.X.Desks.means.publisher c.let_go-in-Other.new.hand)
    c.args.clock.now c.let_go-in-Other.new.clock c.let_go-in-Other.result (c.know.ensures.within c.in-Other.other)
    c.let_go-in-Other.ensures)

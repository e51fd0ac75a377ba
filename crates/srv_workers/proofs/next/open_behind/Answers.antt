use Rattle.std.proofs.Common.{◌∙◌, ◌+◌, ◌≡◌, ℕ, sym}
use Rattle.srv_workers.specs.Both.{first_then}
use Rattle.srv_workers.proofs.FirstLemmas.{for-each}
use Rattle.srv_workers.proofs.GivenLemmas.{many-length}
use Rattle.srv_workers.proofs.OutLemmas.{AreGivenOut-all, IsVacant-all}
use Rattle.srv_workers.proofs.next.open_behind.Goals as goal

-- the others are opened from their blanks
pub open-requires-clause-blanks : goal.open-requires-clause-blanks
open-requires-clause-blanks g c = c.requires.blanks

pub open-requires-clause-protos : goal.open-requires-clause-protos
open-requires-clause-protos g c = c.requires.protos

pub open-requires-clause-few : goal.open-requires-clause-few
open-requires-clause-few g c = c.requires.few

-- there are passes, shares and places for all of the first desk
pub given_at-own-requires-clause-passes : goal.given_at-own-requires-clause-passes
given_at-own-requires-clause-passes g c = c.requires.passes

pub given_at-own-requires-clause-shares : goal.given_at-own-requires-clause-shares
given_at-own-requires-clause-shares g c = c.requires.shares

pub given_at-own-requires-clause-places : goal.given_at-own-requires-clause-places
given_at-own-requires-clause-places g c = c.requires.first

-- there is room for what all are given
pub given_all-requires-clause-each : goal.given_all-requires-clause-each
given_all-requires-clause-each g c =
    c.in-Ok.ensures.given.eyes_are ∙ sym (many-length _ _ _ c.given_at-own.ensures.eyes)

pub given_all-requires-clause-vacant : goal.given_all-requires-clause-vacant
given_all-requires-clause-vacant g c =
    IsVacant-all g.N.Name.proto g.X.Desks.means.them _ g.X.Desks.means.publisher c.args.doors c.args.clocks
    c.given_at-own.result c.in-Ok.given c.args.joint.all c.requires.few.1 c.given_at-own.ensures.eyes
    c.given_at-own.ensures.at_inboxes c.given_at-own.ensures.at_clocks c.in-Ok.ensures.given c.requires.all

-- where the others couldn't be opened, the first desk has all its shares back
pub close-requires : goal.close-requires
close-requires g c = many-length _ _ _ c.requires.shares ∙ sym c.requires.parts

-- all were given out
pub returns-in-Ok-clause-given : goal.returns-in-Ok-clause-given
returns-in-Ok-clause-given g c =
    AreGivenOut-all g.N.Name.proto g.X.Desks.means.them g.X.Passes.Row.known g.X.Desks.means.publisher c.args.doors
    c.args.clocks c.given_at-own.result c.in-Ok.given c.given_all.result c.given_at-own.ensures.eyes
    c.given_at-own.ensures.at_inboxes c.given_at-own.ensures.at_clocks c.in-Ok.ensures.given
    c.given_all.ensures.eyes c.given_all.ensures.at_inboxes c.given_all.ensures.at_clocks

pub returns-in-Ok-clause-parts : goal.returns-in-Ok-clause-parts
returns-in-Ok-clause-parts g c =
    for-each (λ (number : ℕ). first_then g.N.Ledger.parts g.X.Desks.parts number ≡ 1 + c.args.clocks)
    g.X.Desks.means.them.count c.requires.parts c.in-Ok.ensures.parts

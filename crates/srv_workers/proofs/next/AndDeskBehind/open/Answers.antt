use Rattle.std.proofs.Common.{◌∙◌, ℕ, List, ap, drop, get_or, length, subst, sym}
use Rattle.std.proofs.lemmas.List.{take_rest}
use Rattle.fm_model.specs.declared.proto.Proto.{Proto}
use Rattle.srv_workers.proofs.BlankLemmas.{first-and, first-there}
use Rattle.srv_workers.proofs.BothLemmas.{all-protos, count-all}
use Rattle.srv_workers.specs.Given.{IsVacant}
use Rattle.srv_workers.specs.Places.{HasPlaces}
use Rattle.srv_workers.proofs.GivenLemmas.{of-many}
use Rattle.srv_workers.proofs.next.AndDeskBehind.open.Goals as goal

-- the first blank is there, and named
pub take_off-blank-requires : goal.take_off-blank-requires
take_off-blank-requires g c = first-there _ c.requires.blanks

pub open-requires : goal.open-requires
open-requires g c = (first-and _ _ _ c.requires.blanks c.take_off-blank.ensures).0.0

-- there are passes and shares for all of the first desk
pub open_behind-requires-clause-passes : goal.open_behind-requires-clause-passes
open_behind-requires-clause-passes g c =
    let first = (first-and _ _ _ c.requires.blanks c.take_off-blank.ensures).0 in
    of-many _ _ _ _ c.in-Ok-open.ensures.passes first.1.passes_are

pub open_behind-requires-clause-shares : goal.open_behind-requires-clause-shares
open_behind-requires-clause-shares g c =
    let first = (first-and _ _ _ c.requires.blanks c.take_off-blank.ensures).0 in
    of-many _ _ _ _ c.in-Ok-open.ensures.shares first.1.shares_are

pub open_behind-requires-clause-parts : goal.open_behind-requires-clause-parts
open_behind-requires-clause-parts g c =
    let first = (first-and _ _ _ c.requires.blanks c.take_off-blank.ensures).0 in
    sym first.0.parts_are ∙ first.1.shares_are

-- the others are opened from their blanks
pub open_behind-requires-clause-blanks : goal.open_behind-requires-clause-blanks
open_behind-requires-clause-blanks g c = (first-and _ _ _ c.requires.blanks c.take_off-blank.ensures).1

pub open_behind-requires-clause-protos : goal.open_behind-requires-clause-protos
open_behind-requires-clause-protos g c =
    take_rest c.args.protos.now 1 ∙ ap (λ (l : List Proto). drop 1 l)
    (c.requires.protos ∙ all-protos g.N.Name.proto g.X.Desks.means.them)

-- there is room for what all are given
pub open_behind-requires-clause-first : goal.open_behind-requires-clause-first
open_behind-requires-clause-first g c =
    subst (λ (p : Proto). HasPlaces p c.args.doors 1 c.args.clocks c.in-Ok.joint.first)
    (c.index-protos-0.is ∙ ap (λ (l : List Proto). get_or l 0 c.index-protos-0.result) c.requires.protos)
    c.in-Ok.ensures.first

pub open_behind-requires-clause-all : goal.open_behind-requires-clause-all
open_behind-requires-clause-all g c =
    subst (λ (n : ℕ). IsVacant c.args.doors n n c.in-Ok.joint.all)
    (ap (λ (l : List Proto). length l) (c.requires.protos ∙ all-protos g.N.Name.proto g.X.Desks.means.them)
    ∙ count-all g.N.Name.proto g.X.Desks.means.them) c.in-Ok.ensures.all

pub open_behind-requires-clause-few : goal.open_behind-requires-clause-few
open_behind-requires-clause-few g c = c.requires.few

-- all were given out
pub returns-in-Ok-open-clause-given : goal.returns-in-Ok-open-clause-given
returns-in-Ok-open-clause-given g c = c.open_behind.ensures.given

pub returns-in-Ok-open-clause-parts : goal.returns-in-Ok-open-clause-parts
returns-in-Ok-open-clause-parts g c = c.open_behind.ensures.parts

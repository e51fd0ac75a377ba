use Rattle.std.proofs.Common.{◌∙◌, List, ap, get_or, subst, sym}
use Rattle.fm_model.specs.declared.proto.Proto.{Proto}
use Rattle.srv_workers.specs.Places.{HasPlaces}
use Rattle.srv_workers.proofs.BlankLemmas.{first-and, first-there}
use Rattle.srv_workers.proofs.GivenLemmas.{of-many}
use Rattle.srv_workers.proofs.OutLemmas.{AreGivenOut-one}
use Rattle.srv_workers.proofs.last.DeskBehind.open.Goals as goal

-- the blank is there, and named
pub first_blank-requires : goal.first_blank-requires
first_blank-requires g c = first-there _ c.requires.blanks

pub open-requires : goal.open-requires
open-requires g c = (first-and _ _ _ c.requires.blanks c.first_blank.ensures).0.0

-- there are passes, shares and places for all
pub given_at-given-requires-clause-passes : goal.given_at-given-requires-clause-passes
given_at-given-requires-clause-passes g c =
    let first = (first-and _ _ _ c.requires.blanks c.first_blank.ensures).0 in
    of-many _ _ _ _ c.in-Ok-open.ensures.passes first.1.passes_are

pub given_at-given-requires-clause-shares : goal.given_at-given-requires-clause-shares
given_at-given-requires-clause-shares g c =
    let first = (first-and _ _ _ c.requires.blanks c.first_blank.ensures).0 in
    of-many _ _ _ _ c.in-Ok-open.ensures.shares first.1.shares_are

pub given_at-given-requires-clause-places : goal.given_at-given-requires-clause-places
given_at-given-requires-clause-places g c =
    subst (λ (p : Proto). HasPlaces p c.args.doors 1 c.args.clocks c.in-Ok.places)
    (c.index-protos-0.is ∙ ap (λ (l : List Proto). get_or l 0 c.index-protos-0.result) c.requires.protos)
    c.in-Ok.ensures

-- they were given out
pub returns-in-Ok-open-clause-given : goal.returns-in-Ok-open-clause-given
returns-in-Ok-open-clause-given g c =
    AreGivenOut-one g.N.Name.proto c.args.doors c.args.clocks c.given_at-given.result c.given_at-given.ensures.eyes
    c.given_at-given.ensures.at_inboxes c.given_at-given.ensures.at_clocks

pub returns-in-Ok-open-clause-parts : goal.returns-in-Ok-open-clause-parts
returns-in-Ok-open-clause-parts g c number below =
    let first = (first-and _ _ _ c.requires.blanks c.first_blank.ensures).0 in
    sym first.0.parts_are ∙ first.1.shares_are

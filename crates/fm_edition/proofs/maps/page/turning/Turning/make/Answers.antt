-- The spots of each list, once that of one is noted.
use Rattle.std.proofs.Common.{◌∙◌, refl, subst, arith}
use Rattle.std.proofs.lemmas.List.{length-set}
use Rattle.fm_edition.specs.Turning.{StandAt}
use Rattle.fm_edition.proofs.TurningLemmas.{each-noted}
use Rattle.fm_edition.proofs.maps.page.turning.Turning.make.Goals as goal

pub returns : goal.returns
returns c =
    let before = c.args.self.now.before.now in
    let spots = c.args.self.now.spots in
    let next = c.push_list.new.lists in
    let stands = subst (λ files. StandAt next files c.in_ok-at.at) c.in_ok-list.ensures c.in_ok-at.ensures.stands in
    rw c.note.ensures (record {
      before = refl;
      known = record {
        count = length-set spots c.args.index _ ∙ c.requires.known.count;
        each = each-noted before c.args.self.now.lists next c.args.change.now.op.now spots c.args.index c.args.turn
            c.in_ok-at.at (omega (arith, c.requires.index, c.requires.known.count)) c.in_ok-at.ensures.stay stands
            c.requires.known.each;
      };
      stay = c.in_ok-at.ensures.stay;
      stands = stands;
    })

-- The files of the first run are its own.
use Rattle.std.proofs.Common.{[], ◌∷◌, rules, refl, SFits, w64}
use Rattle.std.proofs.lemmas.Int.{to_z-of_z}
use Rattle.fm_edition.specs.Latest.{IsOfRun}
use Rattle.fm_edition.proofs.WalkLemmas.{all_first, all_rest}
use Rattle.fm_edition.proofs.maps.latest.Latest.first_of.Goals as goal

pub returns : goal.returns
returns c = λ held are.
    let own = c.args.own.now in
    let later = c.args.later.now in
    let a : SFits w64 own.run = search rules in
    let first = all_first (IsOfRun held) own later (own ∷ later) refl are.own in
    simp to_z-of_z (record {
      before = [];
      runs = are.are;
      own = rw c.again.ensures first;
      rest = all_rest (IsOfRun held) own later (own ∷ later) refl are.own;
      sound = are.sound;
    })
